-- `fused_at` is what std says of `mul_add`, in either format: std has the exact sum over one denominator. Assumes nothing.
use Rattle.std.proofs.Common.{◌≡◌, ◌*◌, refl, sym, mul_assoc, mul-pos}
use Rattle.std.specs.Float.{float_mul_add}
use lib.Ieee.{Float, Format, nan, inf, fin, binary32, unlike, up, down, add, mul}
use lib.Ieee.Fits.{down_pos}
use Rattle.float.specs.Ops.{product, fused, fused_at}
use Rattle.float.proofs.SumCases.{add_value}
use Rattle.float.proofs.Values.{product_value, rescale}

pub fused_std : (f : Format) (a b c : Float) → float_mul_add f a b c ≡ fused_at f a b c
unfolding float_mul_add fused_at product add mul
fused_std f nan b c = refl
fused_std f (inf s) nan c = refl
fused_std f (inf s) (inf t) c = refl
fused_std f (inf s) (fin t n d) c = refl
fused_std f (fin s m e) nan c = refl
fused_std f (fin s m e) (inf t) c = refl
fused_std f (fin s m e) (fin t n d) nan = refl
fused_std f (fin s m e) (fin t n d) (inf u) = refl
fused_std f (fin s m e) (fin t n d) (fin u k g) =
    let a = m * up e * (n * up d) in
    let b = down e * down d in
    let x = product (fin s m e) (fin t n d) in
    sym (add_value f x (fin u k g) (unlike s t) u (a * down g) (k * up g * b) (b * down g) (mul-pos (mul-pos (down_pos e) (down_pos d)) (down_pos g))
    (rescale x (unlike s t) a b (down g) (product_value (fin s m e) (fin t n d) s t (m * up e) (n * up d) (down e) (down d) (refl, refl) (refl, refl)))
    (refl, sym (mul_assoc (k * up g) b (down g))))

pub fused_is : (a b c : Float) → float_mul_add binary32 a b c ≡ fused a b c
unfolding fused
fused_is a b c = fused_std binary32 a b c
