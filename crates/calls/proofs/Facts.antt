-- What a legal sheet tells, as facts about its numbers.
use mathlib.Core.Path.{◌≡◌}
use mathlib.Core.Logic.{◌⊎◌, inl, inr}
use Prim.Native.Nat.{ℕ, ◌*◌, ◌%◌, ◌≤◌, ◌<◌}
use native.Mathlib.Nat.{le_trans, mul-le-mul_left, mul-le-mul_right}
use native.Mathlib.Omega.{arith}
use mathlib.Core.Bool.{Bool, true, false, ◌||◌}
use lib.Dec.{T, eqb, leb→le, eqb→eq}
use lib.ListN.{length}
use lib.Ieee.Fits.{and_l, and_r}
use Rattle.calls.specs.Run.{Numbers, Sheet, Given, own, count, area, coefs, every, weight, own_ok, header_ok, sheet_ok}
use Rattle.calls.specs.Between.{GivenOk}
use Rattle.calls.proofs.Tests.{every_at}

pub record OwnIs (S : Sheet) (o : Numbers) : Type 0 where
  pub width_8 : o.width % 8 ≡ 0
  pub width-pos : 8 ≤ o.width
  pub height_8 : o.height % 8 ≡ 0
  pub height_pos : 8 ≤ o.height
  pub across_pos : 1 ≤ o.across
  pub across_4 : o.across ≤ 4
  pub down_pos : 1 ≤ o.down
  pub down_4 : o.down ≤ 4
  pub covers_across : o.width * o.across ≤ S.W
  pub covers_down : o.height * o.down ≤ S.H
  pub weight_ok : T (weight o.data_weight)
  pub held_most : o.held ≤ S.N

pub own_is : (S : Sheet) (o : Numbers) → T (own_ok S o) → OwnIs S o
unfolding own_ok
own_is S o t =
    record {
      width_8 = eqb→eq (o.width % 8) 0 (search (and_l, and_r) depth 12);
      width-pos = leb→le 8 o.width (search (and_l, and_r) depth 12);
      height_8 = eqb→eq (o.height % 8) 0 (search (and_l, and_r) depth 12);
      height_pos = leb→le 8 o.height (search (and_l, and_r) depth 12);
      across_pos = leb→le 1 o.across (search (and_l, and_r) depth 12);
      across_4 = leb→le o.across 4 (search (and_l, and_r) depth 12);
      down_pos = leb→le 1 o.down (search (and_l, and_r) depth 12);
      down_4 = leb→le o.down 4 (search (and_l, and_r) depth 12);
      covers_across = leb→le (o.width * o.across) S.W (search (and_l, and_r) depth 12);
      covers_down = leb→le (o.height * o.down) S.H (search (and_l, and_r) depth 12);
      weight_ok = search (and_l, and_r) depth 12;
      held_most = leb→le o.held S.N (search (and_l, and_r) depth 12);
    }

one_or_three : (n : ℕ) → T (eqb n 1 || eqb n 3) → (n ≡ 1) ⊎ (n ≡ 3)
one_or_three n = go (eqb n 1) (eqb→eq n 1)
  where
    go : (b : Bool) → (T b → n ≡ 1) → T (b || eqb n 3) → (n ≡ 1) ⊎ (n ≡ 3)
    go true h t = inl (h tt)
    go false h t = inr (eqb→eq n 3 t)

pub record SheetIs (S : Sheet) : Type 0 where
  pub W-8 : S.W % 8 ≡ 0
  pub W-pos : 8 ≤ S.W
  pub W-512 : S.W ≤ 512
  pub H-8 : S.H % 8 ≡ 0
  pub H-pos : 8 ≤ S.H
  pub H-512 : S.H ≤ 512
  pub N-1000 : S.N ≤ 1000
  pub smoothing_ok : T (weight S.smoothing)
  pub channels : (S.count ≡ 1) ⊎ (S.count ≡ 3)
  pub owns_long : length S.owns ≡ S.count
  pub each_own : (c : ℕ) → c < S.count → OwnIs S (own S c)

pub sheet_is : (S : Sheet) → T (sheet_ok S) → SheetIs S
unfolding sheet_ok header_ok
sheet_is S t =
    record {
      W-8 = eqb→eq (S.W % 8) 0 (search (and_l, and_r) depth 12);
      W-pos = leb→le 8 S.W (search (and_l, and_r) depth 12);
      W-512 = leb→le S.W 512 (search (and_l, and_r) depth 12);
      H-8 = eqb→eq (S.H % 8) 0 (search (and_l, and_r) depth 12);
      H-pos = leb→le 8 S.H (search (and_l, and_r) depth 12);
      H-512 = leb→le S.H 512 (search (and_l, and_r) depth 12);
      N-1000 = leb→le S.N 1000 (search (and_l, and_r) depth 12);
      smoothing_ok = search (and_l, and_r) depth 12;
      channels = one_or_three S.count (search (and_l, and_r) depth 12);
      owns_long = eqb→eq (length S.owns) S.count (search (and_l, and_r) depth 12);
      each_own = λ c h. own_is S (own S c) (every_at S.count (λ c. own_ok S (own S c)) (and_r (header_ok S) (every S.count (λ c. own_ok S (own S c))) t) c h);
    }

-- a channel's coefficients fit its part of a lent buffer
pub own_fits : (S : Sheet) (o : Numbers) → OwnIs S o → o.width * o.height ≤ S.W * S.H
own_fits S o h =
    let wide : o.width ≤ S.W = omega (arith, mul-le-mul_left o.width h.across_pos, h.covers_across) in
    let high : o.height ≤ S.H = omega (arith, mul-le-mul_left o.height h.down_pos, h.covers_down) in
    le_trans (mul-le-mul_right o.height wide) (mul-le-mul_left S.W high)

pub coefs_fit : (G : Given) → GivenOk G → (c : ℕ) → c < count G → coefs G.sheet c ≤ area G
coefs_fit G ok c h = own_fits G.sheet (own G.sheet c) ((sheet_is G.sheet ok.sheet-ok).each_own c h)
