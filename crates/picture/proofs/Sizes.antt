-- Legal sizes as facts, and the products of them. Assumes nothing.
use Rattle.std.proofs.Common.{◌≡◌, ℕ, ◌+◌, ◌*◌, ◌%◌, ◌^◌, ◌<◌, ◌≤◌, Bool, true, false, ◌&&◌, ◌||◌, T, eqb, leb, sym, ◌∙◌, subst, mul-le-mul_right, mul_comm, mul-le-mul_left, mul_left_comm, arith, eqb→eq, leb→le}
use lib.Ieee.Fits.{and_l, and_r}
use Rattle.fold.proofs.Grid.{row_end}
use Rattle.picture.specs.Finish.{side, within, legal, fitting}

pub area : (a b : ℕ) → a ≤ 512 → b ≤ 512 → a * b ≤ 262144
area a b h k = omega (arith, mul-le-mul_right b h)

pub product_fits : {a b : ℕ} → a ≤ 512 → b ≤ 512 → a * b < 2 ^ 64
product_fits {a} {b} h k = omega (arith, area a b h k)

pub record Sizes (w h width height channels : ℕ) : Type 0 where
  pub wide : w ≤ 512
  pub high : h ≤ 512
  pub width_in : width ≤ w
  pub height_in : height ≤ h
  pub some : 1 ≤ channels
  pub few : channels ≤ 3

counts : (c : ℕ) → T (eqb c 1 || eqb c 3) → (1 ≤ c) × (c ≤ 3)
counts c t = go (eqb c 1) (eqb c 3) (eqb→eq c 1) (eqb→eq c 3) t
  where
    go : (a b : Bool) → (T a → c ≡ 1) → (T b → c ≡ 3) → T (a || b) → (1 ≤ c) × (c ≤ 3)
    go true b f g t = let e = f tt in (omega arith, omega arith)
    go false true f g t = let e = g tt in (omega arith, omega arith)
    go false false f g t = absurd t

pub sizes : (w h width height channels : ℕ) → legal w h width height channels ≡ true → Sizes w h width height channels
sizes w h width height channels e =
    let t : T (legal w h width height channels) = subst T (sym e) tt in
    let t1 = and_r (side w) _ t in
    let t2 = and_r (side h) _ t1 in
    let t3 = and_r (within w width) _ t2 in
    let t4 = and_r (within h height) _ t3 in
    let sw = and_l (side w) _ t in
    let sh = and_l (side h) _ t1 in
    record {
      wide = leb→le w 512 (and_r (eqb (w % 8) 0 && leb 8 w) _ sw);
      high = leb→le h 512 (and_r (eqb (h % 8) 0 && leb 8 h) _ sh);
      width_in = leb→le width w (and_r (leb 1 width) _ (and_l (within w width) _ t2));
      height_in = leb→le height h (and_r (leb 1 height) _ (and_l (within h height) _ t3));
      some = (counts channels t4).0;
      few = (counts channels t4).1;
    }

-- so every product of them fits
pub values : {w h width height channels : ℕ} → Sizes w h width height channels → channels * (w * h) ≤ 786432
values {w} {h} {width} {height} {channels} s = omega (arith, area w h s.wide s.high, mul-le-mul_right (w * h) s.few)

pub shown : {w h width height channels : ℕ} → Sizes w h width height channels → width * height ≤ 262144
shown {w} {h} {width} {height} {channels} s = area width height (omega arith) (omega arith)

-- a row of the picture lies within the planes, also where rows start less than w apart
pub row-in : (y v width w h : ℕ) → y < h → v ≤ w → width ≤ w → y * v + width ≤ w * h
row-in y v width w h l k m = omega (arith, row_end y h w l, mul_comm w h, mul-le-mul_left y k)

-- lengths that fit, as facts
pub record Lengths (w h width height channels values bytes : ℕ) : Type 0 where
  pub planes : values ≡ channels * (w * h)
  pub rgb : bytes ≡ height * (width * 3)

pub lengths : (w h width height channels values bytes : ℕ) → fitting w h width height channels values bytes ≡ true
    → Lengths w h width height channels values bytes
lengths w h width height channels values bytes e =
    let t : T (fitting w h width height channels values bytes) = subst T (sym e) tt in
    let a = eqb values (channels * (w * h)) in
    record {
      planes = eqb→eq values (channels * (w * h)) (and_l a _ t);
      rgb = eqb→eq bytes (3 * (width * height)) (and_r a _ t) ∙ simp (mul_comm, mul_left_comm);
    }
