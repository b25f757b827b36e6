-- What a legal sheet's numbers are at most, at the program's side limit, and what that tells of finish and of the printed texts.
use mathlib.Core.Path.{◌≡◌, refl, ap, ◌∙◌}
use mathlib.Core.Bool.{◌&&◌, ◌||◌}
use mathlib.Core.List.{List}
use Prim.Native.Nat.{ℕ, ◌*◌, ◌≤◌}
use native.Mathlib.Nat.{mul-le-mul}
use native.Mathlib.Omega.{arith}
use lib.Dec.{T, leb, eqb, le→leb}
use lib.Ieee.{Float}
use lib.Ieee.Fits.{and_i, eq→eqb}
use lib.ListN.{length}
use Rattle.contents.specs.Legal.{Between, LegalSide, LegalHeader}
use Rattle.contents.specs.declared.Header.{Header}
use Rattle.picture.specs.declared.Rounding.{Rounding}
use Rattle.picture.specs.Finish as Finish
use Rattle.std.specs.Prelude.{Ok}
use Rattle.output.specs.Output.{picture_text, picture_answer, refusal_answer}
use Rattle.output.proofs.Sizes.{room_more, picture-answer, refusal-answer}
use Rattle.program.specs.Printed.{limits, painted, most_picture, most_printed}
use Rattle.program.proofs.Accepts.{at-most, is_true, counted, wider, full_test}

module _ (h : Header) (l : LegalHeader limits h) where
  pub area_small : h.width * h.height ≤ 1024
  area_small = mul-le-mul l.width.top l.height.top

  pub values_small : h.channels * (h.width * h.height) ≤ 3072
  values_small = mul-le-mul (at-most h.channels l.channels) area_small

  -- finish does its work
  side_test : (n : ℕ) → LegalSide 32 n → T (Finish.side n)
  side_test n s = full_test n (wider 32 512 n s (omega arith))

  within_test : (m n : ℕ) → Between 1 m n → T (Finish.within m n)
  within_test m n b = and_i (leb 1 n) (leb n m) (le→leb 1 n b.low) (le→leb n m b.top)

  legal_test : T (Finish.legal h.width h.height h.picture_width h.picture_height h.channels)
  legal_test =
      let a = Finish.side h.width in
      let b = Finish.side h.height in
      let c = Finish.within h.width h.picture_width in
      let d = Finish.within h.height h.picture_height in
      let e = eqb h.channels 1 || eqb h.channels 3 in
      and_i a (b && (c && (d && e))) (side_test h.width l.width)
      (and_i b (c && (d && e)) (side_test h.height l.height)
      (and_i c (d && e) (within_test h.width h.picture_width l.shown_width)
      (and_i d e (within_test h.height h.picture_height l.shown_height) (counted h.channels l.channels))))

  module _ (f : Rounding) (planes : List Float) (long : length planes ≡ h.channels * (h.width * h.height)) (rgb : List ℕ) (room : length rgb ≡ 3 * (h.picture_width * h.picture_height)) where
    fitting_test : T (Finish.fitting h.width h.height h.picture_width h.picture_height h.channels (length planes) (length rgb))
    fitting_test = and_i (eqb (length planes) (h.channels * (h.width * h.height))) (eqb (length rgb) (3 * (h.picture_width * h.picture_height))) (eq→eqb long) (eq→eqb room)

    pub finished : Finish.finishing f h.width h.height h.picture_width h.picture_height h.channels planes rgb
        ≡ record { answer = Finish.done; bytes = Finish.picture (Finish.to_byte f) h.width h.height h.picture_width h.picture_height h.channels planes }
    unfolding Finish.finishing
    finished =
        rw (is_true (Finish.legal h.width h.height h.picture_width h.picture_height h.channels) legal_test)
        (rw (is_true (Finish.fitting h.width h.height h.picture_width h.picture_height h.channels (length planes) (length rgb)) fitting_test) refl)

  -- the picture's text fits
  pub picture_fits : (bytes room : ℕ) → bytes ≡ 3 * (h.picture_width * h.picture_height) → most_picture ≤ room
      → picture_answer h.picture_width h.picture_height bytes room ≡ Ok tt
  picture_fits bytes room n r =
      let wide : h.picture_width ≤ 32 = omega (arith, l.shown_width.top, l.width.top) in
      let high : h.picture_height ≤ 32 = omega (arith, l.shown_height.top, l.height.top) in
      picture-answer h.picture_width h.picture_height bytes room (omega arith) (omega arith) n
      (omega (arith, room_more h.picture_width h.picture_height 32 32 wide high))

-- and is that of the picture
pub written : (f : Rounding) (h : Header) (planes : List Float) (bytes : List ℕ)
    → bytes ≡ Finish.picture (Finish.to_byte f) h.width h.height h.picture_width h.picture_height h.channels planes
    → picture_text h.picture_width h.picture_height bytes ≡ painted f h planes
unfolding painted
written f h planes bytes e = ap (picture_text h.picture_width h.picture_height) e

-- a refusal's text fits
pub refused : (line room : ℕ) → line ≤ 999999 → most_printed ≤ room → refusal_answer line room ≡ Ok tt
refused line room h r = refusal-answer line room h (omega arith)
