-- One table off the front of what is left of a segment, of which the last may be cut short.
use mathlib.Core.Path.{◌≡◌, sym, ap, ◌∙◌}
use mathlib.Core.List.{List, ◌++◌}
use Prim.Native.Nat.{ℕ, ◌+◌, ◌<◌, ◌≤◌}
use native.Mathlib.Omega.{arith}
use lib.ListN.{length, take, drop, length-drop}
use lib.Seq.{drop-drop, take-length, take-append_seam, drop-append_seam}
use Rattle.std.proofs.Common.{min}
use Rattle.std.proofs.lemmas.List.{take_min, drop_min, drop-take, get_or-take, length-take}
use Rattle.dqt.specs.Dqt.{val, elements, fault, start, stored}
use Rattle.dqt.proofs.Frames.{same_test, fault_at, stored_from}

-- the first 65 bytes tell of the table at the front all that is asked
module _ (xs : List ℕ) where
  elements_front : elements (take 65 xs) 0 ≡ elements xs 0
  elements_front =
      let ys = take 64 (drop 1 xs) in
      let all : min 64 (length ys) ≡ length ys = omega (arith, length-take 64 (drop 1 xs)) in
      ap (take 64) (drop-take 1 64 xs) ∙ sym (take_min 64 ys) ∙ ap (λ (n : ℕ). take n ys) all ∙ take-length ys

  fault_front : fault (take 65 xs) 0 ≡ fault xs 0
  unfolding fault
  fault_front =
      rw (
        get_or-take 65 xs 0 0 (omega arith),
        elements_front,
        same_test 65 (length (take 65 xs)) 65 (length xs) (λ l. omega (arith, l, length-take 65 xs)) (λ l. omega (arith, l, length-take 65 xs)),
      )

  stored_front : (tables : List ℕ) → stored (take 65 xs) 0 tables ≡ stored xs 0 tables
  stored_front tables = rw (get_or-take 65 xs 0 0 (omega arith), elements_front)

module _ (s rest x after : List ℕ) (t : ℕ) (is : rest ≡ drop (start t) s) (cut : rest ≡ x ++ after) (long : length x ≡ min 65 (length rest)) (some : 0 < length rest) where
  front : x ≡ take 65 rest
  front = sym (take-append_seam x after) ∙ ap (take (length x)) (sym cut) ∙ ap (λ (n : ℕ). take n rest) long ∙ take_min 65 rest

  pub left_after : after ≡ drop (start (t + 1)) s
  left_after =
      let next : start t + 65 ≡ start (t + 1) = omega arith in
      sym (drop-append_seam x after) ∙ ap (drop (length x)) (sym cut) ∙ ap (λ (n : ℕ). drop n rest) long ∙ drop_min 65 rest
      ∙ ap (drop 65) is ∙ drop-drop 65 (start t) s ∙ ap (λ (n : ℕ). drop n s) next

  pub within : start t < length s
  within = omega (arith, some, ap length is, length-drop (start t) s)

  pub fault_cut : fault x 0 ≡ fault s (start t)
  fault_cut =
      ap (λ (y : List ℕ). fault y 0) front ∙ fault_front rest ∙ ap (λ (y : List ℕ). fault y 0) is ∙ fault_at s (start t) (omega (arith, within))

  pub head_cut : val x 0 ≡ val (drop (start t) s) 0
  head_cut = ap (λ (y : List ℕ). val y 0) front ∙ get_or-take 65 rest 0 0 (omega arith) ∙ ap (λ (y : List ℕ). val y 0) is

  pub stored_cut : (tables : List ℕ) → stored x 0 tables ≡ stored s (start t) tables
  stored_cut tables =
      ap (λ (y : List ℕ). stored y 0 tables) front ∙ stored_front rest tables ∙ ap (λ (y : List ℕ). stored y 0 tables) is ∙ stored_from s (start t) tables

  pub long_cut : start t + 65 ≤ length s → 65 ≤ length x
  long_cut h = omega (arith, h, long, ap length is, length-drop (start t) s)
