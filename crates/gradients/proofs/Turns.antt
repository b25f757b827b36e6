-- A loop over the flags of the first n channels and what each of them has, side by side, which leaves out those that are held, as both norms have it.
use mathlib.Core.Path.{◌≡◌, ◌∙◌, sym}
use mathlib.Core.Bool.{Bool, true, false}
use mathlib.Core.List.{List, [], ◌∷◌, ◌++◌}
use Prim.Native.Nat.{ℕ, ◌≤◌, ◌<◌}
use native.Mathlib.Omega.{arith}
use denote.Ref.{Bor}
use lib.ListN.{length, take, get_or, length-take}
use lib.Seq.{get_or-take}
use lib.Ieee.{Float}
use Rattle.std.specs.declared.iter.Zip.{Zip}
use Rattle.std.specs.declared.slice.Iter.{Iter}
use Rattle.std.specs.declared.option.Option.{Option}
use Rattle.std.specs.declared.option.Option.TheVariants.{None, Some}
use Rattle.std.specs.Iterator.{Yields}
use Rattle.std.specs.Iterator.Adapters.{zip_first, zip_second}
use Rattle.std.specs.Slice.Iter.{iter_rest}
use Rattle.std.proofs.iter.Yields.{fronts}
use Rattle.std.proofs.lemmas.Iterator.{zips}
use Rattle.std.proofs.lemmas.List.{length_push}
use Rattle.std.proofs.lemmas.Slice.Zip.{zip_turn, zip_end}
use Rattle.fold.specs.Fold.{upto}
use Rattle.fold.proofs.Loops.{upto-call, upto-end}
use Rattle.gradients.specs.Held.{live, flag}

flag_at : (n : ℕ) (held : List Bool) (k : ℕ) {b : Bool} → k < length (take n held) → b ≡ flag (take n held) k → flag held k ≡ b
flag_at n held k l e = sym (get_or-take n held k false (omega (arith, l, length-take n held))) ∙ sym e

-- The loop has yielded xs, next yields r, and a turn adds to v what f makes of it.
module _ {A : Type 0} (n : ℕ) (held : List Bool) (d : List A) (xs : List (Bor Bool × Bor A)) (s t u : Zip (Iter Bool) (Iter A)) (r : Option (Bor Bool × Bor A))
    (first : iter_rest (zip_first s) ≡ take n held) (second : iter_rest (zip_second s) ≡ d) (y : Yields (zips fronts fronts) s xs t) (next : zips fronts fronts t r u)
    (f : ℕ → Float → Float) (a : Float) {v : Float} (so : v ≡ upto (live (flag held) f) (length xs) a) where
  module _ (p : Bor Bool × Bor A) (is : r ≡ Some p) where
    pub passed : p.0.now ≡ true → v ≡ upto (live (flag held) f) (length (xs ++ p ∷ [])) a
    passed h =
        let turn = zip_turn (take n held) d xs s t u r first second y p is next in
        rw (length_push xs p) (upto-call _ _ _ so (rw (flag_at n held (length xs) turn.0 (turn.2 _), h)))

    pub added : p.0.now ≡ false → {w : Float} → (((z : A) → p.1.now ≡ get_or d (length xs) z) → w ≡ f (length xs) v) → w ≡ upto (live (flag held) f) (length (xs ++ p ∷ [])) a
    added h e =
        let turn = zip_turn (take n held) d xs s t u r first second y p is next in
        rw (length_push xs p) (upto-call _ _ _ so (rw (flag_at n held (length xs) turn.0 (turn.2 _), h) (e turn.3)))

  pub ended : n ≤ length held → n ≤ length d → r ≡ None → v ≡ upto (live (flag held) f) n a
  ended h l e =
      let end = zip_end (take n held) d xs s t u r first second y e next in
      upto-end _ _ _ _ so (omega (arith, end, length-take n held, h, l))
