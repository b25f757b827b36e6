use borrow.Author.Rules.{rules}
use mathlib.Core.Path.{◌≡◌}
use lib.IntN.{ℤ, pos}
use lib.ListN.{get_or}
use mir.Syntax.{w16}
use mir.Val.{of_z, to_z}
use Prim.Native.Nat.{ℕ}
use Rattle.std.proofs.lemmas.Int.{to_z-of_z}
use Rattle.utils.proofs.wholes.signed.Goals as goal

pub returns-clause-value : goal.returns-clause-value
returns-clause-value c =
    let x : ℕ → ℤ = λ j. get_or c.args.xs.now j (pos 0) in
    let e0 : to_z w16 (of_z w16 (x 0)) ≡ x 0 = to_z-of_z w16 (x 0) (search rules) in
    let e1 : to_z w16 (of_z w16 (x 1)) ≡ x 1 = to_z-of_z w16 (x 1) (search rules) in
    let e2 : to_z w16 (of_z w16 (x 2)) ≡ x 2 = to_z-of_z w16 (x 2) (search rules) in
    let e3 : to_z w16 (of_z w16 (x 3)) ≡ x 3 = to_z-of_z w16 (x 3) (search rules) in
    let e4 : to_z w16 (of_z w16 (x 4)) ≡ x 4 = to_z-of_z w16 (x 4) (search rules) in
    let e5 : to_z w16 (of_z w16 (x 5)) ≡ x 5 = to_z-of_z w16 (x 5) (search rules) in
    let e6 : to_z w16 (of_z w16 (x 6)) ≡ x 6 = to_z-of_z w16 (x 6) (search rules) in
    let e7 : to_z w16 (of_z w16 (x 7)) ≡ x 7 = to_z-of_z w16 (x 7) (search rules) in
    rw (e0, e1, e2, e3, e4, e5, e6, e7)
