-- Kept: the check finds none of these alone (scripts/answers tries each).
use mathlib.Core.Path.{◌≡◌, refl, sym, ap, ◌∙◌}
use mathlib.Core.Bool.{true}
use Prim.Native.Nat.{◌%◌}
use native.Mathlib.Omega.{arith}
use lib.IntN.{pos}
use lib.ListN.{length}
use lib.Dec.{eqb}
use mir.Syntax.{w16, w32}
use mir.Val.{to_z, of_z}
use mir.Facts.{to_z-of_z}
use borrow.Author.Rules.{sfits_of, rules}
use Rattle.fold.proofs.Loops.{upto_none, upto_step, upto-end}
use Rattle.answers.specs.Tests.{level_ok}
use Rattle.answers.proofs.Lists.{stored_listed, listed_at, listed_length}
use Rattle.answers.proofs.Tests.{all-at}
use Rattle.archive.specs.Archive.{restored_at, restored, chain, first_after}
use Rattle.archive.proofs.Chain.{level_is, next_first}
use Rattle.archive.proofs.Levels.{after_ok, level_fits}
use Rattle.archive.proofs.restore_all.Goals as goal
use Rattle.archive.proofs.restore_all.Goals.{After-restored_at-level}

pub loop-p-init : goal.loop-p-init
unfolding chain
loop-p-init c = (search rules, refl, refl, c.requires.0, upto_none _ _)

-- the level that was found is that of place p, and so within its range
is_level : (c : After-restored_at-level) → let l = c.before.before in
    c.restored_at-level.result ≡ restored_at l.before.args.stored.now l.loop-p.p
is_level c =
    let l = c.before.before in
    level_is l.before.args.stored.now l.loop-p.p (to_z w32 l.loop-p.first-bits) c.restored_at-level.result l.loop-p.invariant.2 c.restored_at-level.ensures

is_ok : (c : After-restored_at-level) → level_ok c.restored_at-level.result ≡ true
is_ok c =
    let l = c.before.before in
    let s = l.before.args.stored.now in
    ap level_ok (is_level c ∙ sym (listed_at (pos 0) (restored_at s) (length s) l.loop-p.p (search rules)))
    ∙ all-at level_ok (pos 0) (restored s) l.before.requires.2 l.loop-p.p (rw listed_length (search rules))

pub overflow_cast-restored : goal.overflow_cast-restored
overflow_cast-restored c = rw (to_z-of_z (sfits_of c.restored_at-level.type_inv)) (level_fits c.restored_at-level.result (is_ok c))

pub loop-p-preserved : goal.loop-p-preserved
loop-p-preserved c =
    let r = c.before in
    let l = r.before.before in
    let s = l.before.args.stored.now in
    let p = l.loop-p.p in
    let first = to_z w32 l.loop-p.first-bits in
    let v = r.restored_at-level.result in
    let next : to_z w32 (of_z w32 c.first_after-first.result) ≡ first_after first p v =
    to_z-of_z {w = w32} (sfits_of c.first_after-first.type_inv) ∙ rw (to_z-of_z (sfits_of r.restored_at-level.type_inv)) at c.first_after-first.ensures in
    let wide : to_z w32 (of_z w32 v) ≡ v = to_z-of_z {w = w32} (sfits_of r.restored_at-level.type_inv) in
    let narrow : to_z w16 (of_z w16 v) ≡ v = to_z-of_z {w = w16} (level_fits v (is_ok r)) in (
      search rules,
      ap level_ok next ∙ after_ok (eqb (p % 64) 0) v first (is_ok r) l.loop-p.invariant.1,
      next ∙ next_first s p first v l.loop-p.invariant.2 r.restored_at-level.ensures,
      search rules,
      rw (wide, narrow, is_level r) (upto_step _ _ _ l.loop-p.invariant.4),
    )

pub returns : goal.returns
returns c = stored_listed (pos 0) _ _ _ c.before.before.requires.0 (upto-end _ _ _ _ c.before.loop-p.invariant.4 (omega arith))
