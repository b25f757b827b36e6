-- Kept: the check finds none of these alone (scripts/answers tries each).
use mathlib.Core.Path.{◌≡◌, refl, sym, ap, ◌∙◌}
use Prim.Native.Nat.{◌%◌}
use native.Mathlib.Omega.{arith}
use lib.IntN.{pos}
use lib.ListN.{length}
use lib.Dec.{eqb}
use mir.Val.{to_z, of_z}
use mir.Facts.{to_z-of_z}
use mir.Syntax.{w32}
use borrow.Author.Rules.{sfits_of, rules}
use Rattle.answers.specs.Tests.{level_ok}
use Rattle.answers.proofs.Lists.{listed_at, listed_length}
use Rattle.std.proofs.lemmas.List.Folds.{list_all_at}
use Rattle.answers.proofs.Tests.{all_more, all_end}
use Rattle.archive.specs.Archive.{restored_at, restored, chain, val, first_after}
use Rattle.archive.proofs.Chain.{level_is, next_first}
use Rattle.archive.proofs.Levels.{after_ok}
use Rattle.archive.proofs.restored_ok.Goals as goal
use Rattle.archive.proofs.restored_ok.Goals.{After-restored_at-level, After-level_ok}

pub loop-p-init : goal.loop-p-init
unfolding chain
loop-p-init c = (search rules, refl, refl, refl)

-- the level that was found stands at p of the list of them all
is_level : (c : After-restored_at-level) → let l = c.before.before in
    val (restored l.before.args.stored.now) l.loop-p.p ≡ c.restored_at-level.result
is_level c =
    let l = c.before.before in
    let s = l.before.args.stored.now in
    listed_at (pos 0) (restored_at s) (length s) l.loop-p.p (search rules)
    ∙ sym (level_is s l.loop-p.p (to_z w32 l.loop-p.first-bits) c.restored_at-level.result l.loop-p.invariant.2 c.restored_at-level.ensures)

-- and whether it is within its range
is_ok : (c : After-level_ok) → c.level_ok.result ≡ level_ok c.before.restored_at-level.result
is_ok c = rw (to_z-of_z (sfits_of c.before.restored_at-level.type_inv)) at c.level_ok.ensures

pub returns-then-not-level_ok : goal.returns-then-not-level_ok
returns-then-not-level_ok c =
    let l = c.before.before.before.before in
    let s = l.before.args.stored.now in
    sym (list_all_at level_ok (restored s) l.loop-p.p (pos 0) (rw listed_length (search rules))
    (ap level_ok (is_level c.before.before) ∙ sym (is_ok c.before) ∙ c.if-not-level_ok.true))

pub loop-p-preserved : goal.loop-p-preserved
loop-p-preserved c =
    let k = c.before.before in
    let r = k.before in
    let l = r.before.before in
    let s = l.before.args.stored.now in
    let p = l.loop-p.p in
    let first = to_z w32 l.loop-p.first-bits in
    let v = r.restored_at-level.result in
    let ok = sym (is_ok k) ∙ c.before.if-not-level_ok.false in
    let next : to_z w32 (of_z w32 c.first_after-first.result) ≡ first_after first p v =
    to_z-of_z {w = w32} (sfits_of c.first_after-first.type_inv) ∙ rw (to_z-of_z (sfits_of r.restored_at-level.type_inv)) at c.first_after-first.ensures in (
      search rules,
      ap level_ok next ∙ after_ok (eqb (p % 64) 0) v first ok l.loop-p.invariant.1,
      next ∙ next_first s p first v l.loop-p.invariant.2 r.restored_at-level.ensures,
      all_more level_ok (pos 0) (restored s) p (rw listed_length (search rules)) l.loop-p.invariant.3 (sym ok ∙ ap level_ok (sym (is_level r))),
    )

pub returns : goal.returns
returns c = all_end level_ok (pos 0) (restored c.before.before.args.stored.now) c.before.loop-p.p (rw listed_length (omega arith)) c.before.loop-p.invariant.3
