-- Kept: the check finds none of these alone (scripts/answers tries each).
-- `blend_turn_refusal`: the three tests of every channel.
use mathlib.Core.Path.{sym, ◌∙◌}
use Prim.Native.Nat.{◌*◌, ◌%◌}
use native.Mathlib.Omega.{arith}
use lib.Dec.{eqb}
use lib.ListN.{take}
use Rattle.std.proofs.Common.{rules}
use Rattle.std.proofs.lemmas.Iterator.{YieldsList-from_slice}
use Rattle.std.proofs.lemmas.Iterator.Search.{all_from_yields_List, any_from_yields_List}
use Rattle.record.proofs.Sizes.{count_3, n_1000}
use Rattle.record.proofs.Turns.{marks, ends, dues}
use Rattle.record.proofs.legal.LegalRun.blend_turn_refusal.Goals as goal

pub channels-requires : goal.channels-requires
channels-requires c = count_3 c.args.self.run c.args.self.holds

pub channels-requires-2 : goal.channels-requires-2
channels-requires-2 c = count_3 c.args.self.run c.args.self.holds

pub channels-requires-3 : goal.channels-requires-3
channels-requires-3 c = count_3 c.args.self.run c.args.self.holds

pub overflow_mul-end : goal.overflow_mul-end
overflow_mul-end c = record { fits = omega (arith, n_1000 c.args.self.run c.args.self.holds) }

pub returns-then-any : goal.returns-then-any
returns-then-any c =
    let r = c.args.self.run in
    let any = any_from_yields_List (λ x. x.mark) _ _ _ c.any.ensures.ran (YieldsList-from_slice (take r.count r.channels) cc) (λ x b q k. search rules) in
    rw (sym (marks r c.args.self.holds (omega arith)) ∙ sym any ∙ c.if-any.true)

pub returns-then-any-2 : goal.returns-then-any-2
returns-then-any-2 c =
    let r = c.args.self.run in
    let any = any_from_yields_List (λ x. x.mark) _ _ _ c.any.ensures.ran (YieldsList-from_slice (take r.count r.channels) cc) (λ x b q k. search rules) in
    let end = any_from_yields_List (λ x. eqb x.position (5 * r.n)) _ _ _ c.any-2.ensures.ran (YieldsList-from_slice (take r.count r.channels) cc) (λ x b q k. search rules) in
    rw (sym (marks r c.args.self.holds (omega arith)) ∙ sym any ∙ c.if-any.false, sym (ends r c.args.self.holds (omega arith)) ∙ sym end ∙ c.if-any-2.true)

pub returns-then-not-all : goal.returns-then-not-all
returns-then-not-all c =
    let r = c.args.self.run in
    let any = any_from_yields_List (λ x. x.mark) _ _ _ c.any.ensures.ran (YieldsList-from_slice (take r.count r.channels) cc) (λ x b q k. search rules) in
    let end = any_from_yields_List (λ x. eqb x.position (5 * r.n)) _ _ _ c.any-2.ensures.ran (YieldsList-from_slice (take r.count r.channels) cc) (λ x b q k. search rules) in
    let due = all_from_yields_List (λ x. eqb (x.position % 5) 2) _ _ _ c.all.ensures.ran (YieldsList-from_slice (take r.count r.channels) cc) (λ x b q k. search rules) in
    rw (sym (marks r c.args.self.holds (omega arith)) ∙ sym any ∙ c.if-any.false, sym (ends r c.args.self.holds (omega arith)) ∙ sym end ∙ c.if-any-2.false, sym (dues r c.args.self.holds (omega arith)) ∙ sym due ∙ c.if-not-all.true)

pub returns : goal.returns
returns c =
    let r = c.args.self.run in
    let any = any_from_yields_List (λ x. x.mark) _ _ _ c.any.ensures.ran (YieldsList-from_slice (take r.count r.channels) cc) (λ x b q k. search rules) in
    let end = any_from_yields_List (λ x. eqb x.position (5 * r.n)) _ _ _ c.any-2.ensures.ran (YieldsList-from_slice (take r.count r.channels) cc) (λ x b q k. search rules) in
    let due = all_from_yields_List (λ x. eqb (x.position % 5) 2) _ _ _ c.all.ensures.ran (YieldsList-from_slice (take r.count r.channels) cc) (λ x b q k. search rules) in
    rw (sym (marks r c.args.self.holds (omega arith)) ∙ sym any ∙ c.if-any.false, sym (ends r c.args.self.holds (omega arith)) ∙ sym end ∙ c.if-any-2.false, sym (dues r c.args.self.holds (omega arith)) ∙ sym due ∙ c.if-not-all.false)
