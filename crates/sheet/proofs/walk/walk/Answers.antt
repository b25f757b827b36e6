-- Kept: the check finds none of these alone (scripts/answers tries each).
use mathlib.Core.Path.{◌≡◌, refl, sym, ◌∙◌}
use Prim.Native.Nat.{◌+◌}
use native.Mathlib.Omega.{arith}
use lib.Dec.{eqb}
use borrow.Author.Tests.{eqb-true, eqb-false}
use Rattle.lines.specs.Lines.{letter_of}
use Rattle.std.proofs.Common.{rules}
use Rattle.text.proofs.PieceLaws.{rest_whole}
use Rattle.progress.proofs.StateLaws.{due}
use Rattle.sheet.proofs.WalkLaws.{field_end, field_read, check_begin, check_at, check_in, check_bad, check_step, read_begin, walk_limit, row_size, walk_long, walk_cut, on-line, walk_count, row_count, rules_count, low_place, high_place, table_room, walk_fault, walk_end, walk_after, walk_bad, walk_next}
use Rattle.sheet.proofs.walk.walk.Goals as goal

pub returns-then-not-are_allowed : goal.returns-then-not-are_allowed
returns-then-not-are_allowed c = walk_limit _ _ _ _ (sym c.are_allowed.ensures ∙ c.if-not-are_allowed.true)

pub lines-init : goal.lines-init
lines-init c = read_begin _ _ _ _ _ (sym c.are_allowed.ensures ∙ c.if-not-are_allowed.false) c.nothing-state.ensures c.requires

pub loop-i-init : goal.loop-i-init
loop-i-init c =
    let w = on-line c.lines.invariant c.first_line-l.ensures (omega (arith, c.if-l-gt1024.false)) c.if-l-rest.false c.expected-tag.ensures c.field_count-count.ensures in (w, row_count c.lines.invariant w c.first_line-l.ensures c.if-l-count.false, check_begin _ _ _ _ _)

pub slice_bounds-first_field-count : goal.slice_bounds-first_field-count
slice_bounds-first_field-count c = check_at c.loop-i.invariant.2 c.loop-i-test.true

pub put-low-requires : goal.put-low-requires
put-low-requires c =
    low_place c.lines.invariant c.loop-i.invariant.0 c.loop-i.invariant.1 c.well_formed.0.0 c.loop-i-test.true c.loop-i.invariant.2.low_most

pub put-high-requires : goal.put-high-requires
put-high-requires c =
    high_place c.lines.invariant c.loop-i.invariant.0 c.loop-i.invariant.1 c.well_formed.0.0 c.loop-i-test.true c.loop-i.invariant.2.high_most

pub put-listed-requires : goal.put-listed-requires
put-listed-requires c =
    table_room c.lines.invariant c.loop-i.invariant.0 c.loop-i.invariant.1 c.well_formed.0.0 c.loop-i-test.true c.loop-i.invariant.2.listed_most

pub slice_bounds-first_field-start : goal.slice_bounds-first_field-start
slice_bounds-first_field-start c = check_at c.loop-i.invariant.2 c.loop-i-test.true

pub overflow_add-a-in-loop-i : goal.overflow_add-a-in-loop-i
overflow_add-a-in-loop-i c =
    omega (arith, check_in c.loop-i.invariant.2 c.loop-i-test.true (field_end c.loop-i.invariant.2 c.loop-i-test.true c.first_field-f.ensures), c.loop-i.invariant.0.size, c.loop-i.invariant.0.ended, c.well_formed.0.0)

pub loop-i-preserved : goal.loop-i-preserved
loop-i-preserved c = (
  c.loop-i.invariant.0,
  c.loop-i.invariant.1,
  check_step c.loop-i.invariant.2 c.loop-i-test.true (field_end c.loop-i.invariant.2 c.loop-i-test.true c.first_field-f.ensures) (rules_count c.lines.invariant c.loop-i.invariant.0) c.loop-i.invariant.1 c.rule_at-rule.ensures (field_read c.loop-i.invariant.2 c.loop-i-test.true c.first_field-f.ensures _ c.read_field.ensures)
      c.in-Ok.field c.in-Ok.is (rw c.levels-lowest.ensures.lows at c.put-low.ensures) (rw c.levels-lowest.ensures.highs at c.put-high.ensures) (rw c.quantiser.ensures at c.put-listed.ensures),
)

pub take_record-requires : goal.take_record-requires
take_record-requires c =
    let end : c.eq.result ≡ eqb (letter_of c.expected-tag.result) 69 = search rules in
    due _ _ _ c.expected-tag.ensures (eqb-false _ _ (sym end ∙ c.if-eq.false)) _ c.record_of-rec.ensures

pub lines-preserved : goal.lines-preserved
lines-preserved c =
    let end : c.eq.result ≡ eqb (letter_of c.expected-tag.result) 69 = search rules in
    rw (rest_whole (c.first_line-l.result.length + 1) c.lines.rest.now)
    (walk_next c.lines.invariant c.loop-i.invariant.0 c.loop-i.invariant.1 c.loop-i.invariant.2 c.loop-i-test.false (eqb-false _ _ (sym end ∙ c.if-eq.false)) c.record_of-rec.ensures (refl, c.take_record.ensures.bits) c.take_record.ensures.state (search rules))

pub returns-then-l-gt1024 : goal.returns-then-l-gt1024
returns-then-l-gt1024 c = walk_long c.lines.invariant c.first_line-l.ensures (omega (arith, c.if-l-gt1024.true))

pub returns-then-l-rest : goal.returns-then-l-rest
returns-then-l-rest c = walk_cut c.lines.invariant c.first_line-l.ensures (omega (arith, c.if-l-gt1024.false)) c.if-l-rest.true

pub returns-then-l-count : goal.returns-then-l-count
returns-then-l-count c =
    walk_count c.lines.invariant (on-line c.lines.invariant c.first_line-l.ensures (omega (arith, c.if-l-gt1024.false)) c.if-l-rest.false c.expected-tag.ensures c.field_count-count.ensures) c.first_line-l.ensures c.if-l-count.true

pub returns-in-Err : goal.returns-in-Err
returns-in-Err c =
    walk_fault c.lines.invariant c.loop-i.invariant.0 c.loop-i.invariant.1
    (check_bad c.loop-i.invariant.2 c.loop-i-test.true (field_end c.loop-i.invariant.2 c.loop-i-test.true c.first_field-f.ensures) (rules_count c.lines.invariant c.loop-i.invariant.0) c.loop-i.invariant.1 c.rule_at-rule.ensures (field_read c.loop-i.invariant.2 c.loop-i-test.true c.first_field-f.ensures _ c.read_field.ensures) _ c.in-Err.is)

pub returns-then-l-rest-2 : goal.returns-then-l-rest-2
returns-then-l-rest-2 c =
    let end : c.eq.result ≡ eqb (letter_of c.expected-tag.result) 69 = search rules in
    walk_end c.lines.invariant c.loop-i.invariant.0 c.loop-i.invariant.1 c.loop-i.invariant.2 c.loop-i-test.false (eqb-true _ _ (sym end ∙ c.if-eq.true)) c.if-l-rest-2.true

pub returns-else-l-rest-2 : goal.returns-else-l-rest-2
returns-else-l-rest-2 c =
    let end : c.eq.result ≡ eqb (letter_of c.expected-tag.result) 69 = search rules in
    walk_after c.lines.invariant c.loop-i.invariant.0 c.loop-i.invariant.1 c.loop-i.invariant.2 c.loop-i-test.false (eqb-true _ _ (sym end ∙ c.if-eq.true)) c.if-l-rest-2.false

pub returns-in-Err-take_record : goal.returns-in-Err-take_record
returns-in-Err-take_record c =
    let end : c.eq.result ≡ eqb (letter_of c.expected-tag.result) 69 = search rules in
    walk_bad c.lines.invariant c.loop-i.invariant.0 c.loop-i.invariant.1 c.loop-i.invariant.2 c.loop-i-test.false (eqb-false _ _ (sym end ∙ c.if-eq.false)) c.record_of-rec.ensures
    (refl, c.take_record.ensures.bits) c.take_record.ensures.state c.in-Err-take_record.is

pub slice_bounds-row-end : goal.slice_bounds-row-end
slice_bounds-row-end c = sym (row_size c.lines.invariant c.first_line-l.ensures)
