-- Kept: the check finds none of these alone (scripts/answers tries each).
-- `lines::rule_at` meets its contract: the rule of a high knows the low before it.
use Rattle.std.proofs.Common.{◌∙◌}
use Rattle.text.specs.Pieces.{split}
use Rattle.lines.specs.Lines.{rules_of, field_count}
use Rattle.lines.proofs.LineLaws.{range_behind}
use Rattle.lines.proofs.rule_at.Goals as goal

pub returns-in-Range : goal.returns-in-Range
unfolding rules_of field_count
returns-in-Range c =
    rw c.in-Range.is
    (c.range_rule.ensures ∙ range_behind (split 9 c.args.row.now) c.args.i c.args.last c.if-i-eq0.false (rw c.in-Range.is at c.requires.0) (rw c.in-Range.is at c.requires.1))
