-- Kept: the check finds none of these alone (scripts/answers tries each).
use Rattle.std.proofs.Common.{rules, ap, sym, ◌∙◌, Bor, option_map}
use Rattle.std.proofs.lemmas.Iterator.Search.{find_from_yields_List}
use Rattle.std.proofs.lemmas.Iterator.{YieldsList-from_slice}
use Rattle.text.specs.Pieces.{split}
use Rattle.lines.specs.declared.Tag.{Tag}
use Rattle.progress.specs.Progress.{is_own}
use Rattle.progress.proofs.StateLaws.{own_tags, own_found, none_found}
use Rattle.progress.proofs.expected.Goals as goal

pub returns-in-Some : goal.returns-in-Some
returns-in-Some c =
    let f = find_from_yields_List (is_own c.args.s (split 9 c.args.row.now)) _ _ _ c.find-own.ensures.ran (YieldsList-from_slice own_tags cc) (λ x b q k. search rules) in
    own_found c.args.s (split 9 c.args.row.now) _ (sym (ap (option_map (λ (x : Bor Tag). x.now)) c.in-Some.is) ∙ f)

pub returns-in-None : goal.returns-in-None
returns-in-None c =
    let f = find_from_yields_List (is_own c.args.s (split 9 c.args.row.now)) _ _ _ c.find-own.ensures.ran (YieldsList-from_slice own_tags cc) (λ x b q k. search rules) in
    c.due.ensures ∙ none_found c.args.s (split 9 c.args.row.now) (sym (ap (option_map (λ (x : Bor Tag). x.now)) c.in-None.is) ∙ f)
