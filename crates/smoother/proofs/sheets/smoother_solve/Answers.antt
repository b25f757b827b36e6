-- Kept: the check finds none of these alone (scripts/answers tries each).
-- `smoother_solve`: no record, no letters, no legal sheet, no room for the numbers, or what `solve` gives of the record's sheet, its answer as a number.
use mathlib.Core.Path.{◌≡◌, refl, sym, ap, ◌∙◌}
use borrow.Author.Rules.{rules}
use mathlib.Core.List.{[]}
use lib.ListN.{length}
use Rattle.std.specs.Prelude.{Ok, Err}
use Rattle.refusal.proofs.Laws.{number_of-positive}
use native.Mathlib.Omega.{arith}
use Rattle.start.specs.Coef.{pairs}
use Rattle.contents.specs.declared.Sheet.{Sheet}
use Rattle.rounds.specs.declared.Ran.TheVariants.{Done, Blown}
use Rattle.rounds.specs.Whole.{six, loan}
use Rattle.solve.specs.declared.Solved.TheVariants as solved-by
use Rattle.solve.specs.Solve.{all_legal}
use Rattle.solve.proofs.Alone.{legal_few}
use Rattle.by_numbers.specs.Sheets.{record_count}
use Rattle.by_numbers.proofs.WholeLaws.{no_record, no_letters, not_legal, no_room, other, solved, solve_lent}
use Rattle.smoother.proofs.MildSolve.{mild_solved}
use Rattle.smoother.proofs.sheets.smoother_solve.Goals as goal

pub returns-in_default-clause-solved : goal.returns-in_default-clause-solved
returns-in_default-clause-solved c =
    let a = c.args in
    rw c.from.ensures
    (no_record a.numbers.now (pairs a.lows.now a.highs.now) a.tables.now (loan (six a.plane.now a.prior.now a.gradient.now a.across.now a.down.now a.saved.now) a.totals.now) a.clipped.now (search rules))

pub returns-then-not-letters_ok-clause-solved : goal.returns-then-not-letters_ok-clause-solved
returns-then-not-letters_ok-clause-solved c =
    let a = c.args in
    let e : c.in-Some.numbers.now ≡ a.numbers.now = search rules in
    let w : length a.numbers.now ≡ record_count = search rules in
    let l = rw e at c.letters_ok.ensures in
    rw c.from-then-not-letters_ok.ensures
    (no_letters a.numbers.now (pairs a.lows.now a.highs.now) a.tables.now (loan (six a.plane.now a.prior.now a.gradient.now a.across.now a.down.now a.saved.now) a.totals.now) a.clipped.now w
    (sym l ∙ c.if-not-letters_ok.true))

pub returns-then-not-all_legal-clause-solved : goal.returns-then-not-all_legal-clause-solved
returns-then-not-all_legal-clause-solved c =
    let a = c.args in
    let e : c.in-Some.numbers.now ≡ a.numbers.now = search rules in
    let w : length a.numbers.now ≡ record_count = search rules in
    let l = rw e at c.letters_ok.ensures in
    let s = rw e at c.sheet_of-s.ensures in
    rw c.from-then-not-all_legal.ensures
    (not_legal a.numbers.now (pairs a.lows.now a.highs.now) a.tables.now (loan (six a.plane.now a.prior.now a.gradient.now a.across.now a.down.now a.saved.now) a.totals.now) a.clipped.now w (sym l ∙ c.if-not-letters_ok.false)
    (ap all_legal (sym s) ∙ sym c.all_legal.ensures ∙ c.if-not-all_legal.true))

pub returns-then-clipped-s-clause-solved : goal.returns-then-clipped-s-clause-solved
returns-then-clipped-s-clause-solved c =
    let a = c.args in
    let e : c.in-Some.numbers.now ≡ a.numbers.now = search rules in
    let w : length a.numbers.now ≡ record_count = search rules in
    let l = rw e at c.letters_ok.ensures in
    let s = rw e at c.sheet_of-s.ensures in
    rw c.from-then-clipped-s.ensures
    (no_room a.numbers.now (pairs a.lows.now a.highs.now) a.tables.now (loan (six a.plane.now a.prior.now a.gradient.now a.across.now a.down.now a.saved.now) a.totals.now) a.clipped.now w (sym l ∙ c.if-not-letters_ok.false) (ap all_legal (sym s) ∙ sym c.all_legal.ensures ∙ c.if-not-all_legal.false)
    (λ e. c.if-clipped-s.true (e ∙ ap (λ (z : Sheet). z.header.channels) (sym s))))

pub put_clipped-requires : goal.put_clipped-requires
put_clipped-requires c =
    let l = c.all_legal in
    omega (arith, legal_few c.sheet_of-s.result (sym l.ensures ∙ c.if-not-all_legal.false), c.if-clipped-s.false)

pub returns-in-Ok-Done-clause-solved : goal.returns-in-Ok-Done-clause-solved
returns-in-Ok-Done-clause-solved c =
    let a = c.args in
    let e : c.in-Some.numbers.now ≡ a.numbers.now = search rules in
    let w : length a.numbers.now ≡ record_count = search rules in
    let l = rw e at c.letters_ok.ensures in
    let s = rw e at c.sheet_of-s.ensures in
    let q : c.solve.result ≡ Ok (solved-by.Done c.in-Ok-Done.counts) = search rules in
    solve_lent a.numbers.now (pairs a.lows.now a.highs.now) a.tables.now (loan (six a.plane.now a.prior.now a.gradient.now a.across.now a.down.now a.saved.now) a.totals.now) a.clipped.now _ _ _ _
    (solved a.numbers.now (pairs a.lows.now a.highs.now) a.tables.now (loan (six a.plane.now a.prior.now a.gradient.now a.across.now a.down.now a.saved.now) a.totals.now) a.clipped.now w (sym l ∙ c.if-not-letters_ok.false) (ap all_legal (sym s) ∙ sym c.all_legal.ensures ∙ c.if-not-all_legal.false) (c.if-clipped-s.false ∙ ap (λ (z : Sheet). z.header.channels) s)
    (Ok Done) c.in-Ok-Done.counts _ (rw (s, q) at c.solve.ensures.is) refl _ c.put_clipped.ensures)
    (search rules) (search rules) (search rules) (search rules) (search rules) (search rules)

pub returns-in-Ok-Blown-clause-solved : goal.returns-in-Ok-Blown-clause-solved
returns-in-Ok-Blown-clause-solved c =
    let a = c.args in
    let e : c.in-Some.numbers.now ≡ a.numbers.now = search rules in
    let w : length a.numbers.now ≡ record_count = search rules in
    let l = rw e at c.letters_ok.ensures in
    let s = rw e at c.sheet_of-s.ensures in
    let q : c.solve.result ≡ Ok solved-by.Blown = search rules in
    solve_lent a.numbers.now (pairs a.lows.now a.highs.now) a.tables.now (loan (six a.plane.now a.prior.now a.gradient.now a.across.now a.down.now a.saved.now) a.totals.now) a.clipped.now _ _ _ _
    (other a.numbers.now (pairs a.lows.now a.highs.now) a.tables.now (loan (six a.plane.now a.prior.now a.gradient.now a.across.now a.down.now a.saved.now) a.totals.now) a.clipped.now w (sym l ∙ c.if-not-letters_ok.false) (ap all_legal (sym s) ∙ sym c.all_legal.ensures ∙ c.if-not-all_legal.false) (c.if-clipped-s.false ∙ ap (λ (z : Sheet). z.header.channels) s)
    (Ok Blown) [] _ (rw (s, q) at c.solve.ensures.is) _ c.from-in-Ok-Blown.ensures (λ z. omega (arith, z, c.from-in-Ok-Blown.ensures)))
    (search rules) (search rules) (search rules) (search rules) (search rules) (search rules)

pub returns-in-Err-clause-solved : goal.returns-in-Err-clause-solved
returns-in-Err-clause-solved c =
    let a = c.args in
    let e : c.in-Some.numbers.now ≡ a.numbers.now = search rules in
    let w : length a.numbers.now ≡ record_count = search rules in
    let l = rw e at c.letters_ok.ensures in
    let s = rw e at c.sheet_of-s.ensures in
    let r = c.in-Err.e in
    solve_lent a.numbers.now (pairs a.lows.now a.highs.now) a.tables.now (loan (six a.plane.now a.prior.now a.gradient.now a.across.now a.down.now a.saved.now) a.totals.now) a.clipped.now _ _ _ _
    (other a.numbers.now (pairs a.lows.now a.highs.now) a.tables.now (loan (six a.plane.now a.prior.now a.gradient.now a.across.now a.down.now a.saved.now) a.totals.now) a.clipped.now w (sym l ∙ c.if-not-letters_ok.false) (ap all_legal (sym s) ∙ sym c.all_legal.ensures ∙ c.if-not-all_legal.false) (c.if-clipped-s.false ∙ ap (λ (z : Sheet). z.header.channels) s)
    (Err r) [] _ (rw (s, c.in-Err.is) at c.solve.ensures.is) _ c.from-in-Err.ensures (λ z. omega (arith, z, c.from-in-Err.ensures, number_of-positive r)))
    (search rules) (search rules) (search rules) (search rules) (search rules) (search rules)

-- the nine numbers being mild

pub returns-in_default-clause-mild : goal.returns-in_default-clause-mild
returns-in_default-clause-mild c = λ m. mild_solved _ m _ _ _ _ _ _ _ (returns-in_default-clause-solved c)

pub returns-then-not-letters_ok-clause-mild : goal.returns-then-not-letters_ok-clause-mild
returns-then-not-letters_ok-clause-mild c = λ m. mild_solved _ m _ _ _ _ _ _ _ (returns-then-not-letters_ok-clause-solved c)

pub returns-then-not-all_legal-clause-mild : goal.returns-then-not-all_legal-clause-mild
returns-then-not-all_legal-clause-mild c = λ m. mild_solved _ m _ _ _ _ _ _ _ (returns-then-not-all_legal-clause-solved c)

pub returns-then-clipped-s-clause-mild : goal.returns-then-clipped-s-clause-mild
returns-then-clipped-s-clause-mild c = λ m. mild_solved _ m _ _ _ _ _ _ _ (returns-then-clipped-s-clause-solved c)

pub returns-in-Ok-Done-clause-mild : goal.returns-in-Ok-Done-clause-mild
returns-in-Ok-Done-clause-mild c = λ m. mild_solved _ m _ _ _ _ _ _ _ (returns-in-Ok-Done-clause-solved c)

pub returns-in-Ok-Blown-clause-mild : goal.returns-in-Ok-Blown-clause-mild
returns-in-Ok-Blown-clause-mild c = λ m. mild_solved _ m _ _ _ _ _ _ _ (returns-in-Ok-Blown-clause-solved c)

pub returns-in-Err-clause-mild : goal.returns-in-Err-clause-mild
returns-in-Err-clause-mild c = λ m. mild_solved _ m _ _ _ _ _ _ _ (returns-in-Err-clause-solved c)
