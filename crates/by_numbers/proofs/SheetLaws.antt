-- From the enums of the reading calls to numbers.
use mathlib.Core.Path.{◌≡◌, refl, sym, ap, ◌∙◌, subst}
use Prim.Native.Nat.{ℕ, ◌≤◌, ◌<◌}
use mathlib.Core.Bool.{Bool, true, false, cond}
use mathlib.Core.List.{List}
use mir.Val.{bool_byte}
use borrow.Author.Tests.{le-leb, lt-leb}
use Rattle.std.specs.Prelude.{Result, Err}
use Rattle.refusal.specs.Refusal.{number_of}
use Rattle.sheet.specs.declared.Lengths.{Lengths}
use Rattle.sheet.specs.declared.walk.Refused as walk
use Rattle.contents.specs.declared.Reader.{Reader}
use Rattle.contents.specs.Sheets.{Lent}
use Rattle.sheet.specs.Reading.{Outcome, Contents}
use Rattle.sheet.specs.Walk.{said}
use Rattle.contents.specs.Letters.{reader_from}
use Rattle.by_numbers.specs.Sheets.{Measures, ReadsNumbers, by_reader}

pub measured_refused : (o : Outcome Lengths) (r : Result Lengths walk.Refused) (f : walk.Refused) (n₀ m₀ : ℕ) → said r ≡ o → r ≡ Err f
    → Measures o n₀ n₀ m₀ m₀ f.line (number_of f.refusal)
measured_refused o r f n₀ m₀ e p =
    subst (λ (z : Outcome Lengths). Measures z n₀ n₀ m₀ m₀ f.line (number_of f.refusal)) (sym (ap said p) ∙ e) (record { number = refl; line = refl; levels = refl; tables = refl })

-- std's byte of a flag
pub bit : (b : Bool) → ◌≡◌ {A = ℕ} (bool_byte b) (cond b 1 0)
bit true = refl
bit false = refl

-- ---- who reads, by a number
module _ (who : ℕ) (into after : Lent) (n₀ n : List ℕ) (at k : ℕ) where
  pub no_reader : 1 < who → after ≡ into → n ≡ n₀ → at ≡ 0 → k ≡ 2 → (o : Outcome Contents) → ReadsNumbers (reader_from who) (by_reader who o) into after n₀ n at k
  no_reader l p q e f o = rw (lt-leb who 1 l) (record { number = f; line = e; lent-after = p; numbers = q })

  pub by-reader : who ≤ 1 → (r : Reader) → r ≡ reader_from who → (o : Outcome Contents) → ReadsNumbers r o into after n₀ n at k → ReadsNumbers (reader_from who) (by_reader who o) into after n₀ n at k
  by-reader l r e o h = rw (le-leb who 1 l) (subst (λ (r : Reader). ReadsNumbers r o into after n₀ n at k) e h)
