-- Separate mode, inside this crate: each channel's run on its part of what the sheet is lent.
use Rattle.std.specs.Prelude.{ℕ, suc, ◌+◌, ◌*◌, ◌≤◌, ◌<◌, ◌≡◌, false, List, length, Result}
use Rattle.start.specs.Coef.{Levels, Long}
use Rattle.fold.specs.Part.{part, splice}
use Rattle.contents.specs.declared.Sheet.{Sheet}
use Rattle.calls.specs.Run.{levels_before}
use Rattle.calls.specs.Buffers.{channel, put_channel}
use Rattle.calls.specs.Calls.{lengths, all_six}
use Rattle.record.specs.declared.Run.{Run}
use Rattle.refusal.specs.declared.Refusal.{Refusal}
use Rattle.record.specs.Model.{Legal, sheet_of}
use Rattle.rounds.specs.declared.Ran.{Ran}
use Rattle.rounds.specs.Whole.{Loan, loan, ending_of, Ends, RunIs}
use Rattle.solve.specs.Solve.{joint, alone, steps_before, levels_for, tables_for, separately, number_in, solve_refusal}

-- where the totals of channel c's run begin
abbrev pub totals_from : Sheet → ℕ → ℕ
totals_from S c = steps_before S c * 2

-- channel c's part of what is lent
abbrev pub loan_of : Sheet → ℕ → Loan → Loan
loan_of S c L = loan (channel (S.header.width * S.header.height) c L.buffers) (part L.totals (totals_from S c) (totals_from S (suc c)))

-- and what is lent once that part is back
abbrev pub put_loan : Sheet → ℕ → Loan → Loan → Loan
put_loan S c L own =
    loan (put_channel (S.header.width * S.header.height) c L.buffers own.buffers) (splice L.totals (totals_from S c) (totals_from S (suc c)) own.totals)

-- channel c's run, on its part of the six and of the totals, which leaves the record r
pub record AloneIs (S : Sheet) (c : ℕ) (levels : Levels) (tables : List ℕ) (L : Loan) (a : Result Ran Refusal) (r : Run) (L' : Loan) : Type 0 where
  pub own : Loan
  pub run : RunIs (alone S c) (levels_for S levels c) (tables_for tables c) (loan_of S c L) a r own
  pub put : L' ≡ put_loan S c L own

-- where channel c's part lies in the lent buffers, in the levels, in the tables and in the totals
pub record PartsAre (S : Sheet) (c from to l m t u x y : ℕ) : Type 0 where
  pub from_is : from ≡ c * (S.header.width * S.header.height)
  pub to_is : to ≡ c * (S.header.width * S.header.height) + S.header.width * S.header.height
  pub l_is : l ≡ levels_before (sheet_of (joint S)) c
  pub m_is : m ≡ levels_before (sheet_of (joint S)) (suc c)
  pub t_is : t ≡ c * 64
  pub u_is : u ≡ c * 64 + 64
  pub to_most : to ≤ S.header.channels * (S.header.width * S.header.height)
  pub to_small : to ≤ 786432
  pub l_most : l ≤ m
  pub m_most : m ≤ levels_before (sheet_of (joint S)) S.header.channels
  pub m_small : m ≤ 786432
  pub u_most : u ≤ S.header.channels * 64
  pub u_small : u ≤ 192
  pub x-is : x ≡ totals_from S c
  pub y_is : y ≡ totals_from S (suc c)
  pub x_most : x ≤ y
  pub y_most : y ≤ totals_from S S.header.channels
  pub y_small : y ≤ 25769803770

-- asked: a legal sheet, one of its channels, and the lengths
pub record AloneAsks (S : Sheet) (c : ℕ) (levels : Levels) (tables : List ℕ) (L : Loan) : Type 0 where
  pub is-legal : Legal (joint S)
  pub below : c < S.header.channels
  pub levels-long : Long levels (levels_before (sheet_of (joint S)) S.header.channels)
  pub tables_long : length tables ≡ S.header.channels * 64
  pub plane_long : length L.buffers.plane ≡ S.header.channels * (S.header.width * S.header.height)
  pub prior_long : length L.buffers.prior ≡ S.header.channels * (S.header.width * S.header.height)
  pub gradient_long : length L.buffers.gradient ≡ S.header.channels * (S.header.width * S.header.height)
  pub across_long : length L.buffers.across ≡ S.header.channels * (S.header.width * S.header.height)
  pub down_long : length L.buffers.down ≡ S.header.channels * (S.header.width * S.header.height)
  pub saved_long : length L.buffers.saved ≡ S.header.channels * (S.header.width * S.header.height)
  pub totals_long : length L.totals ≡ totals_from S S.header.channels

-- the channels' runs, one after the other, of a sheet in separate mode that is not refused
pub record SeparateAsks (S : Sheet) (levels : Levels) (tables : List ℕ) (L : Loan) : Type 0 where
  pub apart : S.header.joint ≡ false
  pub accepted : solve_refusal S levels tables (lengths all_six L.buffers) (length L.totals) ≡ 0

abbrev pub SeparateIs : Sheet → Levels → List ℕ → Loan → Result Ran Refusal → List ℕ → Loan → Type 0
SeparateIs S levels tables L a ks L' = Ends 0 (separately S levels tables) L (ending_of a) (number_in ks) L'
