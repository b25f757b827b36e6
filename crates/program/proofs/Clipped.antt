-- The numbers of the lines `K`: one for each channel, and small.
use mathlib.Core.Path.{◌≡◌, refl, ap}
use mathlib.Core.Bool.{Bool, true, false, cond}
use mathlib.Core.List.{List, [], ◌++◌}
use Prim.Native.Nat.{ℕ, ◌+◌, ◌*◌, ◌≤◌, ◌<◌}
use native.Mathlib.Nat.{mul-le-mul}
use native.Mathlib.Numerals.{add-one}
use native.Mathlib.Omega.{arith}
use lib.ListN.{length}
use Rattle.fold.specs.Fold.{upto}
use Rattle.fold.proofs.Loops.{upto_ext}
use Rattle.contents.specs.declared.Sheet.{Sheet}
use Rattle.contents.specs.Legal.{LegalSheet}
use Rattle.contents.specs.Sheets.{Lent, channel_at}
use Rattle.start.specs.Coef.{Levels}
use Rattle.calls.specs.Run.{coefs}
use Rattle.calls.specs.Jobs.{kept}
use Rattle.demand.specs.Solver.{jobs}
use Rattle.record.specs.Model.{sheet_of}
use Rattle.rounds.specs.Whole.{job_count, run_of}
use Rattle.rounds.proofs.Ends.{kept_most}
use Rattle.solve.specs.Solve.{alone, joint_given, alone_given, separately, whole_of, clipped_at}
use Rattle.copying.specs.declared.Writer.{Writer}
use Rattle.std.specs.Prelude.{Ok}
use Rattle.output.specs.Output.{clipped_text, clipped_answer, room, Adds}
use Rattle.output.proofs.Sizes.{clipped-answer, clipped_room_32}
use Rattle.output.proofs.Fronts.{wrote_length, adds_more}
use Rattle.program.specs.Printed.{limits, levels_of, clipped_lines, most_picture, AddsTo}
use Rattle.program.proofs.Accepts.{same_sides}

-- at the program's limit no channel has more than 1,024 coefficients
module _ (S : Sheet) (b : Lent) (l : LegalSheet limits S b) (c : ℕ) (h : c < S.header.channels) where
  abbrev ls : Levels
  ls = levels_of b

  abbrev ts : List ℕ
  ts = b.tables

  own_small : (channel_at S c).width * (channel_at S c).height ≤ 1024
  own_small =
      let x = l.channel c h in
      mul-le-mul {n₂ = 32} {m₂ = 32} (omega (arith, x.width.top, l.header.width.top)) (omega (arith, x.height.top, l.header.height.top))

  alone_coefs : coefs (sheet_of (alone S c)) 0 ≡ (channel_at S c).width * (channel_at S c).height
  unfolding alone
  alone_coefs = refl

  joint_kept : kept jobs (joint_given S ls ts) (job_count (joint_given S ls ts)) c ≤ 1024
  joint_kept = omega (arith, kept_most (joint_given S ls ts) (job_count (joint_given S ls ts)) c, same_sides limits S b l c h, own_small)

  alone_kept : kept jobs (alone_given S ls ts c) (job_count (alone_given S ls ts c)) 0 ≤ 1024
  alone_kept = omega (arith, kept_most (alone_given S ls ts c) (job_count (alone_given S ls ts c)) 0, alone_coefs, own_small)

  pub clipped_small : clipped_at S ls ts c ≤ 1024
  unfolding whole_of run_of separately
  clipped_small = go S.header.joint
    where
      go : (b : Bool) → (cond b (run_of (joint_given S ls ts)) (separately S ls ts)).clipped c ≤ 1024
      go true = joint_kept
      go false = alone_kept

-- the same numbers make the same lines
pub lines_same : (n : ℕ) (f g : ℕ → ℕ) → ((c : ℕ) → c < n → f c ≡ g c) → clipped_lines n f ≡ clipped_lines n g
unfolding clipped_lines
lines_same n f g same =
    upto_ext (λ c xs. xs ++ clipped_text c (f c)) (λ c xs. xs ++ clipped_text c (g c)) n [] (λ c xs h. ap (λ (k : ℕ). xs ++ clipped_text c k) (same c h))

-- none yet, and one more, which has room
pub none_written : (f : ℕ → ℕ) → [] ≡ clipped_lines 0 f
unfolding clipped_lines upto
none_written f = refl

pub one_written : (f : ℕ → ℕ) (u v w : Writer) (c : ℕ) → c < 3 → f c ≤ 1024 → 27 + most_picture ≤ room u → AddsTo (9 * c) u (clipped_lines c f) v
    → Adds v (clipped_text c (f c)) w → AddsTo (9 * (c + 1)) u (clipped_lines (c + 1) f) w
unfolding clipped_lines upto
one_written f u v w c below small big early line =
    let within : v.at ≤ length u.out.now = omega (arith, early.1) in
    (rw add-one (adds_more within early.0 line), omega (arith, early.1, line.wrote.count, clipped_room_32 c (f c) (omega arith) (omega arith)))

pub one_fits : (u v : Writer) (text : List ℕ) (c k : ℕ) → c < 3 → k ≤ 1024 → 27 + most_picture ≤ room u → AddsTo (9 * c) u text v → clipped_answer c k (room v) ≡ Ok tt
one_fits u v text c k below small big early =
    let within : v.at ≤ length u.out.now = omega (arith, early.1) in
    let same : length v.out.now ≡ length u.out.now = wrote_length early.0.wrote within in
    clipped-answer c k (room v) (omega arith) (omega arith) (omega (arith, early.1))
