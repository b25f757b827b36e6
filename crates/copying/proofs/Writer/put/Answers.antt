-- Kept: the check finds none of these alone (scripts/answers tries each).
-- `copying::Writer::put` meets its contract.
use mathlib.Core.Path.{refl, sym, ◌∙◌}
use native.Mathlib.Omega.{arith}
use lib.ListN.{take}
use Rattle.std.proofs.lemmas.List.Edits.{paste_all}
use Rattle.std.proofs.lemmas.Slice.{put_mid-paste}
use Rattle.copying.proofs.PartLaws.{sets_out, fitting, sets_fitting}
use Rattle.copying.proofs.Writer.put.Goals as goal
use Rattle.copying.proofs.Writer.put.Goals.{then-self, else-self}

pub returns : goal.returns
returns c =
    let w = c.args.self.now in
    let xs = c.args.bytes.now in
    elim c.if-self.branch [
      | then-self b ↦
          let n = b.min-n.result in
          let part = take n xs in
          let f = fitting xs w.out.now w.at n b.if-self.true b.min-n.ensures in
          rw b.self-is
          (record {
            next = refl;
            last =
                put_mid-paste w.at _ w.out.now _ part n b.copy.ensures (omega arith) (sym f)
                ∙ paste_all w.out.now w.at part n (sym f)
                ∙ sets_fitting xs w.out.now w.at n b.if-self.true b.min-n.ensures;
            same = refl;
          })
      | else-self b ↦ rw b.self-is (record { next = refl; last = sym (sets_out xs w.out.now w.at b.if-self.false); same = refl })
    ]
