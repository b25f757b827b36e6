use mathlib.Core.Path.{◌≡◌, ◌∙◌, ap, subst, sym}
use mathlib.Core.Bool.{Bool, ◌||◌}
use mathlib.Core.List.{List}
use Prim.Native.Nat.{ℕ, ◌+◌, ◌%◌, ◌≤◌}
use Rattle.std.specs.Int.Bits.{bit_or}
use lib.Count.{ones}
use lib.Ieee.{lt}
use lib.Lanes.{mask_l, top}
use Rattle.fold.specs.Fold.{upto}
use Rattle.float.specs.Names.{val}
use Rattle.utils.specs.Lanes.{eight}
use Rattle.utils.proofs.Rows.{eight_ext, eight_is}
use Rattle.projection.proofs.Clips.{counted, either, few, lane}
use Rattle.projection.proofs.clip.count_outside.Goals as goal

pub returns-clause-counted : goal.returns-clause-counted
unfolding upto
returns-clause-counted c =
    let x = c.args.x in
    let l = c.args.least in
    let m = c.args.most in
    let n = c.args.n in
    let p : ℕ → Bool = λ j. lt (val x j) (val l j) || lt (val m j) (val x j) in
    let same : eight (λ j. top 31 (bit_or (lane (lt (val x j) (val l j))) (lane (lt (val m j) (val x j))))) ≡ eight p =
    eight_ext (λ j. top 31 (bit_or (lane (lt (val x j) (val l j))) (lane (lt (val m j) (val x j))))) p (λ j h. either (lt (val x j) (val l j)) (lt (val m j) (val x j))) in
    rw (← eight_is x c.requires.x, ← eight_is l c.requires.least, ← eight_is m c.requires.most)
    (ap (λ (ms : List Bool). n + ones (mask_l ms % 18446744073709551616)) same ∙ counted p n)

pub returns-clause-few : goal.returns-clause-few
returns-clause-few c =
    let x = c.args.x in
    let l = c.args.least in
    let m = c.args.most in
    let n = c.args.n in
    let p : ℕ → Bool = λ j. lt (val x j) (val l j) || lt (val m j) (val x j) in
    let same : eight (λ j. top 31 (bit_or (lane (lt (val x j) (val l j))) (lane (lt (val m j) (val x j))))) ≡ eight p =
    eight_ext (λ j. top 31 (bit_or (lane (lt (val x j) (val l j))) (lane (lt (val m j) (val x j))))) p (λ j h. either (lt (val x j) (val l j)) (lt (val m j) (val x j))) in
    let all = ap (λ (ms : List Bool). n + ones (mask_l ms % 18446744073709551616)) same ∙ counted p n in
    rw (← eight_is x c.requires.x, ← eight_is l c.requires.least, ← eight_is m c.requires.most)
    (subst (λ (k : ℕ). k ≤ n + 8) (sym all) (few p n))
