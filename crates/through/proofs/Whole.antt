-- What a full buffer holds of a reader's bytes, and what is written of them.
use Rattle.std.proofs.Common.{◌≡◌, ℕ, ◌≤◌, ◌<◌, List, ◌++◌, None, Some, IfSome, OnOk, Result, Ok, Err, arith, length, take, drop, sym, ap, ◌∙◌, subst, append-nil, take_all, length-take-le}
use Rattle.std.specs.Prelude.{Option}
use mathlib.Core.Logic.{◌⊎◌, inl, inr}
use Rattle.std.proofs.Math.Nat.{eq-or-lt_of_le}
use Rattle.std.proofs.Math.Seq.{take-append_seam}
use Rattle.std.specs.Io.KnownBytes.{Appends, Consumes, IsAtEnd}
use Rattle.output.specs.Output.{Wrote}
use Rattle.grammar.proofs.PrefixLaws.{decides}
use Rattle.grammar.specs.Longest.{decisive}
use Rattle.program.specs.Printed.{limits, says, printed}
use Rattle.program.proofs.Printing as program
use Rattle.program.proofs.Printing.{decisive_32}

pub whole : (a b : Option (List ℕ)) (n : ℕ) (buf : List ℕ) → Consumes a b (take n buf) → n ≤ length buf → (n < length buf → IsAtEnd b) → IfSome a (λ xs. take (length buf) xs ≡ take n buf)
whole None b n buf p h end = tt
whole (Some xs) None n buf p h end = absurd p
whole (Some xs) (Some ys) n buf p h end = by (eq-or-lt_of_le h)
  where
    by : (n ≡ length buf) ⊎ (n < length buf) → take (length buf) xs ≡ take n buf
    by (inl full) =
        let all : take n buf ≡ buf = take_all n buf (omega (arith, full)) in
        ap (take (length buf)) (p ∙ ap (λ l. l ++ ys) all) ∙ take-append_seam buf ys ∙ sym all
    by (inr less) =
        let it : xs ≡ take n buf = p ∙ ap (λ l. take n buf ++ l) (end less) ∙ append-nil (take n buf) in
        take_all (length buf) xs (omega (arith, ap (λ (l : List ℕ). length l) it, length-take-le n buf h, less)) ∙ it

-- so many bytes decide, and any more than that
decided : (n : ℕ) (xs : List ℕ) → decisive 32 ≤ n → printed (take n xs) ≡ printed xs
unfolding printed
decided n xs h = ap says (decides limits xs n h)

-- as many as are read
pub enough : (n : ℕ) → program.decided ≤ n → decisive 32 ≤ n
enough n h = omega (arith, h, decisive_32)

-- what was written is at the front
pub front : (part out after : List ℕ) (m : ℕ) → Wrote 0 (printed part) out m after → take m after ≡ printed part
front part out after m w =
    let T = printed part in
    let long : m ≡ length T = omega (arith, w.count) in
    ap (take m) w.bytes ∙ ap (λ k. take k (T ++ drop m out)) long ∙ take-append_seam T (drop m out)

pub finish : {X E : Type 0} (r : Result X E) (a o p : Option (List ℕ)) (n : ℕ) (part bs : List ℕ) → decisive 32 ≤ n
    → IfSome a (λ xs. take n xs ≡ part) → bs ≡ printed part
    → OnOk r (Appends o p bs) → OnOk r (IfSome a (λ xs. Appends o p (printed xs)))
finish (Err e) a o p n part bs most all same h = tt
finish (Ok x) None o p n part bs most all same h = tt
finish (Ok x) (Some xs) o p n part bs most all same h = subst (Appends o p) (same ∙ ap printed (sym all) ∙ decided n xs most) h
