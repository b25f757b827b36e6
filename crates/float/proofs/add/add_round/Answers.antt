-- Kept: the check finds none of these alone (scripts/answers tries each).
-- `float::add::add_round` meets its contract: a zero leaves the other number, and else each is brought to its leading one, which changes no value. Assumes nothing.
use Rattle.std.proofs.Common.{◌≡◌, ℕ, ◌-◌, ◌*◌, ◌%◌, ◌^◌, ◌<◌, Bool, sym, ap, ◌∙◌, ap₂, mul-pos, zero-mul, arith, pow_pos}
use lib.Count.{count_leading_zeros}
use lib.Ieee.{binary32, sum}
use Rattle.float.proofs.Normal.{Aligned, aligned}
use Rattle.float.proofs.Sums.{sum_comm, zero_left, zero_right, zeros_like, zeros_unlike}
use Rattle.float.proofs.add.add_round.Reads as reads
use Rattle.float.proofs.add.add_round.Lts as lts
use Rattle.float.proofs.add.add_round.Goals as goal
use Rattle.float.proofs.add.add_round.Tie as tie

-- p * 2 ^ x at p = 0, and at any other p
none : (p x : ℕ) → p ≡ 0 → p * 2 ^ x ≡ 0
none p x e = ap (λ (z : ℕ). z * 2 ^ x) e ∙ zero-mul (2 ^ x)

some : (p x : ℕ) → (p ≡ 0 → ⊥) → 0 < p * 2 ^ x
some p x n = let h : 0 < p = omega arith in mul-pos h (pow_pos x)

-- a number other than 0 that has at most 48 digits, shifted
shift : (p : ℕ) → (p ≡ 0 → ⊥) → p < 2 ^ 48 → Aligned p (p * 2 ^ (count_leading_zeros 64 p - 2) % 2 ^ 64) (count_leading_zeros 64 p - 2)
shift p n h = aligned p n h

both : (s t : Bool) {a a' b b' : ℕ} → a ≡ a' → b ≡ b' → sum binary32 s a t b (2 ^ 426) ≡ sum binary32 s a' t b' (2 ^ 426)
both s t e f = ap₂ (λ (x y : ℕ). sum binary32 s x t y (2 ^ 426)) e f

pub returns-then-s-t : goal.returns-then-s-t
returns-then-s-t c =
    let a = c.before.before.before.before.args in
    c.pack.ensures
    ∙ sym
    (ap (λ (z : ℕ). sum binary32 a.s z a.t (a.q * 2 ^ a.y) (2 ^ 426)) (none a.p a.x c.before.before.before.if-p-eq0.true)
    ∙ ap (λ (z : ℕ). sum binary32 a.s 0 a.t z (2 ^ 426)) (none a.q a.y c.before.before.if-q-eq0.true)
    ∙ zeros_like a.s a.t c.before.if-s-t.true)

pub returns-then-q-eq0 : goal.returns-then-q-eq0
returns-then-q-eq0 c =
    let a = c.before.before.before.args in
    sym
    (ap (λ (z : ℕ). sum binary32 a.s z a.t (a.q * 2 ^ a.y) (2 ^ 426)) (none a.p a.x c.before.before.if-p-eq0.true)
    ∙ ap (λ (z : ℕ). sum binary32 a.s 0 a.t z (2 ^ 426)) (none a.q a.y c.before.if-q-eq0.true)
    ∙ zeros_unlike a.s a.t c.if-s-t.false)

pub returns-then-p-eq0 : goal.returns-then-p-eq0
returns-then-p-eq0 c =
    let a = c.before.before.before.args in
    c.round_pack.ensures
    ∙ sym
    (ap (λ (z : ℕ). sum binary32 a.s z a.t (a.q * 2 ^ a.y) (2 ^ 426)) (none a.p a.x c.before.before.if-p-eq0.true)
    ∙ zero_left a.s a.t (a.q * 2 ^ a.y) (2 ^ 426) (some a.q a.y c.before.if-q-eq0.false))

pub returns-then-q-eq0-2 : goal.returns-then-q-eq0-2
returns-then-q-eq0-2 c =
    let a = c.before.before.before.args in
    c.round_pack-then-q-eq0-2.ensures
    ∙ sym
    (ap (λ (z : ℕ). sum binary32 a.s (a.p * 2 ^ a.x) a.t z (2 ^ 426)) (none a.q a.y c.before.if-q-eq0-2.true)
    ∙ zero_right a.s a.t (a.p * 2 ^ a.x) (2 ^ 426) (some a.p a.x c.before.before.if-p-eq0.false))

-- both are shifted
shift_p : (c : (lts.Else4 tie.the-claims reads.Pre reads.Post)) → Aligned c.before.before.args.p (c.before.before.args.p * 2 ^ (count_leading_zeros 64 c.before.before.args.p - 2) % 2 ^ 64) (count_leading_zeros 64 c.before.before.args.p - 2)
shift_p c = shift c.before.before.args.p c.before.if-p-eq0.false c.before.before.requires.0

shift_q : (c : (lts.Else4 tie.the-claims reads.Pre reads.Post)) → Aligned c.before.before.args.q (c.before.before.args.q * 2 ^ (count_leading_zeros 64 c.before.before.args.q - 2) % 2 ^ 64) (count_leading_zeros 64 c.before.before.args.q - 2)
shift_q c = shift c.before.before.args.q c.if-q-eq0-2.false c.before.before.requires.1

pub add_ordered-requires : goal.add_ordered-requires
add_ordered-requires c =
    let p = shift_p c.before in
    let q = shift_q c.before in
    let u = p.most in
    (p.lo, p.hi, p.ends, omega (arith, q.lo), q.hi, q.ends, omega arith, omega arith, omega arith)

pub add_ordered-requires-2 : goal.add_ordered-requires-2
add_ordered-requires-2 c =
    let p = shift_p c.before in
    let q = shift_q c.before in
    let u = q.most in
    (q.lo, q.hi, q.ends, omega (arith, p.lo), p.hi, p.ends, omega arith, omega arith, omega arith)

-- the second first
pub returns : goal.returns
returns c =
    let p = shift c.args.p c.if-p-eq0.false c.requires.0 in
    let q = shift c.args.q c.if-q-eq0-2.false c.requires.1 in
    let u = p.most in
    let v = q.most in
    c.add_ordered-2.ensures
    ∙ both c.args.t c.args.s (q.value c.args.y (omega (arith, v))) (p.value c.args.x (omega (arith, u)))
    ∙ sum_comm c.args.t c.args.s (c.args.q * 2 ^ c.args.y) (c.args.p * 2 ^ c.args.x) (2 ^ 426)
