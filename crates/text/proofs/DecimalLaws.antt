-- Each number has one spelling: reading what is written gives it back, and what is read was written so.
use Rattle.std.proofs.Common.{Some, None}
use Prim.Native.Nat.{ℕ, zero, suc, ◌+◌, ◌-◌, ◌*◌, ◌/◌, ◌%◌, ◌^◌, ◌<◌, ◌≤◌}
use mathlib.Core.Path.{◌≡◌, refl, sym, ap, ◌∙◌}
use mathlib.Core.List.{List, [], ◌∷◌, ◌++◌}
use mathlib.Core.Bool.{Bool, true, false, cond, ◌&&◌}
use native.Mathlib.Nat.{pow-succ'}
use native.Mathlib.Omega.{arith}
use lib.ListN.{length, get_or, take}
use lib.Seq.{take-suc, take_all, get_or-take, length-take-le}
use lib.Dec.{leb, ltb}
use borrow.Author.Tests.{eq-eqb, le-leb, lt-ltb, le-ltb, ltb-true, ltb-false, leb-true}
use Rattle.text.specs.Numbers.{digits, padded, number_of}
use Rattle.digits.specs.Written.{digits_of, decimal}
use Rattle.text.proofs.NumberLaws.{number_one, number_two}
use Rattle.digits.proofs.Lengths.{some_digits, digits_fit, head_digit, two_digits}

pub is_not : {n : ℕ} {A : Type 0} → None ≡ Some n → A
is_not e = let z : ◌≡◌ {A = ℕ} 0 1 = cc in let y : ⊥ = omega arith in absurd y

pub is_inj : (m n : ℕ) → Some m ≡ Some n → m ≡ n
is_inj m n e = cc

-- f without its last byte, and that byte
pub init_last : (m : ℕ) (f : List ℕ) → length f ≡ suc m → f ≡ take m f ++ get_or f m 0 ∷ []
init_last m f h = sym (take_all (suc m) f (omega arith)) ∙ take-suc f m 0 (omega arith)

-- Reading what is written

digits_snoc : (xs : List ℕ) (v m d : ℕ) → digits v xs ≡ Some m → d ≤ 9 → digits v (xs ++ (48 + d) ∷ []) ≡ Some (m * 10 + d)
digits_snoc [] v m d e h =
    let q : v ≡ m = is_inj v m e in
    let w : (48 + d) - 48 ≡ d = omega arith in
    rw (le-leb 48 (48 + d) (omega arith), le-leb (48 + d) 57 (omega arith), w, q)
digits_snoc (b ∷ xs) v m d e h = two (leb 48 b && leb b 57) e (λ o. digits_snoc xs (v * 10 + (b - 48)) m d o h)
  where
    two : (t : Bool) → cond t (digits (v * 10 + (b - 48)) xs) None ≡ Some m
        → (digits (v * 10 + (b - 48)) xs ≡ Some m → digits (v * 10 + (b - 48)) (xs ++ (48 + d) ∷ []) ≡ Some (m * 10 + d))
        → cond t (digits (v * 10 + (b - 48)) (xs ++ (48 + d) ∷ [])) None ≡ Some (m * 10 + d)
    two true o ih = ih o
    two false o ih = is_not o

one_digit : (n : ℕ) → n < 10 → digits 0 ((48 + n) ∷ []) ≡ Some n
one_digit n h = digits_snoc [] 0 0 n refl (omega arith) ∙ ap Some (omega arith)

written_digits : (k n : ℕ) → n < 10 ^ suc k → digits 0 (digits_of (suc k) n) ≡ Some n
written_digits zero n h = rw (lt-ltb n 10 h) (one_digit n h)
written_digits (suc k) n h = two (ltb n 10) refl (written_digits k (n / 10) (omega (arith, pow-succ' 10 (suc k))))
  where
    two : (t : Bool) → ltb n 10 ≡ t → digits 0 (digits_of (suc k) (n / 10)) ≡ Some (n / 10)
        → digits 0 (cond t ((48 + n) ∷ []) (digits_of (suc k) (n / 10) ++ (48 + n % 10) ∷ [])) ≡ Some n
    two true p ih = one_digit n (ltb-true n 10 p)
    two false p ih = digits_snoc (digits_of (suc k) (n / 10)) 0 (n / 10) (n % 10) ih (omega arith) ∙ ap Some (omega arith)

pub number_written : (n : ℕ) → n ≤ 999999 → number_of (decimal n) ≡ Some n
unfolding decimal
number_written n h = two (ltb n 10) refl
  where
    two : (t : Bool) → ltb n 10 ≡ t → number_of (digits_of 6 n) ≡ Some n
    two true p = sym (number_one (digits_of 6 n) (some_digits 5 n) (digits_fit 6 0 n (ltb-true n 10 p))) ∙ written_digits 5 n (omega arith)
    two false p =
        sym (number_two (digits_of 6 n) (two_digits 4 n (ltb-false n 10 p)) (digits_fit 6 5 n (omega arith)) (head_digit 5 n (omega (arith, ltb-false n 10 p)) (omega arith)))
        ∙ written_digits 5 n (omega arith)

-- What is read was written

record Unsnoc (v : ℕ) (xs : List ℕ) (b n : ℕ) : Type 0 where
  front : ℕ
  read : digits v xs ≡ Some front
  low : 48 ≤ b
  high : b ≤ 57
  whole : n ≡ front * 10 + (b - 48)

digits_unsnoc : (xs : List ℕ) (v b n : ℕ) → digits v (xs ++ b ∷ []) ≡ Some n → Unsnoc v xs b n
digits_unsnoc [] v b n e = two (leb 48 b) (leb b 57) refl refl e
  where
    two : (s t : Bool) → leb 48 b ≡ s → leb b 57 ≡ t → cond (s && t) (Some (v * 10 + (b - 48))) None ≡ Some n → Unsnoc v [] b n
    two true true p q o = record { front = v; read = refl; low = leb-true 48 b p; high = leb-true b 57 q; whole = sym (is_inj (v * 10 + (b - 48)) n o) }
    two true false p q o = is_not o
    two false t p q o = is_not o
digits_unsnoc (x ∷ xs) v b n e = two (leb 48 x && leb x 57) refl e (digits_unsnoc xs (v * 10 + (x - 48)) b n)
  where
    two : (t : Bool) → (leb 48 x && leb x 57) ≡ t → cond t (digits (v * 10 + (x - 48)) (xs ++ b ∷ [])) None ≡ Some n
        → (digits (v * 10 + (x - 48)) (xs ++ b ∷ []) ≡ Some n → Unsnoc (v * 10 + (x - 48)) xs b n) → Unsnoc v (x ∷ xs) b n
    two true p o ih =
        let r = ih o in
        record { front = r.front; read = rw p r.read; low = r.low; high = r.high; whole = r.whole }
    two false p o ih = is_not o

-- a first digit above 0 makes the number so
positive : (xs : List ℕ) (v n : ℕ) → 1 ≤ v → digits v xs ≡ Some n → 1 ≤ n
positive [] v n h e = omega (arith, is_inj v n e)
positive (b ∷ xs) v n h e = two (leb 48 b && leb b 57) e (positive xs (v * 10 + (b - 48)) n (omega arith))
  where
    two : (t : Bool) → cond t (digits (v * 10 + (b - 48)) xs) None ≡ Some n → (digits (v * 10 + (b - 48)) xs ≡ Some n → 1 ≤ n) → 1 ≤ n
    two true o ih = ih o
    two false o ih = is_not o

head_positive : (f : List ℕ) (n : ℕ) → 0 < length f → (get_or f 0 0 ≡ 48 → ⊥) → digits 0 f ≡ Some n → 1 ≤ n
head_positive [] n l h e = let y : ⊥ = omega arith in absurd y
head_positive (b ∷ xs) n l h e = two (leb 48 b) (leb b 57) refl e
  where
    two : (s t : Bool) → leb 48 b ≡ s → cond (s && t) (digits (0 * 10 + (b - 48)) xs) None ≡ Some n → 1 ≤ n
    two true true p o = positive xs (0 * 10 + (b - 48)) n (omega (arith, leb-true 48 b p)) o
    two true false p o = is_not o
    two false t p o = is_not o

canonical : (m : ℕ) (f : List ℕ) (n K : ℕ) → length f ≡ suc m → digits 0 f ≡ Some n → (1 < length f → get_or f 0 0 ≡ 48 → ⊥) → suc m ≤ K → digits_of K n ≡ f
canonical zero f n zero l e h k = let y : ⊥ = omega arith in absurd y
canonical (suc m) f n zero l e h k = let y : ⊥ = omega arith in absurd y
canonical zero f n (suc K) l e h k =
    let b = get_or f 0 0 in
    let u = digits_unsnoc [] 0 b n (rw (init_last 0 f l) at e) in
    let z : u.front ≡ 0 = sym (is_inj 0 u.front u.read) in
    let w : 48 + n ≡ b = omega (arith, u.low, u.whole) in
    rw (lt-ltb n 10 (omega (arith, u.high, u.whole))) (ap (λ (x : ℕ). x ∷ []) w ∙ sym (init_last 0 f l))
canonical (suc m) f n (suc K) l e h k =
    let xs = take (suc m) f in
    let b = get_or f (suc m) 0 in
    let lx : length xs ≡ suc m = length-take-le (suc m) f (omega arith) in
    let hx : get_or xs 0 0 ≡ get_or f 0 0 = get_or-take (suc m) f 0 0 (omega arith) in
    let u = digits_unsnoc xs 0 b n (rw (init_last (suc m) f l) at e) in
    let p : 1 ≤ u.front = head_positive xs u.front (omega arith) (λ q. h (omega arith) (sym hx ∙ q)) u.read in
    let w : 48 + n % 10 ≡ b = omega (arith, u.low, u.high, u.whole) in
    let q : n / 10 ≡ u.front = omega (arith, u.low, u.high, u.whole) in
    let r : digits_of K u.front ≡ xs = canonical m xs u.front K lx u.read (λ g q. h (omega arith) (sym hx ∙ q)) (omega arith) in
    rw (le-ltb n 10 (omega (arith, p, u.whole)), w, q, r) (sym (init_last (suc m) f l))

record Spelt (f : List ℕ) (n : ℕ) : Type 0 where
  some : 1 ≤ length f
  few : length f ≤ 6
  bare : padded f ≡ false
  value : digits 0 f ≡ Some n

spelt : (f : List ℕ) (n : ℕ) → number_of f ≡ Some n → Spelt f n
unfolding number_of
spelt f n e = three (leb 1 (length f)) (leb (length f) 6) (padded f) refl refl refl e
  where
    three : (a b c : Bool) → leb 1 (length f) ≡ a → leb (length f) 6 ≡ b → padded f ≡ c → cond (a && b) (cond c None (digits 0 f)) None ≡ Some n → Spelt f n
    three true true false p q r o = record { some = leb-true 1 (length f) p; few = leb-true (length f) 6 q; bare = r; value = o }
    three true true true p q r o = is_not o
    three true false c p q r o = is_not o
    three false b c p q r o = is_not o

unpadded : (f : List ℕ) → padded f ≡ false → 1 < length f → get_or f 0 0 ≡ 48 → ⊥
unpadded [] e h q = omega arith
unpadded (b ∷ []) e h q = omega arith
unpadded (b ∷ (d ∷ l)) e h q = let z : ◌≡◌ {A = ℕ} 0 1 = cc (eq-eqb b 48 q) in omega arith

pub number_canonical : (f : List ℕ) (n : ℕ) → number_of f ≡ Some n → decimal n ≡ f
unfolding decimal
number_canonical f n e =
    let s = spelt f n e in
    canonical (length f - 1) f n 6 (omega (arith, s.some)) s.value (unpadded f s.bare) (omega (arith, s.some, s.few))
