-- The fields and lines that are written are as the answer's fields and lines must be.
use Rattle.std.proofs.Common.{ℕ, zero, suc, ◌+◌, ◌-◌, ◌*◌, ◌/◌, ◌%◌, ◌^◌, ◌≡◌, ◌<◌, inl, inr, Bool, true, false, cond, List, [], ◌∷◌, ◌++◌, get_or, All, replicate, refl, ap, ◌∙◌, arith}
use Rattle.std.specs.List.{AllZip}
use Rattle.std.proofs.lemmas.List.Elements.{All-nil, All-cons, All-append}
use native.Mathlib.Nat.{pow-succ'}
use lib.Dec.{ltb}
use borrow.Author.Tests.{lt-ltb, ltb-true, ltb-false}
use Rattle.fold.specs.Fold.{upto}
use Rattle.fold.specs.Join.{join_upto}
use Rattle.digits.specs.Written.{digits_of, decimal, hex_byte, hex_of, joined, ended}
use Rattle.digits.proofs.Lengths.{some_digits, head_digit, hex_length}
use Rattle.output.specs.Output.{each}
use Rattle.output.proofs.Lines.{ended_more}
use Rattle.program_laws.specs.Answer.{IsDigit, IsHexDigit, said_after, IsNumber, IsHex, Kind, IsField, IsLine, IsParts}
use Rattle.program_laws.specs.Answer.Kind.{Number}

-- ---- decimal numbers

said-append : (n : ℕ) (ds : List ℕ) (d : ℕ) → said_after n (ds ++ d ∷ []) ≡ 10 * said_after n ds + (d - 48)
said-append n [] d = refl
said-append n (x ∷ ds) d = said-append (10 * n + (x - 48)) ds d

digits_value : (k n : ℕ) → n < 10 ^ suc k → said_after 0 (digits_of (suc k) n) ≡ n
digits_value zero n h = rw (lt-ltb n 10 h) (omega arith)
digits_value (suc k) n h = two (ltb n 10) (digits_value k (n / 10) (omega (arith, pow-succ' 10 (suc k))))
  where
    two : (t : Bool) → said_after 0 (digits_of (suc k) (n / 10)) ≡ n / 10 → said_after 0 (cond t ((48 + n) ∷ []) (digits_of (suc k) (n / 10) ++ (48 + n % 10) ∷ [])) ≡ n
    two true ih = omega arith
    two false ih = said-append 0 (digits_of (suc k) (n / 10)) (48 + n % 10) ∙ omega (arith, ih)

one_digit : (n : ℕ) → n < 10 → All IsDigit ((48 + n) ∷ [])
one_digit n h = All-cons IsDigit (48 + n) [] (omega arith, omega arith) (All-nil IsDigit)

digits_are : (k n : ℕ) → All IsDigit (digits_of k n)
digits_are zero n = All-nil IsDigit
digits_are (suc k) n = two (ltb n 10) refl (digits_are k (n / 10))
  where
    two : (t : Bool) → ltb n 10 ≡ t → All IsDigit (digits_of k (n / 10)) → All IsDigit (cond t ((48 + n) ∷ []) (digits_of k (n / 10) ++ (48 + n % 10) ∷ []))
    two true e higher = one_digit n (ltb-true n 10 e)
    two false e higher = All-append IsDigit (digits_of k (n / 10)) ((48 + n % 10) ∷ []) higher (one_digit (n % 10) (omega arith))

no_zero_first : (n : ℕ) → n < 10 ^ 6 → (rest : List ℕ) → digits_of 6 n ≡ 48 ∷ rest → rest ≡ []
no_zero_first zero h rest e = let alone : ◌≡◌ {A = List ℕ} (48 ∷ []) (48 ∷ rest) = e in cc
no_zero_first (suc n) h rest e = absurd (head_digit 5 (suc n) (omega arith) h (ap (λ (l : List ℕ). get_or l 0 0) e))

pub number : (n : ℕ) → n < 10 ^ 6 → IsNumber n (decimal n)
unfolding decimal
number n h =
    record { some = some_digits 5 n; digits = digits_are 6 n; value = digits_value 5 n h; unpadded = no_zero_first n h }

-- ---- hexadecimal digits

hex_digit : (d : ℕ) → d < 16 → IsHexDigit (hex_byte d)
hex_digit d h = two (ltb d 10) refl
  where
    two : (t : Bool) → ltb d 10 ≡ t → IsHexDigit (cond t (48 + d) (87 + d))
    two true e = let less = ltb-true d 10 e in inl (omega arith, omega arith)
    two false e = let more = ltb-false d 10 e in inr (omega arith, omega arith)

hex_digits : (k n : ℕ) → All IsHexDigit (hex_of k n)
hex_digits zero n = All-nil IsHexDigit
hex_digits (suc k) n =
    All-append IsHexDigit (hex_of k (n / 16)) (hex_byte (n % 16) ∷ []) (hex_digits k (n / 16))
    (All-cons IsHexDigit (hex_byte (n % 16)) [] (hex_digit (n % 16) (omega arith)) (All-nil IsHexDigit))

pub hex : (k n : ℕ) → IsHex k (hex_of k n)
hex k n = record { long = hex_length k n; digits = hex_digits k n }

-- a pixel's three bytes
pub three_bytes : (a b c : ℕ) → IsHex 6 (hex_of 2 a ++ (hex_of 2 b ++ hex_of 2 c))
three_bytes a b c =
    record {
      long = refl;
      digits = All-append IsHexDigit (hex_of 2 a) (hex_of 2 b ++ hex_of 2 c) (hex_digits 2 a) (All-append IsHexDigit (hex_of 2 b) (hex_of 2 c) (hex_digits 2 b) (hex_digits 2 c));
    }

-- ---- lines

pub two_numbers : (letter a b : ℕ) → a < 10 ^ 6 → b < 10 ^ 6 → IsLine letter (Number a ∷ Number b ∷ []) (ended (joined ((letter ∷ []) ∷ decimal a ∷ decimal b ∷ []) ∷ []))
two_numbers letter a b h k =
    record { fields = decimal a ∷ decimal b ∷ []; each = (number a h, (number b k, tt)); bytes = refl }

-- lines one after the other, of which line k is as `IsPart k` says
pub lines_join : (f : ℕ → List ℕ) (n : ℕ) → ended (each f n) ≡ join_upto (λ k. ended (f k ∷ [])) n
unfolding each upto
lines_join f zero = refl
lines_join f (suc n) = ended_more (each f n) (f n) ∙ ap (λ (l : List ℕ). l ++ ended (f n ∷ [])) (lines_join f n)

pub lines_parts : (IsPart : ℕ → List ℕ → Type 0) (f : ℕ → List ℕ) (n : ℕ) → ((k : ℕ) → k < n → IsPart k (ended (f k ∷ []))) → IsParts IsPart n (ended (each f n))
lines_parts IsPart f n h = record { part = λ k. ended (f k ∷ []); bytes = lines_join f n; each = h }

-- n fields of one kind
pub same_kind : (kind : Kind) (f : ℕ → List ℕ) (n : ℕ) → ((k : ℕ) → IsField kind (f k)) → AllZip IsField (replicate n kind) (each f n)
unfolding each
same_kind kind f zero h = tt
same_kind kind f (suc n) h = more n (each f n) (same_kind kind f n h)
  where
    more : (m : ℕ) (fs : List (List ℕ)) → AllZip IsField (replicate m kind) fs → AllZip IsField (kind ∷ replicate m kind) (fs ++ f n ∷ [])
    more zero [] a = (h n, tt)
    more zero (x ∷ fs) a = absurd a
    more (suc m) [] a = absurd a
    more (suc m) (x ∷ fs) a = (a.0, more m fs a.1)
