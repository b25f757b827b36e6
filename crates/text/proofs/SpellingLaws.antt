-- Each weight and level has one spelling: reading what is written gives it back, and what is read was written so.
use Rattle.std.proofs.Common.{option_and_then, Some, None, Ok, Err, Option}
use Rattle.refusal.specs.declared.Refusal.TheVariants as refusal
use Prim.Native.Nat.{ℕ, zero, suc, ◌+◌, ◌-◌, ◌*◌, ◌/◌, ◌%◌, ◌^◌, ◌<◌, ◌≤◌}
use mathlib.Core.Path.{◌≡◌, refl, sym, ap, ◌∙◌}
use mathlib.Core.List.{List, [], ◌∷◌, ◌++◌}
use mathlib.Core.Bool.{Bool, true, false, cond, ◌&&◌}
use native.Mathlib.Nat.{pow-succ', lt_of_lt_of_le}
use native.Mathlib.Omega.{arith}
use lib.ListN.{length, get_or, take}
use lib.Seq.{length-take-le}
use lib.IntN.{ℤ, pos, negsuc, neg_ℤ}
use lib.Dec.{eqb, leb, ltb}
use borrow.Author.Tests.{eq-eqb, ne_eqb, le-leb, lt-leb, lt-ltb, le-ltb, ltb-true, ltb-false, leb-true, eqb-true}
use Rattle.contents.specs.declared.Weight.{Weight}
use Rattle.contents.specs.declared.Weight.TheVariants as weight
use Rattle.refusal.specs.declared.Refusal.{Refusal}
use Rattle.std.proofs.Common.{Result}
use Rattle.text.specs.Numbers.{number_of}
use Rattle.text.specs.Weights.{hex_digit, hex_digits, after_letter, bit_form, whole_weight, or_whole, weight_of}
use Rattle.text.specs.Levels.{from_zero, below_zero, level_of}
use Rattle.contents.specs.Legal.{LegalWeight, LegalLevel}
use Rattle.text.specs.Written.{weight_text, level_text}
use Rattle.digits.specs.Written.{decimal, hex_byte, hex_of}
use Rattle.text.proofs.WeightLaws.{hex_below, bits_letter}
use Rattle.text.proofs.LevelLaws.{level_plus}
use Rattle.text.proofs.JoinLaws.{above_head, above_decimal}
use Rattle.text.proofs.DecimalLaws.{is_not, is_inj, init_last, number_written, number_canonical}
use Rattle.digits.proofs.Lengths.{decimal_some, decimal_length, hex_length}

-- Hexadecimal digits

hex_back : (d : ℕ) → d < 16 → hex_digit (hex_byte d) ≡ Some d
hex_back d h = two (ltb d 10) refl
  where
    two : (t : Bool) → ltb d 10 ≡ t → hex_digit (cond t (48 + d) (87 + d)) ≡ Some d
    two true p = let w : (48 + d) - 48 ≡ d = omega arith in rw (le-leb 48 (48 + d) (omega arith), le-leb (48 + d) 57 (omega (arith, ltb-true d 10 p)), w)
    two false p =
        let w : (87 + d) - 87 ≡ d = omega arith in
        rw (le-leb 48 (87 + d) (omega arith), lt-leb (87 + d) 57 (omega arith), le-leb 97 (87 + d) (omega (arith, ltb-false d 10 p)), le-leb (87 + d) 102 (omega arith), w)

hex_there : (b d : ℕ) → hex_digit b ≡ Some d → hex_byte d ≡ b
hex_there b d h = four (leb 48 b) (leb b 57) (leb 97 b) (leb b 102) refl refl refl refl h
  where
    six : 97 ≤ b → b - 87 ≡ d → hex_byte d ≡ b
    six l k = rw (le-ltb d 10 (omega arith)) (omega arith)

    four : (p q r s : Bool) → leb 48 b ≡ p → leb b 57 ≡ q → leb 97 b ≡ r → leb b 102 ≡ s
        → cond (p && q) (Some (b - 48)) (cond (r && s) (Some (b - 87)) None) ≡ Some d → hex_byte d ≡ b
    four true true r s i j k l o =
        let e : b - 48 ≡ d = is_inj (b - 48) d o in
        rw (lt-ltb d 10 (omega (arith, leb-true b 57 j))) (omega (arith, leb-true 48 b i))
    four true false true true i j k l o = six (leb-true 97 b k) (is_inj (b - 87) d o)
    four true false true false i j k l o = is_not o
    four true false false s i j k l o = is_not o
    four false q true true i j k l o = six (leb-true 97 b k) (is_inj (b - 87) d o)
    four false q true false i j k l o = is_not o
    four false q false s i j k l o = is_not o

hex_snoc : (xs : List ℕ) (v m d : ℕ) → hex_digits v xs ≡ Some m → d < 16 → hex_digits v (xs ++ hex_byte d ∷ []) ≡ Some (m * 16 + d)
hex_snoc [] v m d e h = rw (hex_back d h, is_inj v m e)
hex_snoc (b ∷ xs) v m d e h = two (hex_digit b) e (λ k o. hex_snoc xs (v * 16 + k) m d o h)
  where
    two : (t : Option ℕ) → option_and_then (λ k. hex_digits (v * 16 + k) xs) t ≡ Some m
        → ((k : ℕ) → hex_digits (v * 16 + k) xs ≡ Some m → hex_digits (v * 16 + k) (xs ++ hex_byte d ∷ []) ≡ Some (m * 16 + d))
        → option_and_then (λ k. hex_digits (v * 16 + k) (xs ++ hex_byte d ∷ [])) t ≡ Some (m * 16 + d)
    two (Some k) o ih = ih k o
    two None o ih = is_not o

written_hex : (k n : ℕ) → n < 16 ^ k → hex_digits 0 (hex_of k n) ≡ Some n
written_hex zero n h = ap Some (omega arith)
written_hex (suc k) n h =
    hex_snoc (hex_of k (n / 16)) 0 (n / 16) (n % 16) (written_hex k (n / 16) (omega (arith, pow-succ' 16 k))) (omega arith)
    ∙ ap Some (omega arith)

record Unsnoc (v : ℕ) (xs : List ℕ) (b n : ℕ) : Type 0 where
  front : ℕ
  digit : ℕ
  read : hex_digits v xs ≡ Some front
  last : hex_digit b ≡ Some digit
  whole : n ≡ front * 16 + digit

hex_unsnoc : (xs : List ℕ) (v b n : ℕ) → hex_digits v (xs ++ b ∷ []) ≡ Some n → Unsnoc v xs b n
hex_unsnoc [] v b n e = two (hex_digit b) refl e
  where
    two : (t : Option ℕ) → hex_digit b ≡ t → option_and_then (λ k. Some (v * 16 + k)) t ≡ Some n → Unsnoc v [] b n
    two (Some k) p o = record { front = v; digit = k; read = refl; last = p; whole = sym (is_inj (v * 16 + k) n o) }
    two None p o = is_not o
hex_unsnoc (x ∷ xs) v b n e = two (hex_digit x) refl e (λ k. hex_unsnoc xs (v * 16 + k) b n)
  where
    two : (t : Option ℕ) → hex_digit x ≡ t → option_and_then (λ k. hex_digits (v * 16 + k) (xs ++ b ∷ [])) t ≡ Some n
        → ((k : ℕ) → hex_digits (v * 16 + k) (xs ++ b ∷ []) ≡ Some n → Unsnoc (v * 16 + k) xs b n) → Unsnoc v (x ∷ xs) b n
    two (Some k) p o ih =
        let r = ih k o in
        record { front = r.front; digit = r.digit; read = rw p r.read; last = r.last; whole = r.whole }
    two None p o ih = is_not o

canonical : (m : ℕ) (f : List ℕ) (n : ℕ) → length f ≡ m → hex_digits 0 f ≡ Some n → hex_of m n ≡ f
canonical zero [] n l e = refl
canonical zero (b ∷ f) n l e = let y : ⊥ = omega arith in absurd y
canonical (suc m) f n l e =
    let xs = take m f in
    let b = get_or f m 0 in
    let lx : length xs ≡ m = length-take-le m f (omega arith) in
    let u = hex_unsnoc xs 0 b n (rw (init_last m f l) at e) in
    let small = hex_below b u.digit u.last in
    let q : n / 16 ≡ u.front = omega (arith, small, u.whole) in
    let w : n % 16 ≡ u.digit = omega (arith, small, u.whole) in
    let r : hex_of m u.front ≡ xs = canonical m xs u.front lx u.read in
    rw (q, w, hex_there b u.digit u.last, r) (sym (init_last m f l))

-- Weights

bits_written : (n : ℕ) → n < 16 ^ 8 → bit_form (104 ∷ hex_of 8 n) ≡ Some n
unfolding bit_form
bits_written n h = form (hex_of 8 n) (hex_length 8 n) (written_hex 8 n h)
  where
    form : (l : List ℕ) → length l ≡ 8 → hex_digits 0 l ≡ Some n → cond (eqb (length l) 8) (hex_digits 0 l) None ≡ Some n
    form l k e = rw (eq-eqb (length l) 8 k) e

pub weight_written : (w : Weight) → LegalWeight w → weight_of (weight_text w) ≡ Ok w
unfolding weight_of weight_text
weight_written (weight.Bits n) h = rw (bits_written n (lt_of_lt_of_le h (lib.Dec.lit≤ tt)), lt-ltb n 0x7f800000 h)
weight_written (weight.Whole n) h = rw (bits_letter (119 ∷ decimal n) (λ e. omega arith), number_written n (omega arith), le-leb n 255 h)

weight_inj : (u w : Weight) → ◌≡◌ {A = Result Weight Refusal} (Ok u) (Ok w) → u ≡ w
weight_inj u w e = cc

no_weight : {k : Refusal} {w : Weight} {A : Type 0} → Err k ≡ Ok w → A
no_weight e = let z : ◌≡◌ {A = ℕ} 0 1 = cc in let y : ⊥ = omega arith in absurd y

-- a letter, and what follows it
after : (t : ℕ) (f g : List ℕ) → after_letter t f ≡ g → 1 ≤ length g → f ≡ t ∷ g
after t [] g e h = let y : ⊥ = omega (arith, ap length e) in absurd y
after t (b ∷ l) g e h = two (eqb b t) refl e
  where
    two : (c : Bool) → eqb b t ≡ c → cond c l [] ≡ g → b ∷ l ≡ t ∷ g
    two true p o = rw (eqb-true b t p, o)
    two false p o = let y : ⊥ = omega (arith, ap length o) in absurd y

bits_canonical : (f : List ℕ) (n : ℕ) → bit_form f ≡ Some n → f ≡ 104 ∷ hex_of 8 n
unfolding bit_form
bits_canonical f n e = two (eqb (length (after_letter 104 f)) 8) refl e
  where
    two : (t : Bool) → eqb (length (after_letter 104 f)) 8 ≡ t → cond t (hex_digits 0 (after_letter 104 f)) None ≡ Some n → f ≡ 104 ∷ hex_of 8 n
    two true p o =
        let l : length (after_letter 104 f) ≡ 8 = eqb-true (length (after_letter 104 f)) 8 p in
        after 104 f (hex_of 8 n) (sym (canonical 8 (after_letter 104 f) n l o)) (omega (arith, hex_length 8 n))
    two false p o = is_not o

pub weight_canonical : (f : List ℕ) (w : Weight) → weight_of f ≡ Ok w → weight_text w ≡ f
unfolding weight_of weight_text
weight_canonical f w e = form (bit_form f) refl e
  where
    bits : (n : ℕ) (t : Bool) → bit_form f ≡ Some n → cond t (Ok (weight.Bits n)) (Err refusal.Weight) ≡ Ok w → weight_text w ≡ f
    bits n true p o = rw (← weight_inj (weight.Bits n) w o) (sym (bits_canonical f n p))
    bits n false p o = no_weight o

    whole : (n : ℕ) (t : Bool) → number_of (after_letter 119 f) ≡ Some n → cond t (Ok (weight.Whole n)) (Err refusal.Weight) ≡ Ok w → weight_text w ≡ f
    whole n true p o = rw (← weight_inj (weight.Whole n) w o) (sym (after 119 f (decimal n) (sym (number_canonical (after_letter 119 f) n p)) (decimal_some n)))
    whole n false p o = no_weight o

    whole_form : (r : Option ℕ) → number_of (after_letter 119 f) ≡ r → whole_weight r ≡ Ok w → weight_text w ≡ f
    whole_form (Some n) p o = whole n (leb n 255) p o
    whole_form None p o = no_weight o

    form : (b : Option ℕ) → bit_form f ≡ b → or_whole f b ≡ Ok w → weight_text w ≡ f
    form (Some n) p o = bits n (ltb n 0x7f800000) p o
    form None p o = whole_form (number_of (after_letter 119 f)) refl o

-- Levels

level_inj : (y z : ℤ) → ◌≡◌ {A = Result ℤ Refusal} (Ok y) (Ok z) → y ≡ z
level_inj y z e = cc

no_level : {k : Refusal} {z : ℤ} {A : Type 0} → Err k ≡ Ok z → A
no_level e = let z : ◌≡◌ {A = ℕ} 0 1 = cc in let y : ⊥ = omega arith in absurd y

head_high : (n : ℕ) → get_or (decimal n) 0 0 ≡ 45 → ⊥
head_high n e = omega (arith, above_head 48 (decimal n) (above_decimal n) (decimal_some n))

pub level_written : (z : ℤ) → LegalLevel z → level_of (level_text z) ≡ Ok z
unfolding level_text level_of
level_written (pos n) h = level_plus (decimal n) (decimal_some n) (head_high n) ∙ rw (number_written n (omega arith), le-leb n 2047 h)
level_written (negsuc n) h = rw (number_written (suc n) (omega arith), ne_eqb (suc n) 0 (λ e. omega arith), le-leb (suc n) 2047 (omega arith))

pub level_canonical : (f : List ℕ) (z : ℤ) → level_of f ≡ Ok z → level_text z ≡ f
unfolding level_of level_text
level_canonical [] z e = no_level e
level_canonical (b ∷ l) z e = two (eqb b 45) refl e
  where
    up : (n : ℕ) (t : Bool) → number_of (b ∷ l) ≡ Some n → cond t (Ok (pos n)) (Err refusal.Level) ≡ Ok z → level_text z ≡ b ∷ l
    up n true p o = rw (← level_inj (pos n) z o) (number_canonical (b ∷ l) n p)
    up n false p o = no_level o

    from : (r : Option ℕ) → number_of (b ∷ l) ≡ r → from_zero r ≡ Ok z → level_text z ≡ b ∷ l
    from (Some n) p o = up n (leb n 2047) p o
    from None p o = no_level o

    down : (n : ℕ) (s t : Bool) → eqb b 45 ≡ true → number_of l ≡ Some n → cond s (Err refusal.Form) (cond t (Ok (neg_ℤ (pos n))) (Err refusal.Level)) ≡ Ok z
        → eqb n 0 ≡ s → level_text z ≡ b ∷ l
    down n true t q p o r = no_level o
    down n false false q p o r = no_level o
    down zero false true q p o r = let z : ◌≡◌ {A = ℕ} 0 1 = cc in let y : ⊥ = omega arith in absurd y
    down (suc n) false true q p o r = rw (← level_inj (negsuc n) z o) (rw (eqb-true b 45 q) (ap (λ (x : List ℕ). 45 ∷ x) (number_canonical l (suc n) p)))

    below : (r : Option ℕ) → eqb b 45 ≡ true → number_of l ≡ r → below_zero r ≡ Ok z → level_text z ≡ b ∷ l
    below (Some n) q p o = down n (eqb n 0) (leb n 2047) q p o refl
    below None q p o = no_level o

    two : (t : Bool) → eqb b 45 ≡ t → cond t (below_zero (number_of l)) (from_zero (number_of (b ∷ l))) ≡ Ok z → level_text z ≡ b ∷ l
    two true q o = below (number_of l) q refl o
    two false q o = from (number_of (b ∷ l)) refl o

-- Lengths

pub weight_length : (w : Weight) → LegalWeight w → length (weight_text w) ≤ 9
unfolding weight_text
weight_length (weight.Bits n) h = omega (arith, hex_length 8 n)
weight_length (weight.Whole n) h = omega (arith, decimal_length 2 n (omega arith))

pub level_length : (z : ℤ) → LegalLevel z → length (level_text z) ≤ 5
unfolding level_text
level_length (pos n) h = omega (arith, decimal_length 3 n (omega arith))
level_length (negsuc n) h = omega (arith, decimal_length 3 (suc n) (omega arith))
