-- Laws of job 5's condition.
use Rattle.std.proofs.Common.{◌≡◌, ℕ, zero, suc, ◌<◌, false, not, List, [], ◌∷◌, length, refl, le_of_suc-le-suc, not-suc-le-zero}
use lib.Ieee.{Float, nan, inf, fin, binary32, lt, neg, of_bits}
use Rattle.std.proofs.Common.{Bool, ◌+◌, ◌-◌, ◌*◌, ◌||◌, true, take, drop, map, sym, ap, ◌∙◌, arith, take-append-drop}
use Rattle.std.proofs.Math.Seq.{take-add}
use Rattle.std.proofs.lemmas.List.Elements.{All-from_get_or}
use Rattle.std.proofs.lemmas.List.Folds.{list_any-append, list_any_none}
use Rattle.std.proofs.lemmas.List.{get_or-map}
use Rattle.fold.specs.Part.{part}
use Rattle.std.specs.Float.{float_is_finite}
use Rattle.float.specs.Names.{val}
use Rattle.fold.proofs.Choice.{neither}
use Rattle.projection.specs.Blown.{bad, any_bad}

pub bad_is : (x : Float) → not (float_is_finite x) ≡ bad x
unfolding float_is_finite
bad_is nan = refl
bad_is (inf s) = refl
bad_is (fin s m e) = refl

-- where none is bad, each is finite
pub none_bad : (xs : List Float) → any_bad xs ≡ false → (k : ℕ) → k < length xs → bad (val xs k) ≡ false
none_bad [] e k h = absurd (not-suc-le-zero h)
none_bad (x ∷ xs) e zero h = (neither (bad x) (any_bad xs) e).0
none_bad (x ∷ xs) e (suc k) h = none_bad xs (neither (bad x) (any_bad xs) e).1 k (le_of_suc-le-suc h)

-- what lies above the lower infinity, and whose opposite does, is finite
finite_is : (x : Float) → lt (of_bits binary32 0xff800000) x ≡ true → lt (of_bits binary32 0xff800000) (neg x) ≡ true → bad x ≡ false
unfolding lt of_bits neg
finite_is nan h g = sym h
finite_is (inf true) h g = sym h
finite_is (inf false) h g = sym g
finite_is (fin s m e) h g = refl

pub row_finite : (xs : List Float) → length xs ≡ 8 → ((j : ℕ) → j < 8 → lt (of_bits binary32 0xff800000) (val xs j) ≡ true) → ((j : ℕ) → j < 8 → lt (of_bits binary32 0xff800000) (val (map neg xs) j) ≡ true)
    → any_bad xs ≡ false
unfolding neg
row_finite xs long h g =
    list_any_none bad xs
    (All-from_get_or (λ x. bad x ≡ false) xs nan
    (λ j l.
    let low : j < 8 = omega arith in
    let opposite : val (map neg xs) j ≡ neg (val xs j) = get_or-map neg xs j nan nan l in
    finite_is (val xs j) (h j low) (rw opposite at (g j low))))

or_true : (a : Bool) → (a || true) ≡ true
or_true true = refl
or_true false = refl

-- the first rows of eight, and one more
rows_more : (xs : List Float) (k : ℕ) → any_bad (take (k * 8 + 8) xs) ≡ (any_bad (take (k * 8) xs) || any_bad (part xs (k * 8) (k * 8 + 8)))
rows_more xs k =
    let eight : k * 8 + 8 - k * 8 ≡ 8 = omega arith in
    rw (eight, take-add) (list_any-append bad (take (k * 8) xs) (take 8 (drop (k * 8) xs)))

split : (xs : List Float) (n : ℕ) → any_bad xs ≡ (any_bad (take n xs) || any_bad (drop n xs))
split xs n = ap any_bad (sym (take-append-drop n xs)) ∙ list_any-append bad (take n xs) (drop n xs)

pub none_more : (xs : List Float) (k : ℕ) → any_bad (take (k * 8) xs) ≡ false → any_bad (part xs (k * 8) (k * 8 + 8)) ≡ false → any_bad (take ((k + 1) * 8) xs) ≡ false
none_more xs k h g =
    let e : (k + 1) * 8 ≡ k * 8 + 8 = omega arith in
    ap (λ (n : ℕ). any_bad (take n xs)) e ∙ rows_more xs k ∙ rw (h, g)

pub found : (xs : List Float) (k : ℕ) → any_bad (part xs (k * 8) (k * 8 + 8)) ≡ true → true ≡ any_bad xs
found xs k g =
    let front : any_bad (take (k * 8 + 8) xs) ≡ true = rows_more xs k ∙ ap (λ (b : Bool). any_bad (take (k * 8) xs) || b) g ∙ or_true (any_bad (take (k * 8) xs)) in
    sym (split xs (k * 8 + 8) ∙ ap (λ (b : Bool). b || any_bad (drop (k * 8 + 8) xs)) front)

pub rest : (xs : List Float) (n : ℕ) → any_bad (take n xs) ≡ false → any_bad (drop n xs) ≡ any_bad xs
rest xs n h = sym (split xs n ∙ ap (λ (b : Bool). b || any_bad (drop n xs)) h)
