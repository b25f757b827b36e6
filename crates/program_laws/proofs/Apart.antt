-- No text is both a picture and a refusal: a refusal begins with the letter `X`, a picture does not.
use Rattle.std.proofs.Common.{ℕ, zero, suc, ◌≡◌, ◌<◌, List, [], ◌∷◌, ◌++◌, get_or, refl, sym, ap, ◌∙◌, arith}
use Rattle.fold.specs.Fold.{upto}
use Rattle.fold.specs.Join.{join_upto}
use Rattle.digits.specs.Written.{joined}
use Rattle.program_laws.specs.Answer.{Kind, IsLine, IsParts, IsPicture, IsRefusal}

-- it does not begin with `X`
abbrev Apart : List ℕ → Type 0
Apart text = (rest : List ℕ) → text ≡ 88 ∷ rest → ⊥

nothing : Apart []
nothing rest e = cc

together : (xs ys : List ℕ) → Apart xs → Apart ys → Apart (xs ++ ys)
together [] ys p q = q
together (x ∷ xs) ys p q =
    λ rest e. p xs (ap (λ (n : ℕ). n ∷ xs) (ap (λ (l : List ℕ). get_or l 0 0) e))

first_byte : (letter : ℕ) (fields : List (List ℕ)) → get_or (joined ((letter ∷ []) ∷ fields) ++ 10 ∷ []) 0 0 ≡ letter
first_byte letter [] = refl
first_byte letter (f ∷ fields) = refl

line_apart : (letter : ℕ) (kinds : List Kind) (text : List ℕ) → (letter ≡ 88 → ⊥) → IsLine letter kinds text → Apart text
line_apart letter kinds text other l rest e =
    other (sym (first_byte letter l.fields) ∙ ap (λ (t : List ℕ). get_or t 0 0) (sym l.bytes ∙ e))

join_apart : (part : ℕ → List ℕ) (n : ℕ) → ((k : ℕ) → k < n → Apart (part k)) → Apart (join_upto part n)
unfolding upto
join_apart part zero h = nothing
join_apart part (suc n) h = together (join_upto part n) (part n) (join_apart part n (λ k less. h k (omega arith))) (h n (omega arith))

along : (xs ys : List ℕ) → xs ≡ ys → Apart ys → Apart xs
along xs ys e p = λ rest f. p rest (sym e ∙ f)

parts_apart : (IsPart : ℕ → List ℕ → Type 0) (n : ℕ) (text : List ℕ) → ((k : ℕ) (t : List ℕ) → IsPart k t → Apart t) → IsParts IsPart n text → Apart text
parts_apart IsPart n text h p = along text (join_upto p.part n) p.bytes (join_apart p.part n (λ k less. h k (p.part k) (p.each k less)))

picture_apart : (text : List ℕ) → IsPicture text → Apart text
picture_apart text p =
    along text (p.totals ++ (p.numbers ++ (p.sides ++ p.rows))) p.bytes
    (together p.totals (p.numbers ++ (p.sides ++ p.rows))
    (parts_apart _ p.channels p.totals (λ c t run. parts_apart _ (p.steps c) t (λ k u l. line_apart 84 _ u (λ e. omega arith) l) run) p.totals_lines)
    (together p.numbers (p.sides ++ p.rows)
    (parts_apart _ p.channels p.numbers (λ c t l. line_apart 75 _ t (λ e. omega arith) l) p.numbers_lines)
    (together p.sides p.rows (line_apart 73 _ p.sides (λ e. omega arith) p.sides_line)
    (parts_apart _ p.height p.rows (λ y t l. line_apart 82 _ t (λ e. omega arith) l) p.rows_lines))))

after_letter : (letter : ℕ) (fields : List (List ℕ)) → (rest : List ℕ) × (joined ((letter ∷ []) ∷ fields) ++ 10 ∷ [] ≡ letter ∷ rest)
after_letter letter [] = (10 ∷ [], refl)
after_letter letter (f ∷ fields) = (9 ∷ (joined (f ∷ fields) ++ 10 ∷ []), refl)

pub never_both : (text : List ℕ) → IsPicture text → IsRefusal text → ⊥
never_both text p r =
    let begins = after_letter 88 r.bytes.fields in
    picture_apart text p begins.0 (r.bytes.bytes ∙ begins.1)
