-- "House text: lines ended by byte 10, fields parted by one tab": a text is cut at each byte 10 into lines, a line at each
-- byte 9 into fields. There is always a last piece, which no such byte ends: an unended line, or the nothing after the last
-- line's end. So an empty line has one field, the empty one, and no byte but these two has a meaning of its own.
use Rattle.std.specs.Prelude.{ℕ, List, [], ◌∷◌, cond, eqb}

-- the byte x in front of the first piece
abbrev pub onto : ℕ → List (List ℕ) → List (List ℕ)
onto x [] = (x ∷ []) ∷ []
onto x (p ∷ ps) = (x ∷ p) ∷ ps

-- the pieces of a text that is cut at each byte b
abbrev pub split : ℕ → List ℕ → List (List ℕ)
split b [] = [] ∷ []
split b (x ∷ l) = cond (eqb x b) ([] ∷ split b l) (onto x (split b l))

-- the first of them
abbrev pub before : ℕ → List ℕ → List ℕ
before b [] = []
before b (x ∷ l) = cond (eqb x b) [] (x ∷ before b l)
