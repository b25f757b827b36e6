-- Parts of a text, by how many tabs or line ends they have, and what copying them promises.
use Rattle.std.specs.Prelude.{ℕ, zero, suc, ◌+◌, ◌-◌, ◌≡◌, List, [], ◌∷◌, ◌++◌, cond, eqb, length}
use Rattle.std.proofs.lemmas.List.Edits.{sets}
use Rattle.digits.specs.Written.{decimal}
use Rattle.copying.specs.declared.Writer.{Writer}

-- the bytes up to the n-th byte b, with that byte, and what follows them
abbrev pub up_to : ℕ → ℕ → List ℕ → List ℕ
up_to b n [] = []
up_to b n (x ∷ xs) = cond (eqb n 0) [] (x ∷ up_to b (cond (eqb x b) (n - 1) n) xs)

abbrev pub past : ℕ → ℕ → List ℕ → List ℕ
past b n [] = []
past b n (x ∷ xs) = cond (eqb n 0) (x ∷ xs) (past b (cond (eqb x b) (n - 1) n) xs)

-- how many bytes b there are
abbrev pub count_of : ℕ → List ℕ → ℕ
count_of b [] = 0
count_of b (x ∷ xs) = cond (eqb x b) 1 0 + count_of b xs

-- a field copied, and the number n in the place of the next
unfoldable pub refitted : ℕ → List ℕ → List ℕ
unfolding decimal
refitted n xs = up_to 9 1 xs ++ (decimal n ++ 9 ∷ [])

-- what follows two fields
abbrev pub after_two : List ℕ → List ℕ
after_two xs = past 9 1 (past 9 1 xs)

-- n rows of lines, each a lines of the one text and then b lines of the other
abbrev pub rows_of : ℕ → ℕ → ℕ → List ℕ → List ℕ → List ℕ
rows_of zero a b xs ys = []
rows_of (suc n) a b xs ys = up_to 10 a xs ++ (up_to 10 b ys ++ rows_of n a b (past 10 a xs) (past 10 b ys))

-- what follows n rows of a lines
abbrev pub past_rows : ℕ → ℕ → List ℕ → List ℕ
past_rows zero a xs = xs
past_rows (suc n) a xs = past_rows n a (past 10 a xs)

-- a channel: its line with the width w, and n rows of its blocks' lines
abbrev pub channel_text : ℕ → ℕ → ℕ → ℕ → List ℕ → List ℕ → List ℕ
channel_text w n a b xs ys = refitted w xs ++ (up_to 10 1 (after_two xs) ++ rows_of n a b (past 10 1 (after_two xs)) (past 10 1 ys))

-- what follows it in each text
abbrev pub channel_left : ℕ → ℕ → List ℕ → List ℕ
channel_left n a xs = past_rows n a (past 10 1 (after_two xs))

abbrev pub channel_right : ℕ → ℕ → List ℕ → List ℕ
channel_right n b ys = past_rows n b (past 10 1 ys)

-- The bytes were written from `at` on into the same output, as far as there is room
pub record Put (before : Writer) (bytes : List ℕ) (after : Writer) : Type 0 where
  pub next : after.at ≡ before.at + length bytes
  pub last : after.out.now ≡ sets before.out.now before.at bytes
  pub same : after.out.ghost_name ≡ before.out.ghost_name
