-- Two texts, and what is printed for them.
use Prim.Native.Nat.{ℕ, zero, suc}
use Prim.Native.Char.{code}
use Prim.Native.String.{String, len, char_at}
use Rattle.std.specs.Prelude.{List, [], ◌∷◌, ◌++◌}

-- the bytes of a text in plain letters: n of them, from letter i on
abbrev pub bytes_from : String → ℕ → ℕ → List ℕ
bytes_from s i zero = []
bytes_from s i (suc n) = code (char_at s i) ∷ bytes_from s (suc i) n

-- all of them
abbrev pub bytes : String → List ℕ
bytes s = bytes_from s 0 (len s)

-- bytes n times, one after the other
abbrev pub times : ℕ → List ℕ → List ℕ
times zero xs = []
times (suc n) xs = xs ++ times n xs

-- a sheet of one block: its level is 1 of quantiser 8, no iterations, and a picture of two pixels
abbrev pub whole_text : List ℕ
whole_text =
    bytes "S\t8\t8\t2\t1\t1\ts\t0\t0\t0\tw0\tw0\tw0\tw0\tw0\tw0\nC\t8\t8\t1\t1" ++ (times 64 (bytes "\t8") ++ (bytes "\nB\t1" ++ (times 63 (bytes "\t0") ++ bytes "\nE\n")))

-- its number of clipped coefficients, and two grey pixels
abbrev pub whole_answer : List ℕ
whole_answer = bytes "K\t0\t0\nI\t2\t1\nR\t818181\t818181\n"

-- no line at all: the line that has no end is the first
abbrev pub empty_answer : List ℕ
empty_answer = bytes "X\t7\t1\n"
