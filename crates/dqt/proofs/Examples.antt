-- Worked examples of import, computed: which fault comes first, and where a byte goes.
use mathlib.Core.Path.{◌≡◌, refl}
use mathlib.Core.List.{List, [], ◌∷◌, ◌++◌}
use Prim.Native.Nat.{ℕ, suc}
use lib.ListN.{replicate}
use Rattle.fold.specs.Fold.{upto}
use Rattle.answers.specs.Lists.{listed}
use Rattle.zigzag.specs.Zigzag.{figure, to_zigzag}
use Rattle.dqt.specs.Dqt.{val, framed, fault, importing}

-- a segment that states its length in the two bytes given
unfoldable pub segment : ℕ → ℕ → List ℕ → List ℕ
segment high low body = 0xFF ∷ 0xDB ∷ high ∷ low ∷ body

-- a table: head byte, then 64 bytes
unfoldable pub ones : ℕ → List ℕ
unfolding listed
ones head = head ∷ listed (λ k. 1) 64

unfoldable pub counted : ℕ → List ℕ
unfolding listed
counted head = head ∷ listed (λ k. suc k) 64

unfoldable pub old : List ℕ
unfolding listed
old = listed (λ k. 9) 256

-- byte 2 of a table for destination 2 is its quantiser at row 1, column 0; destination 1 keeps its own
pub placed : val (importing (segment 0 67 (counted 2)) old).written 136 ≡ 3
unfolding importing framed fault upto listed segment counted old to_zigzag figure
placed = refl

pub others_kept : val (importing (segment 0 67 (counted 2)) old).written 127 ≡ 9
unfolding importing framed fault upto listed segment counted old to_zigzag figure
others_kept = refl

-- one byte after a table: a precision of 1 is 20 before the missing bytes are 19
pub cut_precision : (importing (segment 0 68 (ones 0 ++ (0x10 ∷ []))) old).number ≡ 20
unfolding importing framed fault upto listed segment ones old to_zigzag figure
cut_precision = refl

pub cut : (importing (segment 0 68 (ones 0 ++ (0x00 ∷ []))) old).number ≡ 19
unfolding importing framed fault upto listed segment ones old to_zigzag figure
cut = refl

-- in one table a precision of 1 is 20 before a zero is 4
pub precision_first : (importing (segment 0 67 (0x10 ∷ replicate 64 0)) old).number ≡ 20
unfolding importing framed fault upto listed segment old to_zigzag figure
precision_first = refl

-- a zero in the first table comes before the second one's destination
pub zero_first : (importing (segment 0 132 ((0 ∷ replicate 64 0) ++ ones 4)) old).number ≡ 4
unfolding importing framed fault upto listed segment ones old to_zigzag figure
zero_first = refl

-- the stated length counts itself and not the marker; a fill byte is no marker; lengths come first
pub stated_too_long : (importing (segment 0 69 (ones 0)) old).number ≡ 19
unfolding importing framed fault upto listed segment ones old to_zigzag figure
stated_too_long = refl

pub fill_byte : (importing (0xFF ∷ segment 0 67 (ones 0)) old).number ≡ 19
unfolding importing framed fault upto listed segment ones old to_zigzag figure
fill_byte = refl

pub length_first : (importing [] []).number ≡ 8
unfolding importing framed fault upto listed
length_first = refl
