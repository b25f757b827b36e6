-- M-113: tables from a DQT marker segment of T.81 B.2.4.1, and as one. The segment is FF DB, the length Lq in two bytes, and for each
-- table a byte with Pq and Tq in its halves and then Q0 to Q63, in zigzag order. Here the four tables stand one after the other by
-- destination, 64 quantisers each, row by row.
use Rattle.std.specs.Prelude.{◌≡◌, ◌≢◌, ◌<◌, Bool, cond, not, ◌&&◌, List, [], ◌∷◌, ℕ, ◌+◌, ◌-◌, ◌*◌, ◌/◌, ◌%◌, leb, ltb, eqb, length, get_or}
use Rattle.fold.specs.Fold.{upto}
use Rattle.fold.specs.Part.{part, splice}
use Rattle.answers.specs.Tests.{first, test, all, table_ok}
use Rattle.answers.specs.Answers.{Filled, filled, fill}
use Rattle.answers.specs.Lists.{listed}
use Rattle.zigzag.specs.Zigzag.{to_raster, to_zigzag}

abbrev pub val : List ℕ → ℕ → ℕ
val xs k = get_or xs k 0

-- the table of destination d
abbrev pub table_of : List ℕ → ℕ → List ℕ
table_of tables d = part tables (d * 64) (d * 64 + 64)

-- ---- import

-- "marker wrong, stated length unequal to the bytes after the marker or below 67"
abbrev pub lq : List ℕ → ℕ
lq s = val s 2 * 256 + val s 3

unfoldable pub framed : List ℕ → Bool
framed s = eqb (val s 0) 0xFF && eqb (val s 1) 0xDB && (eqb (lq s) (length s - 2) && leb 67 (lq s))

-- where table t starts, and how many tables are started: the last may be cut short
abbrev pub start : ℕ → ℕ
start t = 4 + t * 65

abbrev pub started : List ℕ → ℕ
started s = (length s - 4 + 64) / 65

-- "a precision other than 0 or a destination above 3"
abbrev pub head_ok : ℕ → Bool
head_ok b = eqb (b / 16) 0 && leb (b % 16) 3

abbrev pub non_zero : ℕ → Bool
non_zero q = not (eqb q 0)

-- Q0 to Q63 of the table that starts at place a
abbrev pub elements : List ℕ → ℕ → List ℕ
elements s a = part s (a + 1) (a + 65)

-- a table's faults: 20, then 19 for "fewer than 64 bytes left", then 4 for "a zero quantiser"
unfoldable pub fault : List ℕ → ℕ → ℕ
fault s a = first (test 20 (not (head_ok (val s a))) ∷ test 19 (not (leb (a + 65) (length s))) ∷ test 4 (not (all non_zero (elements s a))) ∷ [])

-- the first fault, "table by table"
abbrev pub faults : List ℕ → ℕ
faults s = first (listed (λ t. fault s (start t)) (started s))

-- the zigzag undone: place p, row by row, has the byte at its place of the sequence
abbrev pub unzigzagged : List ℕ → List ℕ
unzigzagged bytes = listed (λ p. val bytes (to_zigzag p)) 64

-- the table that starts at a, stored at its destination
abbrev pub stored : List ℕ → ℕ → List ℕ → List ℕ
stored s a tables = splice tables (val s a * 64) (val s a * 64 + 64) (unzigzagged (elements s a))

-- table after table, so that "a later table for a destination replaces an earlier one", and another destination "keeps its table"
abbrev pub imported : List ℕ → List ℕ → List ℕ
imported s tables = upto (λ t. stored s (start t)) (started s) tables

-- the call: "lent lengths come first (8)", "marker and length are checked first, then table by table"
abbrev pub import_refusal : List ℕ → List ℕ → ℕ
import_refusal s tables = first (test 8 (not (eqb (length tables) 256)) ∷ test 19 (not (framed s)) ∷ faults s ∷ [])

unfoldable pub importing : List ℕ → List ℕ → Filled ℕ
unfolding framed fault upto listed to_zigzag
importing s tables = fill (import_refusal s tables) (imported s tables) tables

-- ---- what an import leaves

-- table t is the last of the segment that names destination d
pub record IsLastFor (s : List ℕ) (d t : ℕ) : Type 0 where
  pub among : t < started s
  pub names : val s (start t) ≡ d
  pub last : (u : ℕ) → t < u → u < started s → val s (start u) ≢ d

-- each destination that is named has the last table for it, row by row
abbrev pub LastStored : List ℕ → List ℕ → Type 0
LastStored s new = (d t : ℕ) → d < 4 → IsLastFor s d t → table_of new d ≡ unzigzagged (elements s (start t))

-- a destination that no table names has what it had
abbrev pub UnnamedKept : List ℕ → List ℕ → List ℕ → Type 0
UnnamedKept s old new = (d : ℕ) → d < 4 → ((t : ℕ) → t < started s → val s (start t) ≢ d) → table_of new d ≡ table_of old d

-- ---- export

-- byte j of destination d's 65: its head, precision 0 and d, then its quantisers in zigzag order
abbrev pub table_byte : List ℕ → ℕ → ℕ → ℕ
table_byte tables d j = cond (eqb j 0) d (val tables (d * 64 + to_raster (j - 1)))

-- byte i of "one segment of 264 bytes, destinations rising": Lq is 262
unfoldable pub exported_at : List ℕ → ℕ → ℕ
exported_at tables i =
    cond (ltb i 4) (val (0xFF ∷ 0xDB ∷ 0x01 ∷ 0x06 ∷ []) i) (table_byte tables ((i - 4) / 65) ((i - 4) % 65))

abbrev pub exported : List ℕ → List ℕ
exported tables = listed (exported_at tables) 264

-- the call: lent lengths, then "a quantiser outside 1 to 255 (4)"
abbrev pub export_refusal : List ℕ → List ℕ → ℕ
export_refusal tables out = first (test 8 (not (eqb (length tables) 256 && eqb (length out) 264)) ∷ test 4 (not (all table_ok tables)) ∷ [])

unfoldable pub exporting : List ℕ → List ℕ → Filled ℕ
unfolding exported_at listed
exporting tables out = fill (export_refusal tables out) (exported tables) out

-- the segment is accepted by an import, which leaves these tables whatever stood there
abbrev pub ImportedAs : List ℕ → List ℕ → Type 0
ImportedAs segment tables = (old : List ℕ) → length old ≡ 256 → importing segment old ≡ filled 0 tables
