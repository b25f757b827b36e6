-- After how many steps a channel is held (document 02, M-108).
use Rattle.std.specs.Prelude.{ℕ, ◌≤◌, ◌≡◌, List, length, get_or, cond, ◌&&◌, eqb, Option, Some, None}
use Rattle.contents.specs.declared.Header.{Header}
use Rattle.contents.specs.declared.Sheet.{Sheet}
use Rattle.contents.specs.Three.{three_at}

-- the iteration count at a channel's place
abbrev pub iterations_at : Header → ℕ → ℕ
iterations_at h c = three_at 0 c h.iterations

-- "the iteration count it is measured against: the one at its place, or with three channels in joint mode the first"
unfoldable pub measured : Header → ℕ → ℕ
measured h c = cond (eqb h.channels 3 && h.joint) (iterations_at h 0) (iterations_at h c)

-- "A line `H` with three step counts ..; absent, each equals the iteration count it is measured against"
abbrev pub count_at : Option (List ℕ) → Header → ℕ → ℕ
count_at None h c = measured h c
count_at (Some l) h c = three_at 0 c l

-- after how many steps channel c of a sheet is held
unfoldable pub hold_at : Sheet → ℕ → ℕ
hold_at s c = count_at s.settings.hold s.header c

-- "17 "hold", a count above the iterations": each count of the line, those of spare channels too
abbrev pub LegalHold : Header → Option (List ℕ) → Type 0
LegalHold h None = Unit {0}
LegalHold h (Some l) = (length l ≡ 3) × (get_or l 0 0 ≤ measured h 0) × (get_or l 1 0 ≤ measured h 1) × (get_or l 2 0 ≤ measured h 2)
