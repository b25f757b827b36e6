-- The six lent buffers, which hold the channels' one after the other, and a channel's part of each (document 01, "Modules towards the jobs").
use Rattle.std.specs.Prelude.{ℕ, zero, suc, ◌+◌, ◌*◌, ◌≡◌, List, [], ◌++◌, length, Float}
use Rattle.fold.specs.Part.{part, splice}
use Rattle.start.specs.Buffers.{Buffers}

-- the buffers' names, to say a thing of each of the six once
pub data Name : Type 0 where
  Plane Prior Gradient Across Down Saved : Name

abbrev pub get : Name → Buffers → List Float
get Plane B = B.plane
get Prior B = B.prior
get Gradient B = B.gradient
get Across B = B.across
get Down B = B.down
get Saved B = B.saved

abbrev pub make : (Name → List Float) → Buffers
make f = record { plane = f Plane; prior = f Prior; gradient = f Gradient; across = f Across; down = f Down; saved = f Saved }

-- ---- one list: channel c's n values; the list with ys in their place; k channels' lists, one after the other

abbrev pub part_of : ℕ → ℕ → List Float → List Float
part_of n c xs = part xs (c * n) (c * n + n)

abbrev pub put_part : ℕ → ℕ → List Float → List Float → List Float
put_part n c xs ys = splice xs (c * n) (c * n + n) ys

abbrev pub join : ℕ → (ℕ → List Float) → List Float
join zero f = []
join (suc k) f = join k f ++ f k

-- ---- the same of all six

unfoldable pub channel : ℕ → ℕ → Buffers → Buffers
channel n c B = make (λ b. part_of n c (get b B))

unfoldable pub put_channel : ℕ → ℕ → Buffers → Buffers → Buffers
put_channel n c B x = make (λ b. put_part n c (get b B) (get b x))

unfoldable pub joined : ℕ → (ℕ → Buffers) → Buffers
joined k f = make (λ b. join k (λ c. get b (f c)))

-- each of the six has n values
abbrev pub Sized : ℕ → Buffers → Type 0
Sized n B = (b : Name) → length (get b B) ≡ n
