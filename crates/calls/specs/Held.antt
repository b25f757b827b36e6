-- Document 02, M-108: what holding a channel does to its buffers and its kept number, of any jobs.
use Rattle.std.specs.Prelude.{ℕ, zero, suc, ◌*◌, ◌/◌, ◌%◌, ◌≤◌, ◌<◌, ◌≡◌}
use Rattle.start.specs.Buffers.{Buffers}
use Rattle.calls.specs.Run.{Given, own, count}
use Rattle.calls.specs.Jobs.{Jobs, next, fixed, kept}

-- channel c's buffers and its kept number for the count p are those for q
abbrev pub SameAt : Jobs → Given → ℕ → ℕ → ℕ → Type 0
SameAt J G c p q = (fixed J G p c ≡ fixed J G q c) × (kept J G p c ≡ kept J G q c)

-- a held channel's six buffers after any later job are those of its held step, and so is its kept number
abbrev pub StaysHeld : Jobs → Type 0
StaysHeld J = (G : Given) (c p : ℕ) → c < count G → 5 * (own G.sheet c).held ≤ p → SameAt J G c p (5 * (own G.sheet c).held)

-- "A held count of 0 leaves the channel at its start."
abbrev pub AtItsStart : Jobs → Type 0
AtItsStart J = (G : Given) (c p : ℕ) → c < count G → (own G.sheet c).held ≡ 0 → (fixed J G p c ≡ J.start G c) × (kept J G p c ≡ 0)

-- document 01's recursion, in which nothing is held
unfoldable pub unheld : Jobs → Given → ℕ → ℕ → Buffers
unheld J G zero c = J.start G c
unheld J G (suc p) c = next J G (p % 5) (p / 5) (unheld J G p) c

-- where each channel's count equals the iterations, as without a line `H`, the recursion is document 01's
abbrev pub NoneHeld : Jobs → Type 0
NoneHeld J = (G : Given) → ((c : ℕ) → c < count G → (own G.sheet c).held ≡ G.sheet.N) → (c p : ℕ) → c < count G → p ≤ 5 * G.sheet.N
    → fixed J G p c ≡ unheld J G p c
