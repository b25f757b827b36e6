-- Document 02, M-108: "blend neither reads nor writes that channel's buffers".
use Rattle.std.specs.Prelude.{Bool, false, cond, List, ℕ, get_or}

-- a turn of a loop over the channels, which leaves out those that are held; where none is, it is the turn itself
module _ {ℓ} {A : Type ℓ} where
  abbrev pub live : (ℕ → Bool) → (ℕ → A → A) → ℕ → A → A
  live held f c a = cond (held c) a (f c a)

-- the flags of a run's channels
abbrev pub flag : List Bool → ℕ → Bool
flag held c = get_or held c false
