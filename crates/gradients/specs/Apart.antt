-- Document 02, M-108: "blend neither reads nor writes that channel's buffers", said of all buffers. Channel c's values start at c * area.
use Rattle.std.specs.Prelude.{◌≡◌, Bool, true, false, List, ℕ, ◌+◌, ◌*◌, ◌<◌, length, Float}
use Rattle.float.specs.Names.{val}
use Rattle.gradients.specs.Tv.{Terms}
use Rattle.gradients.specs.Blend.{blended, totals}

-- equal at each place of the channels whose flag is b
abbrev pub EqualAt : ℕ → (ℕ → Bool) → Bool → List Float → List Float → Type 0
EqualAt area held b xs ys = (c o : ℕ) → o < area → held c ≡ b → val xs (c * area + o) ≡ val ys (c * area + o)

-- of one length, and equal in each channel that is not held; in those that are held they may differ
pub record Alike (area : ℕ) (held : ℕ → Bool) (xs ys : List Float) : Type 0 where
  pub long : length xs ≡ length ys
  pub same : EqualAt area held false xs ys

-- each of the three that blend writes
pub record AllAlike (area : ℕ) (held : ℕ → Bool) (a b : Terms) : Type 0 where
  pub in_gradient : Alike area held a.gradient b.gradient
  pub in_across : Alike area held a.across b.across
  pub in_down : Alike area held a.down b.down

-- Blend writes nothing of a held channel.
pub record NotWritten (W H n : ℕ) (held : ℕ → Bool) (second : Float) (plane : List Float) (b : Terms) : Type 0 where
  pub gradient_left : EqualAt (W * H) held true (blended W H n held second plane b).gradient b.gradient
  pub across_left : EqualAt (W * H) held true (blended W H n held second plane b).across b.across
  pub down_left : EqualAt (W * H) held true (blended W H n held second plane b).down b.down

-- And what it writes and returns does not depend on a held channel's values, in any of the four buffers.
pub record NotRead (W H n : ℕ) (held : ℕ → Bool) (second : Float) (p q : List Float) (a b : Terms) : Type 0 where
  pub same_writes : AllAlike (W * H) held (blended W H n held second p a) (blended W H n held second q b)
  pub same_totals : totals W H n held second p a ≡ totals W H n held second q b
