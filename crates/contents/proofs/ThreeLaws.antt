-- Three values by place.
use Prim.Native.Nat.{ℕ}
use mathlib.Core.Path.{◌≡◌, refl}
use mathlib.Core.List.{List, [], ◌∷◌}
use mathlib.Core.Bool.{Bool, true, false, cond}
use native.Mathlib.Omega.{arith}
use lib.ListN.{length}
use lib.Dec.{eqb}
use Rattle.contents.specs.declared.Sheet.{Sheet}
use Rattle.contents.specs.Three.{of_three, three_at}
use Rattle.contents.specs.Sheets.{no_channel, channel_at}

-- what holds of each of three values holds of the one at any place
pub each_of : {A : Type 0} (P : A → Type 0) (x y z : A) → P x → P y → P z → (c : ℕ) → P (of_three c x y z)
each_of P x y z a b d c = by (eqb c 0) (eqb c 1)
  where
    by : (s t : Bool) → P (cond s x (cond t y z))
    by true t = a
    by false true = b
    by false false = d

-- a list of three is its three values
pub three_of : {A : Type 0} (none : A) (l : List A) → length l ≡ 3 → three_at none 0 l ∷ three_at none 1 l ∷ three_at none 2 l ∷ [] ≡ l
three_of none (x ∷ (y ∷ (z ∷ []))) e = refl
three_of none [] e = absurd (omega arith)
three_of none (x ∷ []) e = absurd (omega arith)
three_of none (x ∷ (y ∷ [])) e = absurd (omega arith)
three_of none (x ∷ (y ∷ (z ∷ (v ∷ r)))) e = absurd (omega arith)

-- a sheet with its three channels written out
abbrev pub spelled : Sheet → Sheet
spelled s = record { header = s.header; settings = s.settings; channels = channel_at s 0 ∷ channel_at s 1 ∷ channel_at s 2 ∷ [] }

pub spelled_is : (s : Sheet) → length s.channels ≡ 3 → spelled s ≡ s
spelled_is s e = λ i. record { header = s.header; settings = s.settings; channels = three_of no_channel s.channels e i }
