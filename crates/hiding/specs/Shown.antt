-- What a reader gets of the levels, by the map of all blocks: true where a block is marked, false elsewhere.
use Rattle.std.specs.Prelude.{ℕ, suc, ◌/◌, ◌%◌, List, [], ◌∷◌, Bool, false, not, cond, ◌&&◌, eqb, ℤ, pos, get_or}
use Rattle.contents.specs.declared.Reader.{Reader}
use Rattle.contents.specs.declared.Reader.TheVariants as reader

-- what a partner gets of the levels from place i on, by the map
abbrev pub hidden_by : List Bool → ℕ → Bool
hidden_by bits i = get_or bits (i / 64) false && not (eqb (i % 64) 0)

abbrev pub shown_by : List Bool → ℕ → List ℤ → List ℤ
shown_by bits i [] = []
shown_by bits i (z ∷ zs) = cond (hidden_by bits i) (pos 0) z ∷ shown_by bits (suc i) zs

abbrev pub shown_to : Reader → List Bool → List ℤ → List ℤ
shown_to reader.Staff bits zs = zs
shown_to reader.Partner bits zs = shown_by bits 0 zs
