-- How weights and levels are written: the one spelling of each.
use Rattle.std.specs.Prelude.{ℕ, suc, List, ◌∷◌, ℤ, pos, negsuc}
use Rattle.contents.specs.declared.Weight.{Weight}
use Rattle.contents.specs.declared.Weight.TheVariants as weight
use Rattle.digits.specs.Written.{decimal, hex_of}

unfoldable pub weight_text : Weight → List ℕ
unfolding decimal
weight_text (weight.Bits n) = 104 ∷ hex_of 8 n
weight_text (weight.Whole n) = 119 ∷ decimal n

unfoldable pub level_text : ℤ → List ℕ
unfolding decimal
level_text (pos n) = decimal n
level_text (negsuc n) = 45 ∷ decimal (suc n)
