-- Document 01's condition of job 5, which the Rust has not: any plane value or saved coefficient is NaN or infinite.
use Rattle.std.specs.Prelude.{ℕ, Bool, true, false, ◌||◌, List, take, Float}
use Rattle.std.specs.Float.{nan, inf, fin}
use Rattle.std.specs.List.{list_any}

abbrev pub bad : Float → Bool
bad nan = true
bad (inf s) = true
bad (fin s m e) = false

abbrev pub any_bad : List Float → Bool
any_bad xs = list_any bad xs

-- the whole plane, and the n saved coefficients
unfoldable pub is_blown : ℕ → List Float → List Float → Bool
is_blown n plane saved = any_bad plane || any_bad (take n saved)
