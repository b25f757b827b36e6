-- Lemmas that the proofs of several functions use. `Near` is what `guess_law` states. What of the others is about a half sum (`half_exact`, `midpoint_wide`, `narrowed_half` of Widen,
-- `both_zero` of Zero) no function cites, since the midpoint is std's: with these a midpoint by way of f64 was proved.
pub mod Twice
pub mod Narrowing
pub mod Clearly
pub mod Tidied
pub mod Widen
pub mod Near
pub mod Zero
pub mod One
