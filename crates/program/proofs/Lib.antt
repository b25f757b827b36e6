-- A sheet that is read is solved; a refusal has a small line number; what the calls promise, as the text printed; what two callers see; ranges whose ends are equal; worked examples.
pub mod Accepts
pub mod Totals
pub mod Clipped
pub mod Sizes
pub mod Printing
pub mod Callers
pub mod Equal
pub mod Partner
pub mod Examples
