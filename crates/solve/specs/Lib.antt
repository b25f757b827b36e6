-- The whole run of a sheet, in both modes.
pub mod Solve
pub mod Separate
pub mod Laws
