-- A small sheet, and the calls of its plain run.
pub mod Sheet
-- What the laws say of such solvers.
pub mod Wrong
