-- The jobs of the solver.
pub mod Solver
