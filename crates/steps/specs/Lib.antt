-- What the contracts cite: `solve` of scalar/mod.rs, and `solver_step` of step.rs.
pub mod Solve
pub mod Step
