-- What the contracts cite besides the definitions of the crates below.
pub mod Jobs
