-- What the contracts cite.
pub mod Projection
pub mod Blown
