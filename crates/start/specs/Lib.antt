-- What the contracts cite: a channel and its buffers, and how they start.
pub mod Buffers
pub mod Coef
pub mod AsCoef
pub mod Auxiliary
