-- What the contracts of the public calls say.
pub mod Public
