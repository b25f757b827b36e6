-- What the contracts of the two gradients and of blend cite.
pub mod Grid
pub mod Held
pub mod Tv
pub mod Tgv
pub mod Blend
pub mod Apart
