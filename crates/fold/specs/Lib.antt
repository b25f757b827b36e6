-- What the contracts of every crate cite for loops and lent parts.
pub mod Fold
pub mod Part
pub mod Join
