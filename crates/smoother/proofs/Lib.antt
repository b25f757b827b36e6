-- What the proofs of the exported calls share.
pub mod InNumbers
pub mod NeverBlows
pub mod OneByOne
pub mod MildSolve
