-- The tables' rules, and the laws of places that they give.
pub mod Table
pub mod Places
pub mod Walk
pub mod Examples
pub mod Each
