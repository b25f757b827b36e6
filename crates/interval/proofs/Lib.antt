-- Laws of intervals.
pub mod Ends
pub mod Clamp
pub mod Examples
pub mod HalfSum
