-- A mild sheet is never blown.
pub mod Unblown
pub mod Served
pub mod Text
