-- Laws of the whole run.
pub mod Held
pub mod Alone
pub mod Laws
