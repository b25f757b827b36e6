-- Laws of the definitions.
pub mod Lists
pub mod Tests
pub mod Fill
