-- What the contracts of the calls on lent slices cite.
pub mod Tests
pub mod Answers
pub mod Lists
