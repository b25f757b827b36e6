-- What any answer of the program looks like.
pub mod Answer
