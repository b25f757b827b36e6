-- Fields and lines as they are written; the refusals of a text; what is printed is an answer; no text is both kinds of answer.
pub mod Fields
pub mod Refusals
pub mod Answers
pub mod Apart
