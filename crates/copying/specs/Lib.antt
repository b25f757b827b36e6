-- Parts of texts, and what copying them promises.
pub mod Parts
