-- What the state of reading cites.
pub mod StateLaws
