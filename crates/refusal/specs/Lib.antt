-- What the contracts of calls that refuse cite.
pub mod Refusal
