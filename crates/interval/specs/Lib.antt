-- What the contracts cite.
pub mod Interval
