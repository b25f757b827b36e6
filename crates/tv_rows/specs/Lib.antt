-- What the contracts cite.
pub mod TvRows
