-- What the contracts cite.
pub mod TgvRows
