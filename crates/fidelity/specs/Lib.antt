-- What the contracts cite.
pub mod DctGradient
