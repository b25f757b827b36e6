-- What the output of stitching holds. Document 02, M-107.
pub mod Output
