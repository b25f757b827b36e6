-- A sheet's record as numbers: lent out by reading, given back to the whole run and the picture.
pub mod Sheets
pub mod Whole
pub mod Stitches
