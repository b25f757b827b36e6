-- Two sheets stitched in time. Document 02, M-107.
pub mod Stitched
pub mod Calls
pub mod Bytes
pub mod Judging
pub mod Numbers
