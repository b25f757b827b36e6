-- When two sheets fit together. Document 02, M-107.
pub mod Seam
pub mod Used
