-- Which sheets are mild, and what is claimed of them.
pub mod Sheet
pub mod Calls
