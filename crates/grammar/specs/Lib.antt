-- How a sheet is written, which texts are accepted, and how many bytes decide any text.
pub mod Written
pub mod Longest
pub mod Accepts
pub mod Page
pub mod Equal
pub mod Partner
