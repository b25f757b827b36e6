-- Which runs are mild, and what is claimed of them.
pub mod Mild
pub mod Checked
