-- What the rules and records of a line cite.
pub mod LineLaws
pub mod GoodLines
