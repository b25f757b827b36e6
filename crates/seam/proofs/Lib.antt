-- What the comparisons cite.
pub mod HoldsLaws
