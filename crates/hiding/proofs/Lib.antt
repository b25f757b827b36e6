-- What hiding levels cites.
pub mod HideLaws
