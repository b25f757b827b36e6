-- Laws of the definitions.
pub mod ThreeLaws
pub mod ValueLaws
pub mod HoldLaws
