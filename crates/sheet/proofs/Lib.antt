-- Laws of the definitions.
pub mod WalkLaws
pub mod ReadLaws
