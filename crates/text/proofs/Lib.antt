-- Laws of the definitions.
pub mod PieceLaws
pub mod NumberLaws
pub mod WeightLaws
pub mod LevelLaws
pub mod FieldLaws
pub mod GoodLaws
pub mod DecimalLaws
pub mod JoinLaws
pub mod SpellingLaws
pub mod SizeLaws
