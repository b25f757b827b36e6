-- The theorems.
pub mod PlaceLaws
pub mod SeenLaws
pub mod ThreeLaws
pub mod SeamLaws
pub mod ThreeTextLaws
pub mod SheetPlaceLaws
pub mod OutputLaws
