-- What the exported calls on a sheet's numbers cite.
pub mod SheetLaws
pub mod WholeLaws
pub mod RoundTrip
