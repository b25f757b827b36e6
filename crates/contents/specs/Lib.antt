-- What a sheet holds, and when it is legal. Document 01, "Sheet records".
pub mod Three
pub mod Weights
pub mod Letters
pub mod Sheets
pub mod Hold
pub mod Marks
pub mod Legal
