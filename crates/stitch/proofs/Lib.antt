-- What the proofs of the functions share, and the theorems.
pub mod LineLaws
pub mod WeaveLaws
pub mod BlockLaws
pub mod MarkTextLaws
pub mod TextLaws
pub mod MarkLaws
pub mod LegalLaws
pub mod WriteLaws
pub mod CallLaws
