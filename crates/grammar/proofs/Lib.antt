-- Laws of what a text means.
pub mod SettingLaws
pub mod BlockLaws
pub mod LegalLaws
pub mod RowLaws
pub mod RoundTrip
pub mod PrefixLaws
pub mod BoundLaws
pub mod CanonicalLaws
pub mod PageLaws
pub mod Examples
pub mod MarkLaws
pub mod PartnerLaws
