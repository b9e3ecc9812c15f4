pub mod ByCases
pub mod Kept
pub mod Regions
pub mod RuleLaws
pub mod Same
pub mod SavedLaws
