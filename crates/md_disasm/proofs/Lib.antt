pub mod Lengths68
pub mod Lengths80
pub mod Lists68
pub mod Reports
