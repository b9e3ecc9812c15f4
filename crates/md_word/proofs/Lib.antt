pub mod Agree
pub mod Answered
pub mod Below
pub mod Choices
pub mod Gaps
pub mod Regions
pub mod Tables
