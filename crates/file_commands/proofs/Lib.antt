pub mod AssemblyCompletions
pub mod ConversionCompletions
pub mod Files
