pub mod Alike
pub mod Chains
pub mod Growing
pub mod Numbers
pub mod Rows
