pub mod Code
pub mod Holding
pub mod Journal
pub mod Lending
pub mod SessionTable
pub mod Touching
