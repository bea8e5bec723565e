pub mod Asked
mod Delivers
pub mod Events
mod Exits
mod Going
mod Held
pub mod LinearReads
mod Loops
mod Rows
mod Runs
mod Shows
