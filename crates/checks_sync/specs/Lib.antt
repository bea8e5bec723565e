pub mod Noops
