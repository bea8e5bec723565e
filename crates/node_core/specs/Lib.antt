pub mod Acting
pub mod Coming
pub mod Down
pub mod Nodes
pub mod Opening
pub mod Putting
pub mod OnDisks
pub mod Stands
