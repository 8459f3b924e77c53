pub mod Keeping
pub mod Playing
pub mod Closing
pub mod Gathering
pub mod Faulting
pub mod ShapesCrossing
pub mod Sending
