pub mod Order
pub mod Printing
pub mod Followed
pub mod Faults
pub mod Laws
