pub mod Rows
pub mod PathRows
pub mod MemberRows
pub mod ShapeRows
pub mod Laws
pub mod NamedRows
