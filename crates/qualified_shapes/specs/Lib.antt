pub mod Qualified
