pub mod Examples
pub mod Components
