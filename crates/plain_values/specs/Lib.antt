pub mod Around
pub mod Tests
pub mod Built
