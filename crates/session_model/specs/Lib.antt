pub mod Reports
pub mod Sessions
pub mod Print
