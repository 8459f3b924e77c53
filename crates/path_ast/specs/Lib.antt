pub mod PathReadings
