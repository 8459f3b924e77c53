pub mod DigitLemmas
pub mod TextLemmas
pub mod CalendarLemmas
pub mod OrderLemmas
pub mod FormLemmas
pub mod DayEnds
