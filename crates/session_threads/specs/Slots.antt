-- What is told of the log that a store begins with, as its slot tells it.
pub use Rattle.guard_store.specs.Slots.{HadRecords}
