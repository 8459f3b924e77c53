-- What is told of the log that a run begins with, as the slot of its store tells it.
pub use Rattle.session_threads.specs.Slots.{HadRecords}
