-- What a run without a log ends with, as its threads tell it.
pub use Rattle.session_threads.proofs.Gathering.{unlogged_end}
