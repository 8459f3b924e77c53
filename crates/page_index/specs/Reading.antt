-- What is read of ascending keys, as pages tell it.
pub use Rattle.page_tree.specs.Reading.{AllReached, IsRising, first_reached, is_within, keys_above, IsRun}
