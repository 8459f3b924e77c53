-- Pages that are built side by side.
use Rattle.std.specs.Prelude.{◌≡◌, ℕ, ◌+◌, ◌<◌, ◌≤◌, List, ◌++◌, length}
use Rattle.page_tree.specs.Blocks.{Block, AreBelow, keys_of}

-- pages below the height h with these keys were added: some, and at most half as many as there were parts
pub record AddsPages {K : Type 0} (h : ℕ) (keys : List K) (parts : ℕ) (old new : List (Block K)) : Type 0 where
  pub keys_are : keys_of new ≡ keys_of old ++ keys
  pub below : AreBelow h old → AreBelow h new
  pub some : length old < length new
  pub few : length new + length new ≤ length old + length old + parts
