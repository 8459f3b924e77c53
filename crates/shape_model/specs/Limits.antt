-- How much a shape may ask for. The numbers are unfoldable, so that no proof counts so far.
use Rattle.std.specs.Prelude.{ℕ}

-- A shape may have no more looks than this.
unfoldable pub looks_limit : ℕ
looks_limit = 4096

-- References follow one another, and paths are nested, fewer times than this: 256 times at most.
unfoldable pub levels_limit : ℕ
levels_limit = 257
