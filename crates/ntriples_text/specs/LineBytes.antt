-- How far the first line of a text goes in its bytes.
use Rattle.std.specs.Prelude.{ℕ, suc, List, [], ◌∷◌, if◌then◌else◌}
use Rattle.rdf_lexical.specs.Characters.{is_line_end}

-- how many bytes it has, with the one that ends it
abbrev pub line_length : List ℕ → ℕ
line_length [] = 0
line_length (b ∷ bs) = if is_line_end b then 1 else suc (line_length bs)
