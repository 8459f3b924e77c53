-- The UTF-8 bytes of characters.
use Rattle.std.specs.Prelude.{ℕ, List, string_bytes}
use Rattle.rdf_text.specs.declared.text.Characters.{Characters}
use Rattle.rdf_text.specs.declared.text.Characters.TheVariants.{Short, Long}

-- wherever they stand
abbrev pub bytes_of : Characters → List ℕ
bytes_of (Short text) = text.bytes
bytes_of (Long text) = string_bytes text
