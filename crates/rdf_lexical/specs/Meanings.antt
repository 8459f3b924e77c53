-- What IRIREF, strings and language tags stand for (N-Triples 1.1 sections 2 and 7, Turtle 1.1 sections 2.4, 2.5 and 6.4).
use Rattle.std.specs.Prelude.{ℕ, zero, suc, ◌+◌, ◌-◌, List, [], ◌∷◌, ◌++◌, length, take, drop, map, Option, Some, None, encode_utf8, encode_utf8_all, ◌==◌, if◌then◌else◌}
use Rattle.rdf_lexical.specs.declared.quoting.Quotes.{Quotes}
use Rattle.rdf_lexical.specs.declared.escapes.Escape.{Escape}
use Rattle.rdf_lexical.specs.declared.escapes.Escape.TheVariants.{Character, Cut, Faulty}
use Rattle.rdf_lexical.specs.Characters.{is_within}
use Rattle.rdf_lexical.specs.Escaping.{escape_at}
use Rattle.rdf_lexical.specs.Quoting.{quotes_length}

-- a text without so many characters at each end
abbrev pub inner : ℕ → List ℕ → List ℕ
inner n cs = take (length cs - (n + n)) (drop n cs)

-- The character that an escape stands for, and how many characters it has with its backslash; a backslash that begins
-- no escape stands for itself, and tokens have none.
abbrev pub escaped_character : Escape → ℕ × ℕ
escaped_character (Character c n) = (c, suc n)
escaped_character Cut = (92, 1)
escaped_character Faulty = (92, 1)

-- the character that comes next, itself or by an escape
abbrev pub character_at : ℕ → List ℕ → ℕ × ℕ
character_at c cs = if c == 92 then escaped_character (escape_at cs) else (c, 1)

abbrev pub next_character : List ℕ → Option (ℕ × ℕ)
next_character [] = None
next_character (c ∷ cs) = Some (character_at c cs)

-- Each character as itself and each escape as the character that it stands for, in UTF-8, after so many characters that
-- belong to an escape before.
abbrev pub unescaped : ℕ → List ℕ → List ℕ
unescaped n [] = []
unescaped (suc n) (c ∷ cs) = unescaped n cs
unescaped zero (c ∷ cs) = encode_utf8 (character_at c cs).0 ++ unescaped ((character_at c cs).1 - 1) cs

-- the IRI of an IRIREF, between `<` and `>`
abbrev pub iri_text : List ℕ → List ℕ
iri_text cs = unescaped 0 (inner 1 cs)

-- the value of a string, between its quotes
abbrev pub string_value : Quotes → List ℕ → List ℕ
string_value quotes cs = unescaped 0 (inner (quotes_length quotes) cs)

-- language tags are kept in lower case (RDF 1.1 Concepts section 3.3)
abbrev pub lower_case : ℕ → ℕ
lower_case c = if is_within 65 90 c then c + 32 else c

abbrev pub lower_text : List ℕ → List ℕ
lower_text cs = encode_utf8_all (map lower_case cs)
