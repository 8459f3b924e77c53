-- How far a language tag goes (Turtle 1.1 section 6.5, N-Triples 1.1 section 7).
use Rattle.std.specs.Prelude.{ℕ, suc, ◌+◌, Bool, true, false, ◌&&◌, ◌||◌, List, [], ◌∷◌, drop, ◌==◌, if◌then◌else◌}
use Rattle.rdf_lexical.specs.declared.classes.Class.TheVariants.{Letter, LetterOrDigit}
use Rattle.rdf_lexical.specs.Classes.{holds, begins_with, run_length}

-- `('-' [a-zA-Z0-9]+)*`; whether the characters of a subtag may go on
abbrev pub subtags_length : Bool → List ℕ → ℕ
subtags_length inside [] = 0
subtags_length inside (c ∷ cs) = if (inside && holds LetterOrDigit c) || (c == 45 && begins_with LetterOrDigit cs) then suc (subtags_length true cs) else 0

-- the longest LANGTAG after its `@`: `[a-zA-Z]+ ('-' [a-zA-Z0-9]+)*`
abbrev pub tag_length : List ℕ → ℕ
tag_length cs = let letters = run_length Letter cs in
    if letters == 0 then 0 else letters + subtags_length false (drop letters cs)
