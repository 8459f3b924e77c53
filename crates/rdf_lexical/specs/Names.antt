-- How far a name goes (Turtle 1.1 section 6.5, N-Triples 1.1 section 7).
use Rattle.std.specs.Prelude.{ℕ, zero, suc, List, [], ◌∷◌, ◌==◌, if◌then◌else◌}
use Rattle.rdf_lexical.specs.declared.classes.Class.{Class}
use Rattle.rdf_lexical.specs.Classes.{holds}

-- a dot belongs to a name only where more of it follows
abbrev pub with_dot : ℕ → ℕ
with_dot zero = zero
with_dot (suc n) = suc (suc n)

-- `(k | '.')*`, not ending in a dot, for a class k of characters
abbrev pub name_length : Class → List ℕ → ℕ
name_length k [] = 0
name_length k (c ∷ cs) = if holds k c then suc (name_length k cs) else (if c == 46 then with_dot (name_length k cs) else 0)
