-- Value nodes that conform to a qualified value shape and to no sibling shape (SHACL 4.7.3).
use Rattle.std.specs.Prelude.{◌≡◌, ℕ, Bool, true, false, List, []}
use Rattle.std.proofs.Common.{get_or}
use Rattle.rdf_model.specs.declared.term.Term.{Term}
use Rattle.shape_model.specs.Readings.{Reading}
use Rattle.shape_model.specs.Triples.{IsMember}
use Rattle.component_rows.specs.Conformance.{yes_at}
use Rattle.component_rows.specs.Listed.{untold}

-- a shape of which the qualified value shape alone is told, as each of its values, and the siblings
abbrev pub with_qualified : Term → List Term → Reading
with_qualified shape siblings = record untold { has = λ p v. v ≡ shape; sibling = IsMember siblings }

-- at the place the first answer is yes, and no other
abbrev pub Qualifies : List (List Bool) → ℕ → Type 0
Qualifies answers i = (get_or (get_or answers 0 []) i false ≡ true) × (yes_at i answers ≡ 1)
