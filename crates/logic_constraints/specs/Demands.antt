-- To how many of some shapes a value node has to conform (SHACL 4.6 and 4.7.1).
use Rattle.std.specs.Prelude.{◌≡◌, ◌<◌, ℕ, Bool, List, length}
use Rattle.std.proofs.Common.{get_or}
use Rattle.rdf_model.specs.declared.term.Term.{Term}
use Rattle.rdf_model.specs.Numbers.{term_at}
use Rattle.component_rows.specs.Answers.{Tells}
use Rattle.component_rows.specs.Conformance.{yes_at}
use Rattle.logic_constraints.specs.declared.demand.Demand.{Demand}
use Rattle.logic_constraints.specs.declared.demand.Demand.TheVariants.{All, Any, One, Neither}

-- it conforms to so many of the shapes, which are enough
abbrev pub IsMet : Demand → ℕ → ℕ → Type 0
IsMet All n shapes = n ≡ shapes
IsMet Any n shapes = 0 < n
IsMet One n shapes = n ≡ 1
IsMet Neither n shapes = n ≡ 0

-- one answer for each place: whether the demand is met there
abbrev pub AreMet : Demand → ℕ → List (List Bool) → List Bool → Type 0
AreMet demand places answers = Tells (λ i. IsMet demand (yes_at i answers) (length answers)) places

-- the value node stands at a place where the demand is met
abbrev pub Meets : Demand → List Term → List ℕ → List (List Bool) → Term → Type 0
Meets demand terms values answers v = (i : ℕ) × (i < length values) × (term_at terms (get_or values i 0) ≡ v) × IsMet demand (yes_at i answers) (length answers)
