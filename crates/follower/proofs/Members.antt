-- The members of graphs by numbers.
use Rattle.std.proofs.Common.{◌≡◌, List, [], ◌∷◌, ap, subst, arith, inl, inr}
use Rattle.std.specs.List.{Contains}
use Rattle.collections.proofs.Members.{has_cases, has_equal, has_head, has_tail}
use Rattle.rdf_model.specs.declared.ids.Ids.{Ids}
use Rattle.rdf_model.specs.declared.term.Term.{Term}
use Rattle.rdf_model.specs.declared.triple.Triple.{Triple}
use Rattle.rdf_model.specs.Numbers.{AreNumbered, IsNumbering, graph_of, triple_at}
use Rattle.triple_index.specs.Changes.{IsNumbered}

-- the triples of numbers that stand in a list are those of its graph
pub in_graph : (terms : List Term) (ids : List Ids) (i : Ids) → Contains ids i → Contains (graph_of terms ids) (triple_at terms i)
in_graph terms [] i c = absurd (omega arith)
in_graph terms (j ∷ js) i c = elim (has_cases j js i c) [
  | inl e ↦ has_equal (triple_at terms j) (graph_of terms js) (triple_at terms i) (ap (triple_at terms) e)
  | inr d ↦ has_tail (triple_at terms j) (graph_of terms js) (triple_at terms i) (in_graph terms js i d)
]

pub of_graph : (terms : List Term) (ids : List Ids) (t : Triple) → Contains (graph_of terms ids) t → (i : Ids) × Contains ids i × (triple_at terms i ≡ t)
of_graph terms [] t c = absurd (omega arith)
of_graph terms (j ∷ js) t c = elim (has_cases (triple_at terms j) (graph_of terms js) t c) [
  | inl e ↦ (j, has_head j js, e)
  | inr d ↦ let r : (i : Ids) × Contains js i × (triple_at terms i ≡ t) = of_graph terms js t d in (r.0, has_tail j js r.0 r.1, r.2)
]

-- each number of a list's triples has a term where that is so of each triple that stands in it
pub numbered_at : (terms : List Term) (ids : List Ids) (i : Ids) → AreNumbered terms ids → Contains ids i → IsNumbered terms i
numbered_at terms [] i a c = absurd (omega arith)
numbered_at terms (j ∷ js) i a c = elim (has_cases j js i c) [
  | inl e ↦ subst (λ (k : Ids). IsNumbered terms k) e a.0
  | inr d ↦ numbered_at terms js i a.1 d
]

pub all_numbered : (terms : List Term) (ids : List Ids) → ((i : Ids) → Contains ids i → IsNumbered terms i) → AreNumbered terms ids
all_numbered terms [] f = tt
all_numbered terms (j ∷ js) f = (f j (has_head j js), all_numbered terms js (λ i c. f i (has_tail j js i c)))

-- a triple has one number for each of its terms
pub same_ids : (terms : List Term) → IsNumbering terms → (i j : Ids) → IsNumbered terms i → IsNumbered terms j → triple_at terms i ≡ triple_at terms j → i ≡ j
same_ids terms numbering i j a b e =
    let subject = numbering i.subject j.subject a.0 b.0 (ap (λ (t : Triple). t.subject) e) in
    let predicate = numbering i.predicate j.predicate a.1 b.1 (ap (λ (t : Triple). t.predicate) e) in
    let object = numbering i.object j.object a.2 b.2 (ap (λ (t : Triple). t.object) e) in
    λ k. record { subject = subject k; predicate = predicate k; object = object k }
