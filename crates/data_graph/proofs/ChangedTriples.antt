-- The triples of changes are those that they add or remove.
use Rattle.std.proofs.Common.{◌≡◌, List, [], ◌∷◌, ap, inl, inr, arith}
use Rattle.std.specs.Prelude.{◌↔◌, map}
use Rattle.std.specs.List.{Contains}
use Rattle.collections.proofs.Members.{has_cases, has_equal, has_tail}
use Rattle.rdf_model.specs.declared.change.Change.{Change}
use Rattle.rdf_model.specs.declared.change.Change.TheVariants.{Add, Remove}
use Rattle.rdf_model.specs.declared.triple.Triple.{Triple}
use Rattle.shape_model.specs.Touching.{IsChanged}
use Rattle.store_model.specs.Store.{changed_triple}

one_changed : (c : Change) (cs : List Change) (t : Triple) → changed_triple c ≡ t → IsChanged (c ∷ cs) t
one_changed (Add u) cs t e = inl (has_equal (Add u) cs (Add t) (ap Add e))
one_changed (Remove u) cs t e = inr (has_equal (Remove u) cs (Remove t) (ap Remove e))

more_changed : (c : Change) (cs : List Change) (t : Triple) → IsChanged cs t → IsChanged (c ∷ cs) t
more_changed c cs t (inl h) = inl (has_tail c cs (Add t) h)
more_changed c cs t (inr h) = inr (has_tail c cs (Remove t) h)

is_changed : (net : List Change) (t : Triple) → Contains (map changed_triple net) t → IsChanged net t
is_changed [] t h = absurd (omega arith)
is_changed (c ∷ cs) t h = elim (has_cases (changed_triple c) (map changed_triple cs) t h) [
  | inl e ↦ one_changed c cs t e
  | inr d ↦ more_changed c cs t (is_changed cs t d)
]

among : (net : List Change) (c : Change) → Contains net c → Contains (map changed_triple net) (changed_triple c)
among [] c h = absurd (omega arith)
among (d ∷ ds) c h = elim (has_cases d ds c h) [
  | inl e ↦ has_equal (changed_triple d) (map changed_triple ds) (changed_triple c) (ap changed_triple e)
  | inr k ↦ has_tail (changed_triple d) (map changed_triple ds) (changed_triple c) (among ds c k)
]

pub are_changed : (net : List Change) (t : Triple) → Contains (map changed_triple net) t ↔ IsChanged net t
are_changed net t = (
  is_changed net t,
  λ h. elim h [
    | inl a ↦ among net (Add t) a
    | inr r ↦ among net (Remove t) r
  ],
)
