-- A set of triples after changes, and the triples that an overlay stands for.
use Rattle.std.specs.Prelude.{◌≡◌, ◌⊎◌, ℕ, Bool, not, List, [], ◌∷◌, ◌++◌}
use Rattle.std.specs.List.{filter}
use Rattle.rdf_model.specs.declared.ids.Ids.{Ids}
use Rattle.rdf_model.specs.declared.look.Look.{Look}
use Rattle.rdf_model.specs.declared.look.Look.TheVariants.{Out, In, OutAny}
use Rattle.triple_index.specs.declared.change.NumberedChange.{NumberedChange}
use Rattle.triple_index.specs.declared.change.NumberedChange.TheVariants.{Add, Remove}
use Rattle.triple_index.specs.Keys.{ids_cmp}
use Rattle.collections.specs.Ordered.{has_item}

-- what is in a set after one change
abbrev pub IsChanged : (Ids → Type 0) → NumberedChange → Ids → Type 0
IsChanged P (Add u) t = (u ≡ t) ⊎ P t
IsChanged P (Remove u) t = (u ≡ t → ⊥) × P t

-- and after changes in turn, so that the last change to a triple decides
abbrev pub IsAfter : (Ids → Type 0) → List NumberedChange → Ids → Type 0
IsAfter P [] t = P t
IsAfter P (c ∷ cs) t = IsAfter (IsChanged P c) cs t

-- the change that undoes another
abbrev pub opposite : NumberedChange → NumberedChange
opposite (Add t) = Remove t
opposite (Remove t) = Add t

-- the triples beneath that are not removed, and those that are added
abbrev pub is_left : List Ids → Ids → Bool
is_left removed t = not (has_item ids_cmp t removed)

abbrev pub overlaid : List Ids → List Ids → List Ids → List Ids
overlaid base added removed = filter (is_left removed) base ++ added

abbrev pub triple_of : ℕ → ℕ → ℕ → Ids
triple_of x p y = record { subject = x; predicate = p; object = y }

-- the triple in which a look finds a number
abbrev pub triple_found : Look ℕ → ℕ → Ids
triple_found (Out x p) n = triple_of x p n
triple_found (In p x) n = triple_of n p x
triple_found (OutAny x) n = triple_of x n n
