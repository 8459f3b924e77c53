-- The first of some triples.
use Rattle.std.specs.Prelude.{◌≡◌, List, [], ◌∷◌, Option, Some, None}
use Rattle.std.specs.Ordering.{match_ordering}
use Rattle.rdf_model.specs.declared.ids.Ids.{Ids}
use Rattle.rdf_model.specs.declared.term.Term.{Term}
use Rattle.rdf_model.specs.declared.triple.Triple.{Triple}
use Rattle.rdf_model.specs.Graphs.{with_each}
use Rattle.rdf_model.specs.Numbers.{graph_of, triple_at}
use Rattle.rdf_model.specs.Terms.{triple_cmp}
use Rattle.triple_index.specs.Changes.{IsNumbered}

abbrev pub first_in : List Triple → Option Triple
first_in [] = None
first_in (t ∷ ts) = Some t

-- the triple where it is before the first one, else that
abbrev pub sooner : Triple → Option Triple → Option Triple
sooner t None = Some t
sooner t (Some x) = Some (match_ordering (triple_cmp t x) t x x)

abbrev pub first_at : List Term → Option Ids → Option Triple
first_at terms None = None
first_at terms (Some i) = Some (triple_at terms i)

abbrev pub IsNumberedIfSome : List Term → Option Ids → Type 0
IsNumberedIfSome terms None = Unit {0}
IsNumberedIfSome terms (Some i) = IsNumbered terms i

-- the numbers are those of the first triple in order, if there is one
pub record IsFirst (terms : List Term) (ids : List Ids) (first : Option Ids) : Type 0 where
  pub numbered : IsNumberedIfSome terms first
  pub is : first_at terms first ≡ first_in (with_each [] (graph_of terms ids))
