-- What records make of an empty store, one after another.
use Rattle.std.specs.Prelude.{◌≡◌, ℕ, ◌+◌, List, [], ◌∷◌, ◌++◌, map, Option, Some, None}
use Rattle.std.specs.List.{Contains, filter, flat_map}
use Rattle.std.specs.declared.cmp.Ordering.TheVariants.{Less}
use Rattle.collections.specs.Ordered.{has_item}
use Rattle.rdf_model.specs.declared.change.Change.{Change}
use Rattle.rdf_model.specs.declared.change.Change.TheVariants.{Add, Remove}
use Rattle.rdf_model.specs.declared.term.Term.{Term}
use Rattle.rdf_model.specs.declared.triple.Triple.{Triple}
use Rattle.rdf_model.specs.Graphs.{after, lacking, with_each}
use Rattle.rdf_model.specs.Terms.{triple_cmp}
use Rattle.record_text.specs.declared.record.Record.{Record}

-- the changes of a record: the removed triples are taken out, then the added ones are put in
abbrev pub changes_of : Record → List Change
changes_of r = map Remove r.removed ++ map Add r.added

-- the data graph after a record, after each of a list in turn, and of a list from the empty graph on
abbrev pub data_after : List Triple → Record → List Triple
data_after g r = after g (changes_of r)

abbrev pub data_from : List Triple → List Record → List Triple
data_from g [] = g
data_from g (r ∷ rs) = data_from (data_after g r) rs

abbrev pub data_of : List Record → List Triple
data_of rs = data_from [] rs

-- the shapes graph that was staged, ascending, or the one before where none was
abbrev pub staged_over : List Triple → Option (List Triple) → List Triple
staged_over s None = s
staged_over s (Some ts) = with_each [] ts

-- the same of shapes graphs
abbrev pub shapes_after : List Triple → Record → List Triple
shapes_after s r = staged_over s r.shapes

abbrev pub shapes_from : List Triple → List Record → List Triple
shapes_from s [] = s
shapes_from s (r ∷ rs) = shapes_from (shapes_after s r) rs

abbrev pub shapes_of : List Record → List Triple
shapes_of rs = shapes_from [] rs

-- the triples of a record that misfit: those removed that the graph lacks, and those added that it has
abbrev pub having : List Triple → List Triple → List Triple
having ts g = filter (λ t. has_item triple_cmp t g) ts

abbrev pub misfits : List Triple → Record → List Triple
misfits g r = lacking r.removed g ++ having r.added g

abbrev pub Fits : List Triple → Record → Type 0
Fits g r = misfits g r ≡ []

-- the least triple that misfits
pub record IsLeastMisfit (g : List Triple) (r : Record) (t : Triple) : Type 0 where
  pub there : Contains (misfits g r) t
  pub least : (u : Triple) → Contains (misfits g r) u → triple_cmp u t ≡ Less → ⊥

-- each record fits the graph after those before it
abbrev pub AllFit : List Triple → List Record → Type 0
AllFit g [] = Unit {0}
AllFit g (r ∷ rs) = Fits g r × AllFit (data_after g r) rs

-- the records are numbered from this number on, without a gap
abbrev pub AreNumberedFrom : ℕ → List Record → Type 0
AreNumberedFrom n [] = Unit {0}
AreNumberedFrom n (r ∷ rs) = (r.number ≡ n) × AreNumberedFrom (n + 1) rs

-- the terms of a triple, of triples, and of a record, in the order in which they stand
abbrev pub triple_terms : Triple → List Term
triple_terms t = t.subject ∷ t.predicate ∷ t.object ∷ []

abbrev pub staged_terms : Option (List Triple) → List Term
staged_terms None = []
staged_terms (Some ts) = flat_map triple_terms ts

abbrev pub terms_of : Record → List Term
terms_of r = flat_map triple_terms r.removed ++ (flat_map triple_terms r.added ++ staged_terms r.shapes)
