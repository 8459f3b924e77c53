-- The bindings of patterns in a graph of terms (SPARQL 1.1 Query, section 18.3): of all assignments of the graph's terms to the
-- variables, those under which each pattern stands in the graph. An assignment is the list of the variables' terms, from the
-- first variable on.
use Rattle.std.specs.Prelude.{ℕ, zero, suc, ◌+◌, ◌==◌, max, Bool, true, ◌&&◌, List, [], ◌∷◌, ◌++◌, map, Option, Some, None, if◌then◌else◌}
use Rattle.std.specs.List.{filter, flat_map, list_all, list_any}
use Rattle.rdf_model.specs.declared.pattern.Pattern.{Pattern}
use Rattle.rdf_model.specs.declared.term.Term.{Term}
use Rattle.rdf_model.specs.declared.triple.Triple.{Triple}
use Rattle.rdf_model.specs.Numbers.{term_at}
use Rattle.rdf_model.specs.Terms.{term_cmp, triple_cmp}
use Rattle.collections.specs.Ordered.{has_item, with_item}
use Rattle.bgp_query.specs.declared.pattern.JoinPattern.{JoinPattern}
use Rattle.bgp_query.specs.declared.pattern.Part.{Part}
use Rattle.bgp_query.specs.declared.pattern.Part.TheVariants.{Variable, Constant}

-- the terms of the graph, each once, ascending
abbrev pub terms_in : List Triple → List Term
terms_in [] = []
terms_in (t ∷ ts) = with_item term_cmp t.subject (with_item term_cmp t.predicate (with_item term_cmp t.object (terms_in ts)))

-- all lists of n of the terms: they ascend from the first term of the lists on, where the terms do
abbrev pub assignments : ℕ → List Term → List (List Term)
assignments zero terms = [] ∷ []
assignments (suc n) terms = flat_map (λ x. map (λ xs. x ∷ xs) (assignments n terms)) terms

-- the variables of a part and of a pattern
abbrev pub part_variables : Part Term → List ℕ
part_variables (Variable v) = v ∷ []
part_variables (Constant x) = []

abbrev pub pattern_variables : JoinPattern Term → List ℕ
pattern_variables p = part_variables p.subject ++ (part_variables p.predicate ++ part_variables p.object)

-- one more than the greatest of the numbers, and 0 where there is none
abbrev pub reach_of : List ℕ → ℕ
reach_of [] = 0
reach_of (v ∷ vs) = max (v + 1) (reach_of vs)

-- whether each number below n is one of these
abbrev pub has_all_below : ℕ → List ℕ → Bool
has_all_below zero vs = true
has_all_below (suc n) vs = list_any (λ v. v == n) vs && has_all_below n vs

-- the term for which a part stands under the assignment
abbrev pub term_under : List Term → Part Term → Term
term_under xs (Variable v) = term_at xs v
term_under xs (Constant x) = x

-- whether a pattern stands in the graph under the assignment: its triple is there
abbrev pub stands_in : List Triple → List Term → JoinPattern Term → Bool
stands_in graph xs p = has_item triple_cmp (record { subject = term_under xs p.subject; predicate = term_under xs p.predicate; object = term_under xs p.object }) graph

-- The bindings of the patterns in the graph, ascending. There are none where the variables aren't numbered from 0 on
-- without a gap.
unfoldable pub bindings : List Triple → List (JoinPattern Term) → List (List Term)
bindings graph patterns =
    let vs = flat_map pattern_variables patterns in
    let n = reach_of vs in
    if has_all_below n vs then filter (λ xs. list_all (stands_in graph xs) patterns) (assignments n (terms_in graph)) else []

-- the pattern with its variables open: what it asks for, whatever they stand for
abbrev pub part_opened : Part Term → Option Term
part_opened (Variable v) = None
part_opened (Constant x) = Some x

abbrev pub opened : JoinPattern Term → Pattern
opened p = record { subject = part_opened p.subject; predicate = part_opened p.predicate; object = part_opened p.object }
