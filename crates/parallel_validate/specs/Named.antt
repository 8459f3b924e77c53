-- Triples whose terms are among some names, and the numbers of their terms.
use Rattle.std.specs.Prelude.{◌<◌, List, length}
use Rattle.std.specs.List.{All}
use Rattle.rdf_model.specs.declared.term.Term.{Term}
use Rattle.rdf_model.specs.declared.triple.Triple.{Triple}
use Rattle.rdf_model.specs.declared.ids.Ids.{Ids}
use Rattle.path_ast.specs.PathReadings.{IsNamed}

-- its subject, its predicate and its object are among the names
abbrev pub IsNamedTriple : List Term → Triple → Type 0
IsNamedTriple names t = IsNamed names t.subject × IsNamed names t.predicate × IsNamed names t.object

abbrev pub AreNamedTriples : List Term → List Triple → Type 0
AreNamedTriples names ts = All (IsNamedTriple names) ts

-- each of the three numbers has a term
abbrev pub IsNumbered : List Term → Ids → Type 0
IsNumbered terms i = (i.subject < length terms) × (i.predicate < length terms) × (i.object < length terms)
