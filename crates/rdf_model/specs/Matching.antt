-- Which triples a pattern asks for, and which a look reads.
use Rattle.std.specs.Prelude.{Bool, true, ◌&&◌, List, Option, Some, None}
use Rattle.std.specs.Ordering.{eq_by_cmp}
use Rattle.std.specs.List.{list_any}
use Rattle.rdf_model.specs.declared.term.Term.{Term}
use Rattle.rdf_model.specs.declared.triple.Triple.{Triple}
use Rattle.rdf_model.specs.Terms.{term_cmp}
use Rattle.rdf_model.specs.declared.pattern.Pattern.{Pattern}
use Rattle.rdf_model.specs.declared.look.Look.{Look}
use Rattle.rdf_model.specs.declared.look.Look.TheVariants.{Out, In, OutAny}

abbrev pub same_term : Term → Term → Bool
same_term a b = eq_by_cmp term_cmp a b

abbrev pub fits : Option Term → Term → Bool
fits None t = true
fits (Some x) t = same_term x t

abbrev pub matches : Pattern → Triple → Bool
matches p t = fits p.subject t.subject && fits p.predicate t.predicate && fits p.object t.object

abbrev pub is_read_by : Look Term → Triple → Bool
is_read_by (Out x p) t = same_term x t.subject && same_term p t.predicate
is_read_by (In p x) t = same_term p t.predicate && same_term x t.object
is_read_by (OutAny x) t = same_term x t.subject

-- whether one of the patterns matches, or one of the looks reads the triple
abbrev pub is_found : List Pattern → Triple → Bool
is_found ps t = list_any (λ p. matches p t) ps

abbrev pub is_read : List (Look Term) → Triple → Bool
is_read ls t = list_any (λ l. is_read_by l t) ls
