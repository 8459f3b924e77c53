use Rattle.std.proofs.Common.{◌≡◌, ◌∙◌, Bool, true, false, sym}
use Rattle.std.specs.Prelude.{MatchBool}
use Rattle.rdf_model.specs.declared.term.Term.{Term}
use Rattle.rdf_model.specs.Matching.{same_term}
use Rattle.rdf_model.proofs.SameTerms.{same_equal}
use Rattle.data_graph.proofs.hints.has_number.Goals as goal

where_same : (A : Type 0) (b : Bool) (t u : Term) → b ≡ same_term t u → (t ≡ u → A) → MatchBool b A (Unit {0})
where_same A true t u e f = f (same_equal t u (sym e))
where_same A false t u e f = tt

pub returns-in-Some : goal.returns-in-Some
returns-in-Some c = where_same _ c.eq.result c.in-Some.named.now c.args.term.now c.eq.ensures (λ same. (c.in-Some.ensures.0, sym c.in-Some.ensures.1 ∙ same))
