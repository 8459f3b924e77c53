use Rattle.std.proofs.Common.{◌≡◌, ◌∙◌, List, [], ap, refl, subst}
use Rattle.std.specs.Prelude.{◌↔◌, IsTrue}
use lib.Pointwise.{pointwise}
use Rattle.std.specs.Ordering.{eq_by_cmp}
use Rattle.rdf_model.specs.declared.look.Look.{Look}
use Rattle.rdf_model.specs.declared.term.Term.{Term}
use Rattle.rdf_model.specs.declared.triple.Triple.{Triple}
use Rattle.rdf_model.specs.Numbers.{graph_of}
use Rattle.rdf_model.specs.Terms.{triple_cmp}
use Rattle.path_eval.specs.Naming.{look_of}
use Rattle.evidence_blocks.specs.declared.block.ShownLook.{ShownLook}
use Rattle.result_evidence.specs.Standing.{HasNumbers}
use Rattle.evidence_verdict.proofs.Exacts.{exact_where_found, exact_where_none}
use Rattle.evidence_verdict.proofs.exact.is_exact.Goals as goal

pub returns-in_ok-triples-in-Some : goal.returns-in_ok-triples-in-Some
returns-in_ok-triples-in-Some g c =
    let terms = g.N.Names.terms c.args.names.now in
    let graph = graph_of terms (g.R.Triples.triples c.args.graph.now) in
    let x = c.args.shown.now in
    exact_where_found graph x (look_of terms c.in-Some.look) c.in_ok-triples-in-Some.triples x.triples c.eq.result (c.in-Some.ensures.1 ∙ ap (λ (y : ShownLook). y.look) c.shown.view_is) refl c.in_ok-triples-in-Some.ensures
    (c.eq.ensures ∙ (λ i. pointwise (eq_by_cmp triple_cmp) (c.as_slice.ensures i) ((c.as_slice-in-Some.ensures ∙ ap (λ (y : ShownLook). y.triples) c.shown.view_is) i)))

pub returns-in-None : goal.returns-in-None
returns-in-None g c =
    let terms = g.N.Names.terms c.args.names.now in
    let never = subst (λ (l : Look Term). HasNumbers terms l → ⊥) (ap (λ (y : ShownLook). y.look) c.shown.view_is) c.in-None.ensures in
    let empty = subst (λ (ts : List Triple). IsTrue c.is_empty.result ↔ (ts ≡ [])) (ap (λ (y : ShownLook). y.triples) c.shown.view_is) c.is_empty.ensures in
    exact_where_none terms (g.R.Triples.triples c.args.graph.now) c.requires.graph c.args.shown.now never c.is_empty.result empty
