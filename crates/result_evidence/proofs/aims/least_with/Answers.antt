use Rattle.std.proofs.Common.{◌≡◌, List, subst}
use Rattle.std.specs.Prelude.{◌↔◌, IsTrue, MatchOption}
use Rattle.std.specs.declared.cmp.Ordering.TheVariants.{Less}
use Rattle.rdf_model.specs.declared.term.Term.{Term}
use Rattle.rdf_model.specs.Numbers.{graph_of, term_at}
use Rattle.rdf_model.specs.Terms.{term_cmp}
use Rattle.shape_model.specs.Validation.{At}
use Rattle.result_evidence.proofs.LeastAims.{failed, passed_over, taken}
use Rattle.result_evidence.proofs.aims.least_with.Goals as goal

pub returns-then-not-first-clause-least : goal.returns-then-not-first-clause-least
returns-then-not-first-clause-least g c s own of at =
    let e = c.args.evaluation.now in
    let node = c.args.node in
    let first = c.comes_first-first.result in
    passed_over e.terms (λ f. At (graph_of e.terms e.ids) s own.node f c.args.row.now) node c.args.least first c.if-not-first.true
    (subst (λ (terms : List Term). MatchOption c.args.least (IsTrue first) (λ m. IsTrue first ↔ (term_cmp (term_at terms node) (term_at terms m) ≡ Less))) c.requires.names c.comes_first-first.ensures)

pub returns-then-gives-clause-least : goal.returns-then-gives-clause-least
returns-then-gives-clause-least g c s own of at =
    let e = c.args.evaluation.now in
    let node = c.args.node in
    let first = c.comes_first-first.result in
    taken e.terms (λ f. At (graph_of e.terms e.ids) s own.node f c.args.row.now) node c.args.least first c.if-not-first.false c.requires.node ((c.in_ok-gives.ensures s own of at).0 c.if-gives.true)
    (subst (λ (terms : List Term). MatchOption c.args.least (IsTrue first) (λ m. IsTrue first ↔ (term_cmp (term_at terms node) (term_at terms m) ≡ Less))) c.requires.names c.comes_first-first.ensures)

pub returns-clause-least : goal.returns-clause-least
returns-clause-least g c s own of at =
    let e = c.args.evaluation.now in
    failed e.terms (λ f. At (graph_of e.terms e.ids) s own.node f c.args.row.now) c.args.node c.args.least (λ p. let k = (c.in_ok-gives.ensures s own of at).1 p in let n = c.if-gives.false in cc (k, n))
