use Rattle.std.proofs.Common.{◌∙◌, sym, subst}
use Rattle.rdf_model.specs.declared.term.Term.{Term}
use Rattle.shape_model.specs.Triples.{Has}
use Rattle.plain_terms.proofs.ways.only_triple.Goals as goal

pub returns-then-says_all : goal.returns-then-says_all
returns-then-says_all c =
    let first = c.in-Some.first.now in
    let only = c.says_all.ensures.0 c.if-says_all.true in
    (c.in-Some.ensures.1, λ p v h. only p v (subst (λ (n : Term). Has c.args.graph.now n p v) (sym c.in-Some.ensures.0) h))

pub returns-else-says_all : goal.returns-else-says_all
returns-else-says_all c =
    let first = c.in-Some.first.now in
    let n = c.args.node.now in
    λ p v alone.
    let own = alone.1 first.predicate first.object c.in-Some.ensures.1 in
    let k = c.says_all.ensures.1 (λ q w h. let other = alone.1 q w (subst (λ (m : Term). Has c.args.graph.now m q w) c.in-Some.ensures.0 h) in (other.0 ∙ sym own.0, other.1 ∙ sym own.1)) in
    cc (k, c.if-says_all.false)

pub returns-in-None : goal.returns-in-None
returns-in-None c = λ p v alone. c.in-None.ensures p v alone.0
