use Rattle.std.proofs.Common.{◌<◌, ◌≤◌, ◌∙◌, length, map, arith, sym, subst}
use Rattle.std.proofs.lemmas.List.{length-map, take_all}
use Rattle.std.proofs.lemmas.List.Elements.{All-push}
use Rattle.rdf_model.specs.declared.term.Term.{Term}
use Rattle.rdf_model.specs.Numbers.{term_at}
use Rattle.path_ast.specs.PathReadings.{IsNamed}
use Rattle.path_ast.proofs.ReadItems.{map_more, read_at}
use Rattle.shape_ast.proofs.parts.bind_terms.Goals as goal

pub number_of-requires : goal.number_of-requires
number_of-requires g c = subst (λ (t : Term). IsNamed (g.N.Names.terms c.args.names.now) t) (sym c.term-item.is) (c.requires c.loop-term.term-index c.term-item.result c.loop-term-test.true)

pub loop-term-preserved : goal.loop-term-preserved
loop-term-preserved g c =
    let terms = g.N.Names.terms c.args.names.now in
    let all = c.args.terms.now in
    let i = c.loop-term.term-index in
    let t = c.term-item.result in
    let within : i < length (map (λ (x : Term). x) all) = omega (arith, c.loop-term-test.true, length-map all (λ (x : Term). x)) in
    rw c.in_ok-push.ensures.ok (
      All-push (λ n. n < length terms) c.loop-term.bound c.number_of.result c.loop-term.invariant.0 c.number_of.ensures.bound,
      map_more (term_at terms) c.loop-term.bound (map (λ (x : Term). x) all) i c.number_of.result t c.loop-term.invariant.1 within (read_at (λ (x : Term). x) all i t c.loop-term-test.true c.term-item.is) c.number_of.ensures.term,
    )

pub returns : goal.returns
returns g c =
    let all = map (λ (x : Term). x) c.args.terms.now in
    let end : length all ≤ c.loop-term.term-index = omega (arith, c.loop-term-test.false, length-map c.args.terms.now (λ (x : Term). x)) in
    record { in_range = c.loop-term.invariant.0; same = c.loop-term.invariant.1 ∙ take_all c.loop-term.term-index all end }
