use Rattle.std.proofs.Common.{◌-◌, drop, get_or, length, take}
use Rattle.rdf_model.specs.declared.term.Term.TheVariants.{Iri}
use Rattle.rdf_model.specs.Terms.{triple_cmp}
use Rattle.shape_syntax.proofs.Places.{key, place_cmp, place_total, place_agrees, at_place, place_tied}
use Rattle.shape_syntax.proofs.Ranges.{in_run}
use Rattle.shape_syntax.proofs.lookup.scanned.Goals as goal

pub returns : goal.returns
returns c = λ t.
    let xs = c.args.triples.now in
    let n = c.args.node.now in
    let p = Iri c.args.predicate.now in
    let i = c.count_before-first.result in
    let ys = take (length xs - i) (drop i xs) in
    let h = in_run triple_cmp place_cmp place_total place_agrees (key n p) xs i c.count_at.result c.requires c.count_before-first.ensures.bound c.count_at.ensures.bound
    (λ m d low high e. c.count_before-first.ensures.before m d low high (at_place (get_or xs m d) n p e))
    (λ d l. let g = c.count_before-first.ensures.here d l in place_tied (get_or xs i d) n p g.0 g.1)
    (λ m d low high. let g = c.count_at.ensures.before m d low high in place_tied (get_or ys m d) n p g.0 g.1)
    (λ d l e. c.count_at.ensures.end d l (at_place (get_or ys c.count_at.result d) n p e)) t in (
      λ d. let g = h.0 d in (g.0, at_place t n p g.1),
      λ g. h.1 (g.0, place_tied t n p g.1.0 g.1.1),
    )
