use Rattle.std.proofs.Common.{refl, sym, inl, inr}
use Rattle.rdf_model.specs.declared.triple.Triple.{Triple}
use Rattle.shape_syntax.proofs.Values.{has_at}
use Rattle.shape_syntax.proofs.Items.{get_in}
use Rattle.shape_syntax.proofs.Loops.{none_first}
use Rattle.shape_sizes.proofs.path_looks.made_of_triple.Goals as goal

pub returns-in_ok-nodes-in-Some : goal.returns-in_ok-nodes-in-Some
returns-in_ok-nodes-in-Some c =
    let f = c.in-Some.triple.now in
    let first = (c.triples_of.ensures.members f).0 (get_in c.triples_of.result.now 0 f (sym c.in-Some.ensures.value)) in
    inl (f.predicate, f.object, has_at c.args.graph.now f.subject c.args.node.now f.predicate f.predicate f.object first.1 refl first.0, c.in_ok-nodes-in-Some.ensures)

pub returns-in-None : goal.returns-in-None
returns-in-None c = inr (
  (λ p m h.
      let r : Triple = record { subject = c.args.node.now; predicate = p; object = m } in
      none_first c.triples_of.result.now (sym c.in-None.ensures.value) r ((c.triples_of.ensures.members r).1 (h, refl))),
  c.new.ensures,
)
