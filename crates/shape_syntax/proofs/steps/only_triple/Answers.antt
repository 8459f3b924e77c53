use Rattle.std.proofs.Common.{◌∙◌, refl, sym}
use Rattle.rdf_model.specs.declared.triple.Triple.{Triple}
use Rattle.shape_syntax.proofs.Values.{has_at}
use Rattle.shape_syntax.proofs.Equals.{same_unless}
use Rattle.shape_syntax.proofs.Items.{get_in}
use Rattle.shape_syntax.proofs.Loops.{none_first}
use Rattle.shape_syntax.proofs.steps.only_triple.Goals as goal

pub returns-then-is_more_said : goal.returns-then-is_more_said
returns-then-is_more_said c = λ p v alone.
    let s = c.args.graph.now in
    let n = c.args.node.now in
    let more = c.is_more_said.ensures.0 c.if-is_more_said.true in
    let t = more.0 in
    let f = c.in-Some.first.now in
    let there = (c.triples_of-own.ensures.members t).0 more.1 in
    let first = (c.triples_of-own.ensures.members f).0 (get_in c.triples_of-own.result.now 0 f (sym c.in-Some.ensures.value)) in
    let a = alone.1 t.predicate t.object (has_at s t.subject n t.predicate t.predicate t.object there.1 refl there.0) in
    let b = alone.1 f.predicate f.object (has_at s f.subject n f.predicate f.predicate f.object first.1 refl first.0) in
    more.2 (a.0 ∙ sym b.0, a.1 ∙ sym b.1)

pub returns-else-is_more_said : goal.returns-else-is_more_said
returns-else-is_more_said c =
    let s = c.args.graph.now in
    let n = c.args.node.now in
    let f = c.in-Some.first.now in
    let first = (c.triples_of-own.ensures.members f).0 (get_in c.triples_of-own.result.now 0 f (sym c.in-Some.ensures.value)) in (
      has_at s f.subject n f.predicate f.predicate f.object first.1 refl first.0,
      λ q w h.
          let r : Triple = record { subject = n; predicate = q; object = w } in
          let own = (c.triples_of-own.ensures.members r).1 (h, refl) in (
            same_unless q f.predicate (λ apart. let k = c.is_more_said.ensures.1 (r, own, λ e. apart e.0) in cc),
            same_unless w f.object (λ apart. let k = c.is_more_said.ensures.1 (r, own, λ e. apart e.1) in cc),
          ),
    )

pub returns-in-None : goal.returns-in-None
returns-in-None c = λ p v alone.
    let r : Triple = record { subject = c.args.node.now; predicate = p; object = v } in
    none_first c.triples_of-own.result.now (sym c.in-None.ensures.value) r ((c.triples_of-own.ensures.members r).1 (alone.0, refl))
