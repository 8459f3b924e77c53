use Rattle.std.proofs.Common.{List, arith, subst, sym, inl, inr}
use Rattle.std.specs.List.{Contains}
use Rattle.rdf_model.specs.declared.term.Term.{Term}
use Rattle.rdf_model.specs.declared.triple.Triple.{Triple}
use Rattle.shape_syntax.specs.Subjects.{IsSubject}
use Rattle.shape_syntax.proofs.Scans.{cases_more, in_all}
use Rattle.shape_syntax.proofs.below.from_below.Goals as goal

pub loop-node-preserved : goal.loop-node-preserved
loop-node-preserved c = λ n there. elim (cases_more c.as_slice-node-items.result.now c.loop-node.node-index c.node-item.result (omega arith) c.node-item.is n there) [
  | inl old ↦ c.in_ok-descend.ensures n (inl (c.loop-node.invariant n old))
  | inr e ↦ c.in_ok-descend.ensures n (inr e)
]

pub returns : goal.returns
returns c = λ n h.
    let there = subst (λ (ns : List Term). Contains ns n) (sym c.as_slice-node-items.ensures) ((c.in_ok-starts.ensures n).1 (subst (λ (ts : List Triple). IsSubject ts n) (sym c.as_slice.ensures) h)) in
    c.loop-node.invariant n (in_all c.as_slice-node-items.result.now c.loop-node.node-index (omega arith) n there)
