use Rattle.std.proofs.Common.{ℕ, List, subst, arith, inl, inr}
use Rattle.std.specs.Prelude.{◌≢◌}
use Rattle.std.specs.List.{Contains}
use Rattle.std.proofs.lemmas.List.{take_all}
use Rattle.rdf_model.specs.declared.term.Term.{Term}
use Rattle.rdf_model.specs.declared.term.Term.TheVariants.{Blank}
use Rattle.shape_syntax.proofs.Scans.{cases_more}
use Rattle.shape_sizes.proofs.stand_ins.are_apart.Goals as goal

pub loop-node-init : goal.loop-node-init
loop-node-init c = λ n d. absurd (let k = d.1 in omega arith)

pub loop-node-preserved : goal.loop-node-preserved
loop-node-preserved c = λ n d. elim (cases_more c.args.nodes.now c.loop-node.node-index c.node-item.result (omega arith) c.node-item.is n d) [
  | inl old ↦ c.loop-node.invariant n old
  | inr same ↦ subst (λ (m : Term). (i : ℕ) → m ≢ Blank 0 i) same (c.is_apart.ensures c.if-not-is_apart.false)
]

pub returns : goal.returns
returns c = λ h. subst (λ (xs : List Term). (n : Term) → Contains xs n → (i : ℕ) → n ≢ Blank 0 i) (take_all c.loop-node.node-index c.args.nodes.now (omega arith)) c.loop-node.invariant
