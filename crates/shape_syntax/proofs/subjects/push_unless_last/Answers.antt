use Rattle.std.proofs.Common.{◌≡◌, refl, sym, subst, inl, inr}
use Rattle.std.specs.List.{Contains}
use Rattle.rdf_model.specs.declared.term.Term.{Term}
use Rattle.shape_syntax.proofs.Loops.{gave}
use Rattle.shape_syntax.proofs.subjects.push_unless_last.Goals as goal

pub returns-then-is_last : goal.returns-then-is_last
returns-then-is_last c = λ n. (λ h. inl h, λ h. elim h [ inl k ↦ k | inr e ↦ subst (λ (m : Term). Contains c.args.nodes.now m) e (rw c.as_slice.ensures at (c.is_last.ensures c.if-is_last.true)) ])

pub returns : goal.returns
returns c = gave (λ (n : Term). c.args.node.now ≡ n) c.args.nodes.now c.push.new.self c.args.node.now (rw c.in_ok-clone.ensures.cases at c.in_ok-push.ensures.ok) refl (λ x e. sym e)
