use Rattle.std.proofs.Common.{◌≡◌, refl, sym, subst, arith}
use Rattle.rdf_model.specs.declared.term.Term.{Term}
use Rattle.shape_model.specs.Triples.{IsMember}
use Rattle.shape_syntax.specs.Gathering.{Gives}
use Rattle.shape_syntax.proofs.Scans.{contains_member, member_contains}
use Rattle.shape_syntax.proofs.Loops.{gathered_none, gathered_next, gathered_all, gave, gave_as}
use Rattle.shape_properties.proofs.shapes.push_each.Goals as goal

pub loop-member-init : goal.loop-member-init
loop-member-init c = gathered_none (λ (m n : Term). m ≡ n) c.args.members.now c.args.nodes.now

pub loop-member-preserved : goal.loop-member-preserved
loop-member-preserved c = gathered_next (λ (m n : Term). m ≡ n) c.args.members.now c.loop-member.member-index c.member-item.result c.args.nodes.now c.loop-member.nodes c.push.new.self (omega arith) c.member-item.is c.loop-member.invariant
    (gave (λ (n : Term). c.member-item.result ≡ n) c.loop-member.nodes c.push.new.self c.member-item.result (rw c.in_ok-clone.ensures.cases at c.in_ok-push.ensures.ok) refl (λ x e. sym e))

pub returns : goal.returns
returns c = gave_as (λ (n : Term). Gives (λ (m k : Term). m ≡ k) c.args.members.now n) (λ (n : Term). IsMember c.args.members.now n) c.args.nodes.now c.loop-member.nodes
    (λ n. (λ h. subst (λ (k : Term). IsMember c.args.members.now k) h.2 (contains_member c.args.members.now h.0 h.1), λ h. (n, member_contains c.args.members.now n h, refl)))
    (gathered_all (λ (m n : Term). m ≡ n) c.args.members.now c.loop-member.member-index c.args.nodes.now c.loop-member.nodes (omega arith) c.loop-member.invariant)
