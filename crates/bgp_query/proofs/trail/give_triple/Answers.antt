use Rattle.std.proofs.Common.{Bool, subst}
use Rattle.bgp_query.specs.Trails.{Gave}
use Rattle.bgp_query.proofs.Trailing.{all_parts, no_predicate, no_subject}
use Rattle.bgp_query.proofs.trail.give_triple.Goals as goal

pub returns-then-not-branch : goal.returns-then-not-branch
returns-then-not-branch c = no_subject c.args.pattern.now c.args.triple c.args.trail.now.items c.give.new.trail.items
    (subst (λ (b : Bool). Gave c.args.trail.now.items c.give.new.trail.items c.args.pattern.now.subject c.args.triple.subject b) c.if-not-branch.true c.in_ok-give.ensures)

pub returns-then-not-branch-2 : goal.returns-then-not-branch-2
returns-then-not-branch-2 c = no_predicate c.args.pattern.now c.args.triple c.args.trail.now.items c.give.new.trail.items c.give-2.new.trail.items
    (subst (λ (b : Bool). Gave c.args.trail.now.items c.give.new.trail.items c.args.pattern.now.subject c.args.triple.subject b) c.if-not-branch.false c.in_ok-give.ensures)
    (subst (λ (b : Bool). Gave c.give.new.trail.items c.give-2.new.trail.items c.args.pattern.now.predicate c.args.triple.predicate b) c.if-not-branch-2.true c.in_ok-give-2.ensures)

pub returns : goal.returns
returns c = all_parts c.args.pattern.now c.args.triple c.args.trail.now.items c.give.new.trail.items c.give-2.new.trail.items c.give-3.new.trail.items
    (subst (λ (b : Bool). Gave c.args.trail.now.items c.give.new.trail.items c.args.pattern.now.subject c.args.triple.subject b) c.if-not-branch.false c.in_ok-give.ensures)
    (subst (λ (b : Bool). Gave c.give.new.trail.items c.give-2.new.trail.items c.args.pattern.now.predicate c.args.triple.predicate b) c.if-not-branch-2.false c.in_ok-give-2.ensures)
    c.in_ok-give-3.field-0 c.in_ok-give-3.ensures
