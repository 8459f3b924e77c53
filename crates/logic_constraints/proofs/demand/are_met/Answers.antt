use Rattle.std.proofs.Common.{ℕ, List, Bool, length, map, sym, subst}
use Rattle.std.specs.Prelude.{◌↔◌, IsTrue}
use Rattle.std.proofs.lemmas.List.{length-map}
use Rattle.component_rows.proofs.Told.{tells_more, tells_all}
use Rattle.logic_constraints.specs.Demands.{IsMet}
use Rattle.component_rows.specs.Conformance.{yes_at}
use Rattle.logic_constraints.proofs.demand.are_met.Goals as goal

pub loop-at-preserved : goal.loop-at-preserved
loop-at-preserved c =
    let lists : List (List Bool) = map (λ a. a.items) c.args.answers.now in
    tells_more (λ i. IsMet c.args.demand (yes_at i lists) (length lists)) c.loop-at.met.items c.push.new.self.items c.loop-at.at c.is_met.result c.in_ok-push.ensures.items c.loop-at.invariant
    (subst (λ (p : ℕ × ℕ). IsTrue c.is_met.result ↔ IsMet c.args.demand p.0 p.1) (λ i. (c.count_yes.ensures i, sym (length-map c.args.answers.now (λ a. a.items)) i)) c.is_met.ensures)

pub returns : goal.returns
returns c =
    let lists : List (List Bool) = map (λ a. a.items) c.args.answers.now in
    tells_all (λ i. IsMet c.args.demand (yes_at i lists) (length lists)) c.loop-at.met.items c.loop-at.at c.args.places c.loop-at-test.false c.loop-at.auto.at-end c.loop-at.invariant
