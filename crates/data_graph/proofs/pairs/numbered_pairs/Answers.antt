use Rattle.std.proofs.Common.{◌≡◌, [], ◌∷◌, List, rules, subst, sym}
use Rattle.std.specs.List.{Contains}
use Rattle.std.proofs.lemmas.List.Elements.{Contains-append_left, Contains-append_right}
use Rattle.collections.proofs.Members.{has_head}
use Rattle.parallel_validate.specs.declared.pairs.CheckedRows.{CheckedRows}
use Rattle.data_graph.specs.Pairs.{numbered}
use Rattle.data_graph.proofs.Moved.{AreMoved, all_moved, next_moved, none_moved}
use Rattle.data_graph.proofs.pairs.numbered_pairs.Goals as goal

pub loop-pair-init : goal.loop-pair-init
loop-pair-init c =
    let f = numbered c.args.planned.now.bound.shapes in
    record {
      moved = subst (λ (cs : List CheckedRows). AreMoved f c.args.pairs c.in_ok-found.found.items cs) (sym c.into_vec-rest.ensures) (none_moved f c.args.pairs c.in_ok-found.found.items c.in_ok-found.ensures.items);
      left = λ k i. subst (λ (cs : List CheckedRows). Contains cs k) c.into_vec-rest.ensures i;
    }

pub numbered_pair-requires : goal.numbered_pair-requires
numbered_pair-requires c =
    c.requires c.in-Some.pair (c.loop-pair.invariant.left c.in-Some.pair (subst (λ (cs : List CheckedRows). Contains cs c.in-Some.pair) (sym c.in-Some.ensures.items) (Contains-append_right c.pop.new.self.items (c.in-Some.pair ∷ []) c.in-Some.pair (has_head c.in-Some.pair []))))

pub loop-pair-preserved : goal.loop-pair-preserved
loop-pair-preserved c = record {
  moved =
      next_moved (numbered c.args.planned.now.bound.shapes) c.args.pairs c.loop-pair.found.items c.push.new.self.items c.loop-pair.rest.items c.pop.new.self.items c.in-Some.pair c.numbered_pair.result
      c.in-Some.ensures.items c.numbered_pair.ensures c.in_ok-push.ensures.items c.loop-pair.invariant.moved;
  left = λ k i. c.loop-pair.invariant.left k (subst (λ (cs : List CheckedRows). Contains cs k) (sym c.in-Some.ensures.items) (Contains-append_left c.pop.new.self.items (c.in-Some.pair ∷ []) k i));
}

pub returns : goal.returns
returns c =
    let none : c.loop-pair.rest.items ≡ [] = search rules in
    all_moved (numbered c.args.planned.now.bound.shapes) c.args.pairs c.loop-pair.found.items c.loop-pair.rest.items none c.loop-pair.invariant.moved
