use Rattle.std.proofs.Common.{◌∙◌, List, [], ◌∷◌, ◌++◌, ap, append_assoc, rules, subst, sym}
use Rattle.std.specs.Prelude.{◌↔◌}
use Rattle.std.specs.Vec.Iter.{into_iter_items}
use Rattle.std.specs.List.{Contains}
use Rattle.shape_model.specs.declared.result_row.ResultRow.{ResultRow}
use Rattle.threaded_listing.specs.declared.visit.NodeRows.{NodeRows}
use Rattle.threaded_listing.proofs.Gathering.{all_done}
use Rattle.kept_validation.specs.Keeping.{IsOfPair}
use Rattle.kept_validation.proofs.Keeping.{HavePairs, node_paired, none_paired}
use Rattle.kept_validation.proofs.whole.with_pairs.Goals as goal

pub loop-node-init : goal.loop-node-init
loop-node-init c = record {
  rest = search rules;
  kept = none_paired c.args.shape c.new-kept.result.items c.new-kept.ensures.items;
}

pub loop-node-preserved : goal.loop-node-preserved
loop-node-preserved c =
    let done = c.loop-node.yielded in
    let node = c.in-Some.node in
    record {
      rest = append_assoc done (node ∷ []) (into_iter_items c.next.new.self) ∙ (ap (λ (ns : List NodeRows). done ++ ns) (sym c.in-Some.ensures.steps.0) ∙ c.loop-node.invariant.rest);
      kept = node_paired c.args.shape done node c.loop-node.kept.items c.in_ok-more.more.items c.append.new.self.items c.in_ok-append.ensures.items c.loop-node.invariant.kept
          (λ k. subst (λ (rs : List ResultRow). IsOfPair c.args.shape node.node rs k ↔ Contains c.in_ok-more.more.items k) c.into_vec.ensures (c.in_ok-more.ensures k));
    }

pub returns : goal.returns
returns c =
    let left = c.loop-node.node-iterator in
    subst (λ (ns : List NodeRows). HavePairs c.args.shape ns c.loop-node.kept.items)
    (all_done c.loop-node.yielded (into_iter_items left) c.args.found.items (sym left.rest.ok.0 ∙ c.in-None.ensures.steps.0) c.loop-node.invariant.rest) c.loop-node.invariant.kept
