use Rattle.std.proofs.Common.{◌∙◌, List, [], ◌∷◌, ◌++◌, ap, append_assoc, rules, subst, sym}
use Rattle.std.specs.Vec.Iter.{into_iter_items}
use Rattle.threaded_listing.specs.declared.visit.NodeRows.{NodeRows}
use Rattle.threaded_listing.specs.declared.visit.PermittedVisit.{PermittedVisit}
use Rattle.threaded_listing.specs.ByNode.{HaveResults}
use Rattle.threaded_listing.specs.Shares.{nodes_of}
use Rattle.threaded_listing.proofs.Gathering.{all_done, at_one_more}
use Rattle.threaded_listing.proofs.nodes.rows_at_share.Goals as goal

pub loop-visit-init : goal.loop-visit-init
loop-visit-init g c =
    let e = c.args.evaluation.now in
    record {
      rest = search rules;
      found = subst (λ (fs : List NodeRows). HaveResults e.terms e.ids e.shapes c.args.shape [] fs) (sym c.in_ok-found.ensures.items) tt;
    }

pub loop-visit-preserved : goal.loop-visit-preserved
loop-visit-preserved g c =
    let e = c.args.evaluation.now in
    let done = c.loop-visit.yielded in
    let v = c.in-Some.visit in
    record {
      rest = append_assoc done (v ∷ []) (into_iter_items c.next.new.self) ∙ (ap (λ (vs : List PermittedVisit). done ++ vs) (sym c.in-Some.ensures.steps.0) ∙ c.loop-visit.invariant.rest);
      found = at_one_more e.terms e.ids e.shapes c.args.shape done v c.loop-visit.found.items c.push.new.self.items c.in_ok-rows.rows c.in_ok-push.ensures.items c.loop-visit.invariant.found c.in_ok-rows.ensures;
    }

pub returns : goal.returns
returns g c =
    let e = c.args.evaluation.now in
    let left = c.loop-visit.visit-iterator in
    subst (λ (vs : List PermittedVisit). HaveResults e.terms e.ids e.shapes c.args.shape (nodes_of vs) c.loop-visit.found.items)
    (all_done c.loop-visit.yielded (into_iter_items left) c.args.share.visits.items (sym left.rest.ok.0 ∙ c.in-None.ensures.steps.0) c.loop-visit.invariant.rest) c.loop-visit.invariant.found
