use Rattle.std.proofs.Common.{◌∙◌, List, ap, subst, sym}
use Rattle.rdf_model.specs.declared.triple.Triple.{Triple}
use Rattle.shape_model.specs.declared.result_row.ResultRow.{ResultRow}
use Rattle.store_model.specs.Blocking.{has_blocking}
use Rattle.blocking.specs.Sources.{HaveShapes}
use Rattle.commit_core.proofs.Outcomes.{listed_shapes, listing_tells}
use Rattle.commit_core.proofs.outcome.is_blocked.Goals as goal

pub has_blocking-requires : goal.has_blocking-requires
has_blocking-requires c =
    let g = c.args.graph.now in
    let rows = c.in_ok-rows.rows.items in
    subst (λ (s : List Triple). HaveShapes s c.deref.result.now) (sym c.shapes.ensures) (subst (λ (rs : List ResultRow). HaveShapes g.shapes rs) (sym c.deref.ensures.value) (listed_shapes g.triples g.shapes rows c.in_ok-rows.ensures))

pub returns : goal.returns
returns c =
    let g = c.args.graph.now in
    let rows = c.in_ok-rows.rows.items in
    let told = c.has_blocking.ensures ∙ ap (λ (s : List Triple). has_blocking c.args.mode s c.deref.result.now) c.shapes.ensures ∙ ap (λ (rs : List ResultRow). has_blocking c.args.mode g.shapes rs) c.deref.ensures.value in
    listing_tells c.args.mode g.triples g.shapes rows c.has_blocking.result c.in_ok-rows.ensures told
