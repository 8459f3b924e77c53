use Rattle.std.proofs.Common.{◌≡◌, ℕ, length, subst, arith, refl, Some}
use Rattle.std.specs.Prelude.{◌↔◌, slice_get}
use Rattle.std.specs.List.{Contains}
use Rattle.std.proofs.lemmas.Option.{slice_get_read}
use Rattle.rdf_model.specs.declared.triple.Triple.{Triple}
use Rattle.shape_syntax.proofs.Items.{get_in}
use Rattle.shape_references.specs.Bundles.{IsEdge}
use Rattle.shape_references.proofs.BoundChains.{edge_next}
use Rattle.shape_references.proofs.edges.all_edges.Goals as goal

pub push_edges-requires-clause-bundle : goal.push_edges-requires-clause-bundle
push_edges-requires-clause-bundle c =
    let w = c.index-bundles-place.result in
    let got : slice_get c.args.bundles.now c.loop-place.place ≡ Some w = slice_get_read c.args.bundles.now _ c.loop-place.place w refl (omega arith) c.index-bundles-place.is in
    λ n h. (c.requires.members n).1 (w, get_in c.args.bundles.now c.loop-place.place w got, h)

pub loop-place-preserved : goal.loop-place-preserved
loop-place-preserved c =
    let w = c.index-bundles-place.result in
    let got : slice_get c.args.bundles.now c.loop-place.place ≡ Some w = slice_get_read c.args.bundles.now _ c.loop-place.place w refl (omega arith) c.index-bundles-place.is in
    edge_next c.args.nodes.now c.args.bundles.now c.loop-place.place w c.loop-place.edges c.push_edges.new.edges got c.loop-place.invariant c.in_ok-push_edges.ensures

pub returns : goal.returns
returns c =
    let all : c.loop-place.place ≡ length c.args.bundles.now = omega arith in
    subst (λ (k : ℕ). (t : Triple) → Contains c.loop-place.edges t ↔ IsEdge c.args.nodes.now c.args.bundles.now k t) all c.loop-place.invariant
