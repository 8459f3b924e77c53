use Rattle.std.proofs.Common.{List, sym, subst}
use Rattle.collections.specs.Listings.{IsListing}
use Rattle.rdf_model.specs.declared.term.Term.{Term}
use Rattle.rdf_model.specs.Terms.{term_cmp}
use Rattle.shape_properties.specs.Syntax.{IsShape}
use Rattle.shape_sizes.specs.Counted.{HaveNames}
use Rattle.shape_sizes.specs.PathLooks.{IsCappedLook}
use Rattle.shape_model.specs.Limits.{looks_limit}
use Rattle.shape_sizes.proofs.LookWeights.{looks_weights, one_capped}
use Rattle.shape_sizes.proofs.Weights.{are_weights}
use Rattle.shape_sizes.proofs.looks.looks_of_results.Goals as goal

pub named_parents-requires-clause-shapes : goal.named_parents-requires-clause-shapes
named_parents-requires-clause-shapes c = subst (λ (ns : List Term). IsListing term_cmp (IsShape c.args.graph.now) ns) (sym c.as_slice.ensures.value) c.requires.survey.shapes

pub with_stand_ins-requires-clause-parents : goal.with_stand_ins-requires-clause-parents
with_stand_ins-requires-clause-parents c = subst (λ (ps : List Term). HaveNames c.args.graph.now ps) (sym c.as_slice-2.ensures.value) c.in_ok-parents.ensures

pub returns : goal.returns
returns c = looks_weights c.args.graph.now c.in_ok-table.table
    (are_weights c.args.graph.now (IsCappedLook c.args.graph.now) (one_capped c.args.graph.now) c.in_ok-parents.parents.items c.in_ok-places.places (rw c.as_slice-2.ensures.value at c.in_ok-places.ensures) looks_limit c.in_ok-table.table
    (rw c.most_looks.ensures.limit at (rw c.as_slice-3.ensures at c.in_ok-table.ensures)))
