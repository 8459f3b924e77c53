use Rattle.std.proofs.Common.{◌≡◌, ◌∙◌, List, sym, subst}
use Rattle.rdf_model.specs.declared.term.Term.{Term}
use Rattle.collections.specs.Listings.{IsListing}
use Rattle.rdf_model.specs.Terms.{term_cmp}
use Rattle.shape_properties.specs.Syntax.{IsShape}
use Rattle.shape_sizes.specs.Counted.{HaveNames}
use Rattle.shape_sizes.specs.Sizes.{size_limit}
use Rattle.shape_sizes.proofs.Weights.{are_weights}
use Rattle.shape_sizes.proofs.sizes.sizes_of.Goals as goal

pub named_parents-requires-clause-shapes : goal.named_parents-requires-clause-shapes
named_parents-requires-clause-shapes c = subst (λ (ns : List Term). IsListing term_cmp (IsShape c.args.graph.now) ns) (sym c.as_slice.ensures.value) c.requires.survey.shapes

pub all_places-requires-clause-parents : goal.all_places-requires-clause-parents
all_places-requires-clause-parents c = subst (λ (ps : List Term). HaveNames c.args.graph.now ps) (sym c.as_slice-2.ensures.value) c.in_ok-parents.ensures

pub returns : goal.returns
returns c = are_weights c.args.graph.now (λ m w. w ≡ 1) (λ n a b e f. e ∙ sym f) c.in_ok-parents.parents.items c.in_ok-places.places (rw c.as_slice-2.ensures.value at c.in_ok-places.ensures) size_limit c.in_ok-table.table
    (rw c.most.ensures.limit at (rw c.as_slice-3.ensures at c.in_ok-table.ensures))
