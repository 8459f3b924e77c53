-- Evidence of a result: which shape gives it where, and the triples of the data graph by which it does.
use Rattle.std.specs.Prelude.{◌≢◌, List, map}
use Rattle.std.specs.List.{All, Contains}
use Rattle.std.specs.declared.cmp.Ordering.{Ordering}
use Rattle.std.specs.declared.cmp.Ordering.TheVariants.{Greater}
use Rattle.std.specs.Ordering.{ordering_then}
use Rattle.collections.specs.Listings.{IsListing}
use Rattle.rdf_model.specs.declared.term.Term.{Term}
use Rattle.rdf_model.specs.declared.triple.Triple.{Triple}
use Rattle.rdf_model.specs.declared.look.Look.{Look}
use Rattle.rdf_model.specs.Terms.{term_cmp, triple_cmp}
use Rattle.shape_model.specs.declared.result_row.ResultRow.{ResultRow}
use Rattle.shape_model.specs.Looks.{Matches}
use Rattle.shape_model.specs.NodeLooks.{IsLook}
use Rattle.shape_model.specs.ShapeLooks.{Looks}
use Rattle.shape_model.specs.Targets.{Target}
use Rattle.shape_model.specs.Validation.{At}
use Rattle.evidence_blocks.specs.declared.block.Block.{Block}
use Rattle.evidence_blocks.specs.declared.block.ShownLook.{ShownLook}
use Rattle.evidence_blocks.specs.LookOrder.{look_cmp}

-- the shape gives the result at f, which is one of its targets (SHACL 3.4)
abbrev pub Gives : List Triple → List Triple → ResultRow → Term → Term → Type 0
Gives g s r shape f = Target g s shape f × At g s shape f r

-- by shape, then by focus node
abbrev pub aim_cmp : Term → Term → Term → Term → Ordering
aim_cmp shape f other h = ordering_then (term_cmp shape other) (term_cmp f h)

-- the least shape and focus node that give the result
pub record IsLeastAim (g s : List Triple) (r : ResultRow) (shape f : Term) : Type 0 where
  pub gives : Gives g s r shape f
  pub least : (other h : Term) → Gives g s r other h → aim_cmp shape f other h ≢ Greater

-- under the look stand just the triples of the graph that match it, in the order of triples
abbrev pub HasTriples : List Triple → ShownLook → Type 0
HasTriples g x = IsListing triple_cmp (λ t. Contains g t × Matches x.look t) x.triples

abbrev pub looks_in : List ShownLook → List (Look Term)
looks_in shown = map (λ (x : ShownLook). x.look) shown

-- The block is evidence of its result: it names the least shape and focus node that give it, it lists just the looks of
-- that shape at each node to which the focus node walks, in order, and under each its triples.
pub record IsEvidence (g s : List Triple) (b : Block) : Type 0 where
  pub aim : IsLeastAim g s b.row b.shape b.focus
  pub looks : IsListing look_cmp (IsLook g (Looks s b.shape) b.focus) (looks_in b.looks)
  pub triples : All (HasTriples g) b.looks
