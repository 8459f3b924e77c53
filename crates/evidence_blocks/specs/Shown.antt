-- What a block shows by itself: its result follows from the triples that it lists.
use Rattle.std.specs.Prelude.{List}
use Rattle.std.specs.List.{All, Contains, flat_map}
use Rattle.collections.specs.Ordered.{IsAscending}
use Rattle.rdf_model.specs.declared.term.Term.{Term}
use Rattle.rdf_model.specs.declared.triple.Triple.{Triple}
use Rattle.rdf_model.specs.declared.look.Look.{Look}
use Rattle.shape_model.specs.NodeLooks.{IsLook}
use Rattle.shape_model.specs.ShapeLooks.{Looks}
use Rattle.evidence_blocks.specs.declared.block.Block.{Block}
use Rattle.evidence_blocks.specs.declared.block.ShownLook.{ShownLook}
use Rattle.evidence_blocks.specs.Blocks.{Gives, HasTriples, looks_in}
use Rattle.evidence_blocks.specs.LookOrder.{look_cmp}

-- the triples under all looks
abbrev pub triples_in : List ShownLook → List Triple
triples_in shown = flat_map (λ (x : ShownLook). x.triples) shown

-- The looks strictly ascend, and under each stand just its triples of the graph. Each look of the shape at a node to which the
-- focus node walks among the listed triples is listed, and by these triples alone the shape gives the result at the focus
-- node, its target.
pub record IsShown (g s : List Triple) (b : Block) : Type 0 where
  pub ascending : IsAscending look_cmp (looks_in b.looks)
  pub triples : All (HasTriples g) b.looks
  pub listed : (look : Look Term) → IsLook (triples_in b.looks) (Looks s b.shape) b.focus look → Contains (looks_in b.looks) look
  pub gives : Gives (triples_in b.looks) s b.row b.shape b.focus
