use Rattle.std.proofs.Common.{◌+◌, ◌*◌, take}
use Rattle.plain_terms.specs.Ways.{AreRelationsAt}
use Rattle.plain_terms.proofs.reading.+relations.Given as goal

abbrev pub decreases-relation_at : goal.decreases-relation_at
decreases-relation_at l = 5 * l.levels

abbrev pub decreases-relation_below : goal.decreases-relation_below
decreases-relation_below l = 5 * l.levels + 4

abbrev pub decreases-offered_relation : goal.decreases-offered_relation
decreases-offered_relation l = 5 * l.levels + 3

abbrev pub decreases-listed_relation : goal.decreases-listed_relation
decreases-listed_relation l = 5 * l.levels + 2

abbrev pub decreases-relations_at : goal.decreases-relations_at
decreases-relations_at l = 5 * l.levels + 1

abbrev pub decreases-modified_relation : goal.decreases-modified_relation
decreases-modified_relation l = 5 * l.levels + 1

abbrev pub invariant-relations_at-loop-node : goal.invariant-relations_at-loop-node
invariant-relations_at-loop-node l = AreRelationsAt l.graph l.shapes (take l.node-index l.nodes) l.levels l.relations.items
