use Rattle.std.proofs.Common.{◌≡◌, List, take}
use Rattle.rdf_model.specs.declared.term.Term.{Term}
use Rattle.rdf_model.specs.declared.look.Look.TheVariants.{OutAny}
use Rattle.rdf_model.specs.Numbers.{IsNumbering, term_at}
use Rattle.component_rows.specs.Nodes.{AreNodes}
use Rattle.path_eval.specs.Naming.{AddsLooks}
use Rattle.collections.specs.Listings.{Keeps}
use Rattle.shape_eval.specs.Looks.{ReadsOfSome}
use Rattle.shape_eval.proofs.looks.add_subjects.Given as goal

abbrev pub invariant-loop-node : goal.invariant-loop-node
invariant-loop-node l =
    ((terms : List Term) → IsNumbering terms → AreNodes terms l.nodes → AddsLooks terms (ReadsOfSome (take l.node-index l.nodes) (λ n look. look ≡ OutAny (term_at terms n))) l.fn.footprint l.footprint)
    × Keeps l.fn.footprint l.footprint
