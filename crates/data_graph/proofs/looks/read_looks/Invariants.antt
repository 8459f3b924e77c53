use Rattle.std.proofs.Common.{◌≡◌, map, take}
use Rattle.path_eval.specs.Naming.{look_of}
use Rattle.data_graph.proofs.looks.read_looks.Given as goal

abbrev pub invariant-loop-look : goal.invariant-loop-look
invariant-loop-look l = l.named.items ≡ map (look_of l.names.terms) (take l.look-index l.looks)
