use Rattle.std.proofs.Common.{◌≡◌, map, take}
use Rattle.path_eval.specs.Naming.{look_of}
use Rattle.result_evidence.proofs.looks.listed_looks.Given as goal

abbrev pub invariant-loop-look : goal.invariant-loop-look
invariant-loop-look g l = l.listed.items ≡ map (look_of (g.N.Names.terms l.names)) (take l.look-index l.looks)
