use Rattle.std.proofs.Common.{◌-◌, length}
use Rattle.shape_syntax.proofs.Classes.{AreClasses}
use Rattle.shape_syntax.proofs.Pigeonholes.{AreDistinct}
use Rattle.shape_syntax.proofs.instance.classes_of.Given as goal

abbrev pub invariant-loop-class : goal.invariant-loop-class
invariant-loop-class l = record { are_classes : AreClasses l.graph l.node l.classes; distinct : AreDistinct l.classes }

abbrev pub decreases-loop-class : goal.decreases-loop-class
decreases-loop-class l = length l.graph - length l.classes
