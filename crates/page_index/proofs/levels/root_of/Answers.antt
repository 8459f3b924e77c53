use Rattle.std.proofs.Common.{◌≡◌, length, subst}
use Rattle.std.specs.Arc.{arc_value}
use Rattle.std.specs.Prelude.{IfOk}
use Rattle.page_index.proofs.Built.{built_less, built_sound}
use Rattle.page_index.proofs.levels.root_of.Goals as goal

pub root_over-requires-clause-sound : goal.root_over-requires-clause-sound
root_over-requires-clause-sound g c = built_sound g.K.Ord.cmp 1 (length c.args.keys.now) c.args.keys.now c.in_ok-leaves.field-0.items c.in_ok-leaves.ensures c.requires

pub root_over-requires-clause-some : goal.root_over-requires-clause-some
root_over-requires-clause-some g c = (built_less 1 c.args.keys.now (length c.args.keys.now) c.in_ok-leaves.field-0.items c.in_ok-leaves.ensures).0

pub returns : goal.returns
returns g c = let built = c.in_ok-leaves.ensures in subst (λ ks. IfOk c.root_over.result (λ root. (arc_value root).keys ≡ ks)) built.keys_are c.root_over.ensures
