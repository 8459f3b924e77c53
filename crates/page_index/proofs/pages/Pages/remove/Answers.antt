use Rattle.std.proofs.Common.{◌∙◌, sym}
use Rattle.std.specs.Option.{option_map}
use Rattle.std.specs.Arc.{arc_value}
use Rattle.page_index.proofs.Counts.{root-gone, root-absent}
use Rattle.page_index.proofs.pages.Pages.remove.Goals as goal

pub invariant_of-self-then-removed : goal.invariant_of-self-then-removed
invariant_of-self-then-removed g c = root-gone g.K.Ord.cmp g.met.K.Ord.total c.args.key.now c.self.inside.len (option_map arc_value c.self.inside.root) (option_map arc_value c.remove_from.new.root) c.self.invariant c.in_ok-removed.ensures.0 (sym c.if-removed.true ∙ c.in_ok-removed.ensures.1)

pub invariant_of-self-else-removed : goal.invariant_of-self-else-removed
invariant_of-self-else-removed g c = root-absent g.K.Ord.cmp g.met.K.Ord.total c.args.key.now c.self.inside.len (option_map arc_value c.self.inside.root) (option_map arc_value c.remove_from.new.root) c.self.invariant c.in_ok-removed.ensures.0 (sym c.if-removed.false ∙ c.in_ok-removed.ensures.1)
