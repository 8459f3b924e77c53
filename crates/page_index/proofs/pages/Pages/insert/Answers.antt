use Rattle.std.proofs.Common.{◌∙◌, sym}
use Rattle.std.specs.Option.{option_map}
use Rattle.std.specs.Arc.{arc_value}
use Rattle.page_index.proofs.Counts.{root-new, root-there}
use Rattle.page_index.proofs.pages.Pages.insert.Goals as goal

pub invariant_of-self-then-added : goal.invariant_of-self-then-added
invariant_of-self-then-added g c = root-new g.K.Ord.cmp g.met.K.Ord.total c.args.key c.self.inside.len (option_map arc_value c.self.inside.root) (option_map arc_value c.insert_into.new.root) c.self.invariant c.in_ok-added.ensures.0 (sym c.if-added.true ∙ c.in_ok-added.ensures.1)

pub invariant_of-self-else-added : goal.invariant_of-self-else-added
invariant_of-self-else-added g c = root-there g.K.Ord.cmp g.met.K.Ord.total c.args.key c.self.inside.len (option_map arc_value c.self.inside.root) (option_map arc_value c.insert_into.new.root) c.self.invariant c.in_ok-added.ensures.0 (sym c.if-added.false ∙ c.in_ok-added.ensures.1)
