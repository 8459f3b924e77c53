use Rattle.std.proofs.Common.{List, length, subst, sym, ◌/◌}
use Rattle.collections.specs.Ordered.{IsAscending}
use Rattle.page_tree.proofs.Sides.{ascending-take, ascending-drop}
use Rattle.page_tree.proofs.parts.leaf_pair.Goals as goal

pub leaf_entry-requires-2-clause-ascending : goal.leaf_entry-requires-2-clause-ascending
leaf_entry-requires-2-clause-ascending g c = subst (λ (ks : List g.row.K.Denot). IsAscending g.K.Ord.cmp ks) (sym c.split_at.ensures.front) (ascending-take g.K.Ord.cmp (length c.args.keys.now / 2) c.args.keys.now c.requires.ascending)

pub leaf_entry-requires-3-clause-ascending : goal.leaf_entry-requires-3-clause-ascending
leaf_entry-requires-3-clause-ascending g c = subst (λ (ks : List g.row.K.Denot). IsAscending g.K.Ord.cmp ks) (sym c.split_at.ensures.back) (ascending-drop g.K.Ord.cmp (length c.args.keys.now / 2) c.args.keys.now c.requires.ascending)
