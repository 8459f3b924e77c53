use Rattle.std.proofs.Common.{ℕ, Global, List, Vec, subst, sym}
use Rattle.term_joins.specs.Numbered.{AreBelow}
use Rattle.term_joins.proofs.Assigned.{in_map}
use Rattle.term_joins.proofs.row.read_rows.Goals as goal

pub read_row-requires : goal.read_row-requires
read_row-requires g c =
    let row = c.row-item.result in
    subst (λ (xs : List ℕ). AreBelow (g.N.Names.terms c.args.names.now) xs) (sym c.deref.ensures.value)
    (c.requires row.items (in_map (λ (v : Vec ℕ Global). v.items) c.args.rows.now row (c.loop-row.row-index, c.loop-row-test.true, sym c.row-item.is)))
