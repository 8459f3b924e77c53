use Rattle.std.proofs.Common.{◌∙◌, ap, subst, sym, length}
use Rattle.std.specs.Prelude.{Bool, List}
use Rattle.triple_table.specs.Ranks.{AreRanks, AreWithin, Placed, placed_marked}
use Rattle.triple_table.proofs.Ranking.{all_within, ranking}
use Rattle.triple_table.proofs.ranks.ranking_of.Goals as goal

pub ranks_of-requires : goal.ranks_of-requires
ranks_of-requires c =
    subst (λ (ps : List Placed). AreWithin (length c.args.terms.now) ps) (sym c.deref-2.ensures.value)
    (all_within c.beginning_of-beginning.result.now c.deref.result.now c.args.terms.now c.in_ok-placed.placed.items c.in_ok-sorted.sorted.items c.in_ok-placed.ensures.placed c.in_ok-sorted.ensures)

pub returns : goal.returns
returns c =
    let placed = c.in_ok-placed.ensures.placed ∙ ap (λ (marks : List Bool). placed_marked c.beginning_of-beginning.result.now marks c.args.terms.now) c.deref.ensures.value in
    ranking c.beginning_of-beginning.result.now c.in_ok-marks.marks.items c.args.terms.now c.args.triples.now c.in_ok-placed.placed.items c.in_ok-sorted.sorted.items c.in_ok-ranks.ranks.items c.requires.numbering c.in_ok-marks.ensures.marks placed c.in_ok-placed.ensures.bytes c.in_ok-sorted.ensures c.in_ok-ranks.ensures.long
    (subst (λ (ps : List Placed). AreRanks ps (length ps) c.in_ok-ranks.ranks.items) c.deref-2.ensures.value c.in_ok-ranks.ensures.ranks)
