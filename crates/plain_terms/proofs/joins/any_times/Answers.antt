use Rattle.std.proofs.Common.{◌≡◌, inl, inr}
use Rattle.std.specs.Prelude.{◌⊎◌}
use Rattle.plain_terms.specs.Relations.{Joins, JoinsOnceOrMore}
use Rattle.plain_terms.proofs.Made.{means_same}
use Rattle.plain_terms.proofs.joins.any_times.Goals as goal

pub returns : goal.returns
returns c = means_same (λ x y. (x ≡ y) ⊎ Joins c.in_ok-chained.chained x y) (λ x y. (x ≡ y) ⊎ JoinsOnceOrMore c.args.relation.now x y) c.in_ok-made.made
    (λ x y. (elim [ inl e ↦ inl e | inr j ↦ inr ((c.in_ok-chained.ensures.joins x y).0 j) ], elim [ inl e ↦ inl e | inr j ↦ inr ((c.in_ok-chained.ensures.joins x y).1 j) ])) c.in_ok-made.ensures
