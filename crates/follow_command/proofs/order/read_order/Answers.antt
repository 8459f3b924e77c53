use Rattle.std.proofs.Common.{List, ℕ, map, ap, sym, ◌∙◌, Bor}
use Rattle.std.proofs.lemmas.Slice.Eq.{bytes_eq-Decides}
use Rattle.follow_command.proofs.Ordering.{has_places, ordered, whole_rest}
use Rattle.follow_command.proofs.order.read_order.Goals as goal

pub returns-in-len1-up : goal.returns-in-len1-up
returns-in-len1-up c =
    let items = c.as_slice.result.now in
    let word = (bytes_eq-Decides _ _).0 (sym c.if-eq.ensures) ∙ c.as_slice-2.ensures in
    let places = has_places (λ (p : Bor (List ℕ)). p.now) c.args.text.now c.without_end.result.now items _ c.without_end.ensures (ap (map (λ (p : Bor (List ℕ)). p.now)) c.as_slice.ensures.value ∙ c.in_ok-parts.ensures) c.in-len1-up.len_at_least word in
    ordered (λ (ns : List ℕ). ns) c.numbers_at.result c.args.count c.args.text.now _ _ places (ap (map (λ (p : Bor (List ℕ)). p.now)) (whole_rest items)) c.numbers_at.ensures
