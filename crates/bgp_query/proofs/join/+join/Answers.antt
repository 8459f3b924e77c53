use Rattle.std.proofs.Common.{◌≡◌, ◌∙◌, ◌<◌, ◌+◌, ◌-◌, ◌*◌, ℕ, List, ◌∷◌, ap, arith, drop, get_or, length, refl, subst, sym, take}
use Rattle.std.proofs.lemmas.Result.{err_from_is_err_and}
use Rattle.rdf_model.specs.declared.ids.Ids.{Ids}
use Rattle.triple_index.specs.Patterns.{AreApart}
use Rattle.bgp_query.specs.declared.pattern.JoinPattern.{JoinPattern}
use Rattle.bgp_query.specs.declared.pattern.Part.TheVariants.{Variable}
use Rattle.bgp_query.specs.declared.trail.BoundVariable.{BoundVariable}
use Rattle.bgp_query.specs.Bindings.{most_bindings}
use Rattle.bgp_query.specs.Trails.{Added, Covers, IsMet, IsRow, IsTrail, IsUnder, Overflows, PatternsBelow}
use Rattle.bgp_query.proofs.Joining.{can_give, covers_none, end_added, end_over, given_added, given_over, not_given, nothing_left, parted, pattern_added, pattern_over, rows_stopped}
use Rattle.bgp_query.proofs.Rows.{first_below, met_more, met_none, met_over, rest_below, rest_covered}
use Rattle.bgp_query.proofs.join.+join.Goals.{join_one-then-branch+in_ok-join_from, join_one-else-branch}
use Rattle.bgp_query.proofs.join.+join.Goals as goal

pub join_each-loop-triple-init : goal.join_each-loop-triple-init
join_each-loop-triple-init g t c = record {
  trail = refl;
  rows = met_none (g.R.Triples.triples c.args.search.now.set.now) c.args.search.now.variables c.args.trail.now.items c.args.pattern.now c.args.rest.now most_bindings c.args.found.now c.args.rows.now.items c.requires.few;
}

pub join_each-join_one-requires : goal.join_each-join_one-requires
join_each-join_one-requires g t c κs within =
    let less : 3 * length c.args.rest.now + 1 < 3 * length c.args.rest.now + 2 = omega arith in
    let same = sym c.loop-triple.invariant.trail in (
      subst (λ (n : ℕ). 3 * length c.args.rest.now + 1 < n) c.decreases less,
      (
        within,
        (
          subst (λ (bs : List BoundVariable). IsTrail c.args.search.now.variables bs) same c.requires.trail,
          (
            c.requires.below,
            (subst (λ (bs : List BoundVariable). Covers c.args.search.now.variables bs (c.args.pattern.now ∷ c.args.rest.now)) same c.requires.covered, c.loop-triple.invariant.rows.few),
          ),
        ),
      ),
    )

pub join_each-returns-in_err-join_one-clause-rows : goal.join_each-returns-in_err-join_one-clause-rows
join_each-returns-in_err-join_one-clause-rows g t c =
    let ids = g.R.Triples.triples c.args.search.now.set.now in
    let n = c.args.search.now.variables in
    let trail = c.args.trail.now.items in
    let d : Ids = record { subject = 0; predicate = 0; object = 0 } in
    let i = c.loop-triple.triple-index in
    let k = err_from_is_err_and c.from_residual.result c.from_residual.ensures.1 in
    rows_stopped (IsMet ids n trail c.args.pattern.now c.args.rest.now c.args.found.now) c.args.rows.now.items c.join_one.new.rows.items c.from_residual.result k.0 c.in_err-join_one.field-0.0 k.1 k.2
    (λ many. met_over ids n trail c.args.pattern.now c.args.rest.now c.args.found.now i d c.requires.apart c.loop-triple-test.true most_bindings c.args.rows.now.items c.loop-triple.rows.items c.join_one.new.rows.items c.loop-triple.invariant.rows
    (subst (λ (bs : List BoundVariable). Overflows most_bindings (IsUnder ids n bs c.args.pattern.now c.args.rest.now (get_or c.args.found.now i d)) c.loop-triple.rows.items c.join_one.new.rows.items) c.loop-triple.invariant.trail (c.in_err-join_one.ensures.rows many)))

pub join_each-loop-triple-preserved : goal.join_each-loop-triple-preserved
join_each-loop-triple-preserved g t c =
    let ids = g.R.Triples.triples c.args.search.now.set.now in
    let n = c.args.search.now.variables in
    let trail = c.args.trail.now.items in
    let d : Ids = record { subject = 0; predicate = 0; object = 0 } in
    let i = c.loop-triple.triple-index in
    record {
      trail = c.in_ok-join_one.ensures.trail ∙ c.loop-triple.invariant.trail;
      rows = met_more ids n trail c.args.pattern.now c.args.rest.now c.args.found.now i d c.requires.apart c.loop-triple-test.true most_bindings c.args.rows.now.items c.loop-triple.rows.items c.join_one.new.rows.items c.loop-triple.invariant.rows
          (subst (λ (bs : List BoundVariable). Added most_bindings (IsUnder ids n bs c.args.pattern.now c.args.rest.now (get_or c.args.found.now i d)) c.loop-triple.rows.items c.join_one.new.rows.items) c.loop-triple.invariant.trail c.in_ok-join_one.ensures.rows);
    }

pub join_from-add_row-requires-clause-covered : goal.join_from-add_row-requires-clause-covered
join_from-add_row-requires-clause-covered g t c =
    covers_none c.args.search.now.variables c.args.trail.now.items c.deref.result.now c.args.left.now c.deref.ensures.value (nothing_left c.args.left.now (omega (arith, c.in-empty.len_below))) c.requires.covered

pub join_from-returns-in_err-add_row-in-empty-clause-rows : goal.join_from-returns-in_err-add_row-in-empty-clause-rows
join_from-returns-in_err-add_row-in-empty-clause-rows g t c =
    let ids = g.R.Triples.triples c.args.search.now.set.now in
    let n = c.args.search.now.variables in
    let k = err_from_is_err_and c.from_residual.result c.from_residual.ensures.1 in
    rows_stopped (IsRow ids n c.args.trail.now.items c.args.left.now) c.args.rows.now.items c.add_row.new.rows.items c.from_residual.result k.0 c.in_err-add_row-in-empty.field-0.0 k.1 k.2
    (λ many. end_over ids n c.args.trail.now.items c.deref.result.now c.args.left.now c.deref.ensures.value (nothing_left c.args.left.now (omega (arith, c.in-empty.len_below))) c.args.rows.now.items c.add_row.new.rows.items (c.in_err-add_row-in-empty.ensures many))

pub join_from-join_each-requires : goal.join_from-join_each-requires
join_from-join_each-requires g t c κs within =
    let left = c.args.left.now in
    let d : JoinPattern ℕ = record { subject = Variable 0; predicate = Variable 0; object = Variable 0 } in
    let rest = take (length left - 1) (drop 1 left) in
    let whole : get_or left 0 d ∷ rest ≡ left = parted left d c.in-len1-up.len_at_least in
    let size = ap (λ (ps : List (JoinPattern ℕ)). length ps) whole in
    let less : 3 * length rest + 2 < 3 * length left = omega (arith, size) in (
      subst (λ (n : ℕ). 3 * length rest + 2 < n) c.decreases less,
      (
        within,
        (
          c.requires.trail,
          (
            subst (λ (ps : List (JoinPattern ℕ)). PatternsBelow c.args.search.now.variables ps) (sym whole) c.requires.below,
            (
              subst (λ (ps : List (JoinPattern ℕ)). Covers c.args.search.now.variables c.args.trail.now.items ps) (sym whole) c.requires.covered,
              (c.requires.few, subst (λ (ts : List Ids). AreApart ts) (sym c.deref-in-len1-up-2.ensures.value) c.in_ok-found-in-len1-up.ensures.apart),
            ),
          ),
        ),
      ),
    )

pub join_from-returns-in_err-join_each-in-len1-up-clause-rows : goal.join_from-returns-in_err-join_each-in-len1-up-clause-rows
join_from-returns-in_err-join_each-in-len1-up-clause-rows g t c =
    let ids = g.R.Triples.triples c.args.search.now.set.now in
    let n = c.args.search.now.variables in
    let left = c.args.left.now in
    let d : JoinPattern ℕ = record { subject = Variable 0; predicate = Variable 0; object = Variable 0 } in
    let k = err_from_is_err_and c.from_residual-in_err-join_each-in-len1-up.result c.from_residual-in_err-join_each-in-len1-up.ensures.1 in
    rows_stopped (IsRow ids n c.args.trail.now.items left) c.args.rows.now.items c.join_each.new.rows.items c.from_residual-in_err-join_each-in-len1-up.result k.0 c.in_err-join_each-in-len1-up.field-0.0 k.1 k.2
    (λ many. pattern_over ids n c.args.trail.now.items c.deref-in-len1-up.result.now left (get_or left 0 d) (take (length left - 1) (drop 1 left)) c.in_ok-found-in-len1-up.found.items c.deref-in-len1-up-2.result.now
    c.deref-in-len1-up.ensures.value (parted left d c.in-len1-up.len_at_least) c.deref-in-len1-up-2.ensures.value c.in_ok-found-in-len1-up.ensures c.args.rows.now.items c.join_each.new.rows.items (c.in_err-join_each-in-len1-up.ensures.rows many))

pub join_from-returns-in_ok-add_row-in-empty-clause-rows : goal.join_from-returns-in_ok-add_row-in-empty-clause-rows
join_from-returns-in_ok-add_row-in-empty-clause-rows g t c =
    end_added (g.R.Triples.triples c.args.search.now.set.now) c.args.search.now.variables c.args.trail.now.items c.deref.result.now c.args.left.now c.deref.ensures.value (nothing_left c.args.left.now (omega (arith, c.in-empty.len_below)))
    c.args.rows.now.items c.add_row.new.rows.items c.in_ok-add_row-in-empty.ensures

pub join_from-returns-in_ok-join_each-in-len1-up-clause-rows : goal.join_from-returns-in_ok-join_each-in-len1-up-clause-rows
join_from-returns-in_ok-join_each-in-len1-up-clause-rows g t c =
    let left = c.args.left.now in
    let d : JoinPattern ℕ = record { subject = Variable 0; predicate = Variable 0; object = Variable 0 } in
    pattern_added (g.R.Triples.triples c.args.search.now.set.now) c.args.search.now.variables c.args.trail.now.items c.deref-in-len1-up.result.now left (get_or left 0 d) (take (length left - 1) (drop 1 left)) c.in_ok-found-in-len1-up.found.items c.deref-in-len1-up-2.result.now
    c.deref-in-len1-up.ensures.value (parted left d c.in-len1-up.len_at_least) c.deref-in-len1-up-2.ensures.value c.in_ok-found-in-len1-up.ensures c.args.rows.now.items c.join_each.new.rows.items c.in_ok-join_each-in-len1-up.ensures.rows

pub join_one-join_from-requires : goal.join_one-join_from-requires
join_one-join_from-requires g t c κs within =
    let n = c.args.search.now.variables in
    let p = c.args.pattern.now in
    let rest = c.args.rest.now in
    let gave = can_give (g.R.Triples.triples c.args.search.now.set.now) n c.args.trail.now.items c.give_triple.new.trail.items p rest c.args.triple c.in_ok-give_triple.field-0 c.in_ok-give_triple.ensures c.if-branch.true in
    let less : 3 * length rest < 3 * length rest + 1 = omega arith in (
      subst (λ (m : ℕ). 3 * length rest < m) c.decreases less,
      (
        within,
        (
          gave.trail n (first_below n p rest c.requires.below) c.requires.trail,
          (
            rest_below n p rest c.requires.below,
            (rest_covered n c.args.trail.now.items c.give_triple.new.trail.items p rest c.args.triple gave c.requires.covered, c.requires.few),
          ),
        ),
      ),
    )

pub join_one-returns-in_err-join_from-clause-rows : goal.join_one-returns-in_err-join_from-clause-rows
join_one-returns-in_err-join_from-clause-rows g t c =
    let ids = g.R.Triples.triples c.args.search.now.set.now in
    let n = c.args.search.now.variables in
    let k = err_from_is_err_and c.from_residual-in_err-join_from.result c.from_residual-in_err-join_from.ensures.1 in
    rows_stopped (IsUnder ids n c.args.trail.now.items c.args.pattern.now c.args.rest.now c.args.triple) c.args.rows.now.items c.join_from.new.rows.items c.from_residual-in_err-join_from.result k.0 c.in_err-join_from.field-0.0 k.1 k.2
    (λ many. given_over ids n c.args.trail.now.items c.give_triple.new.trail.items c.args.pattern.now c.args.rest.now c.args.triple c.in_ok-give_triple.field-0 c.in_ok-give_triple.ensures c.if-branch.true c.args.rows.now.items c.join_from.new.rows.items
    (c.in_err-join_from.ensures.rows many))

pub join_one-returns-clause-rows : goal.join_one-returns-clause-rows
join_one-returns-clause-rows g t c =
    let ids = g.R.Triples.triples c.args.search.now.set.now in
    let n = c.args.search.now.variables in
    let trail = c.args.trail.now.items in
    let p = c.args.pattern.now in
    let rest = c.args.rest.now in
    let rows = c.args.rows.now.items in
    elim c.if-branch.branch [
      | join_one-then-branch+in_ok-join_from w ↦ rw w.rows-is (given_added ids n trail c.give_triple.new.trail.items p rest c.args.triple c.in_ok-give_triple.field-0 c.in_ok-give_triple.ensures w.if-branch.true rows w.join_from.new.rows.items w.in_ok-join_from.ensures.rows)
      | join_one-else-branch w ↦ rw w.rows-is (not_given ids n trail c.give_triple.new.trail.items p rest c.args.triple c.in_ok-give_triple.field-0 c.in_ok-give_triple.ensures w.if-branch.false rows c.requires.few)
    ]
