use Rattle.std.proofs.Common.{◌≡◌, ◌∙◌, ◌+◌, ◌-◌, ◌∷◌, ◌++◌, ℕ, List, Option, length, refl, sym, ap, subst, arith, rules}
use Rattle.std.specs.Prelude.{IsSome}
use Rattle.follower.specs.declared.version.Version.{Version}
use Rattle.follower.specs.Followed.{Followed, IsApplied}
use Rattle.follower.specs.Versions.{CanAdvance, left_after}
use Rattle.follower.proofs.Stays.{advanced, applied_so, carried, count_there, left_dropped, moved_taken, one_there, seen}
use Rattle.follower.proofs.following.Follower.advance.Goals as goal

pub move_run-requires-clause-there : goal.move_run-requires-clause-there
move_run-requires-clause-there c =
    let can : CanAdvance (seen c.self.inside.applied.items c.self.inside.kept.items c.self.inside.names) c.args.next c.args.names c.args.run.versions c.args.run.dropped =
    subst (λ (s : Followed). CanAdvance s c.args.next c.args.names c.args.run.versions c.args.run.dropped) (sym c.self.view_is) c.requires in
    let length_is : c.len-moved.result ≡ length c.args.run.versions = search rules in
    let some = ap length can.run.run.versions_are in
    let one : c.len-moved.result - 1 + 1 ≡ length c.args.run.versions = omega (arith, length_is, some) in
    count_there c.self.inside.applied.items c.self.inside.kept.items c.self.inside.versions.items c.self.inside.names c.args.names c.args.next c.args.run.versions c.args.run.dropped c.self.invariant can (c.len-moved.result - 1) one

pub move_run-requires-clause-one : goal.move_run-requires-clause-one
move_run-requires-clause-one c = λ dropped.
    let can : CanAdvance (seen c.self.inside.applied.items c.self.inside.kept.items c.self.inside.names) c.args.next c.args.names c.args.run.versions c.args.run.dropped =
    subst (λ (s : Followed). CanAdvance s c.args.next c.args.names c.args.run.versions c.args.run.dropped) (sym c.self.view_is) c.requires in
    let length_is : c.len-moved.result ≡ length c.args.run.versions = search rules in
    let some = ap length can.run.run.versions_are in
    let one : c.len-moved.result - 1 + 1 ≡ length c.args.run.versions = omega (arith, length_is, some) in
    one_there c.self.inside.applied.items c.self.inside.kept.items c.self.inside.versions.items c.self.inside.names c.args.names c.args.next c.args.run.versions c.args.run.dropped c.self.invariant can (c.len-moved.result - 1) one (subst (λ (o : Option ℕ). IsSome o) c.into_parts-more.ensures.dropped dropped)

pub invariant_of-self-2 : goal.invariant_of-self-2
invariant_of-self-2 c =
    let can : CanAdvance (seen c.self.inside.applied.items c.self.inside.kept.items c.self.inside.names) c.args.next c.args.names c.args.run.versions c.args.run.dropped =
    subst (λ (s : Followed). CanAdvance s c.args.next c.args.names c.args.run.versions c.args.run.dropped) (sym c.self.view_is) c.requires in
    let length_is : c.len-moved.result ≡ length c.args.run.versions = search rules in
    let some = ap length can.run.run.versions_are in
    let one : c.len-moved.result - 1 + 1 ≡ length c.args.run.versions = omega (arith, length_is, some) in
    let taken = moved_taken c.self.inside.applied.items c.self.inside.kept.items c.self.inside.versions.items c.self.inside.names c.args.names c.args.next c.args.run.versions c.args.run.dropped c.self.invariant can (c.len-moved.result - 1) one in
    let rest = left_dropped c.self.inside.applied.items c.self.inside.kept.items c.self.inside.versions.items c.self.inside.names c.args.names c.args.next c.args.run.versions c.args.run.dropped c.self.invariant can (c.len-moved.result - 1) one in
    let more : c.append.new.self.items ≡ c.self.inside.versions.items ++ c.into_parts-more.result.0.items = search rules in
    carried (c.self.inside.applied.items ++ c.args.next ∷ can.run.moved) c.move_run.new.applied.items (left_after c.args.run.dropped can.run.left) c.move_run.new.kept.items
    (c.self.inside.versions.items ++ c.args.run.versions) c.append.new.self.items c.args.names
    (c.move_run.ensures.applied ∙ (λ k. c.reserve.ensures.items k ++ c.args.next ∷ taken k))
    (c.move_run.ensures.kept ∙ (λ k. left_after (c.into_parts-more.ensures.dropped k) (rest k)))
    (more ∙ ap (λ (xs : List Version). c.self.inside.versions.items ++ xs) c.into_parts-more.ensures.versions)
    (advanced c.self.inside.applied.items c.self.inside.kept.items c.self.inside.versions.items c.self.inside.names c.args.names c.args.next c.args.run.versions c.args.run.dropped c.self.invariant can)

pub returns-clause-ok : goal.returns-clause-ok
returns-clause-ok c =
    let can : CanAdvance (seen c.self.inside.applied.items c.self.inside.kept.items c.self.inside.names) c.args.next c.args.names c.args.run.versions c.args.run.dropped =
    subst (λ (s : Followed). CanAdvance s c.args.next c.args.names c.args.run.versions c.args.run.dropped) (sym c.self.view_is) c.requires in
    let length_is : c.len-moved.result ≡ length c.args.run.versions = search rules in
    let some = ap length can.run.run.versions_are in
    let one : c.len-moved.result - 1 + 1 ≡ length c.args.run.versions = omega (arith, length_is, some) in
    let taken = moved_taken c.self.inside.applied.items c.self.inside.kept.items c.self.inside.versions.items c.self.inside.names c.args.names c.args.next c.args.run.versions c.args.run.dropped c.self.invariant can (c.len-moved.result - 1) one in
    let rest = left_dropped c.self.inside.applied.items c.self.inside.kept.items c.self.inside.versions.items c.self.inside.names c.args.names c.args.next c.args.run.versions c.args.run.dropped c.self.invariant can (c.len-moved.result - 1) one in
    let new : Followed = record { applied = c.move_run.new.applied.items; kept = c.move_run.new.kept.items; terms = c.args.names.terms } in
    let so : IsApplied (seen c.self.inside.applied.items c.self.inside.kept.items c.self.inside.names) c.args.next c.args.run.dropped new =
    applied_so c.self.inside.applied.items c.self.inside.kept.items c.self.inside.versions.items c.self.inside.names c.args.names c.args.next c.args.run.versions c.args.run.dropped c.self.invariant can new
    (c.move_run.ensures.applied ∙ (λ k. c.reserve.ensures.items k ++ c.args.next ∷ taken k))
    (c.move_run.ensures.kept ∙ (λ k. left_after (c.into_parts-more.ensures.dropped k) (rest k))) refl in
    subst (λ (s : Followed). IsApplied s c.args.next c.into_parts-more.result.1 new) c.self.view_is
    (subst (λ (o : Option ℕ). IsApplied (seen c.self.inside.applied.items c.self.inside.kept.items c.self.inside.names) c.args.next o new) (sym c.into_parts-more.ensures.dropped) so)
