use Rattle.std.proofs.Common.{◌∙◌, [], List, refl, sym, ap, subst}
use Rattle.std.specs.List.{AllByRecursion}
use Rattle.record_text.specs.declared.record.Record.{Record}
use Rattle.follower.specs.declared.version.Outcome.{Outcome}
use Rattle.follower.specs.Followed.{Followed}
use Rattle.follower.specs.Numbered.{IsNamedRecord}
use Rattle.follower.specs.Records.{data_after, data_of}
use Rattle.follower.specs.Versions.{AreNamesWith, Follows}
use Rattle.follower.proofs.Sequences.{all_ascends, data_ascends}
use Rattle.follower.proofs.Stays.{all_stay, can_advance, newest_stays}
use Rattle.follower.proofs.following.Follower.apply.Goals as goal

pub version_after-requires-clause-numbered : goal.version_after-requires-clause-numbered
version_after-requires-clause-numbered c =
    (newest_stays c.args.self.now c.args.names c.args.next c.in_ok-newest.newest c.version.result c.requires.names c.version.ensures.number c.in_ok-newest.ensures).0.numbered

pub run_on-requires-clause-named : goal.run_on-requires-clause-named
run_on-requires-clause-named c =
    subst (λ (rs : List Record). AllByRecursion (IsNamedRecord c.args.names.terms) rs) (sym c.deref.ensures.value)
    (all_stay c.self.inside.names c.args.names c.self.inside.applied.items c.self.inside.kept.items c.self.inside.kept.items c.args.next
    (subst (λ (s : Followed). AreNamesWith s c.args.next c.args.names) (sym c.self.view_is) c.requires.names) c.self.invariant.named)

pub advance-requires : goal.advance-requires
advance-requires c =
    let s = c.args.self.now in
    let newest = newest_stays s c.args.names c.args.next c.in_ok-newest.newest c.version.result c.requires.names c.version.ensures.number c.in_ok-newest.ensures in
    let g = data_of s.applied in
    let follows = subst (λ (o : Outcome). Follows c.args.names.terms g c.in_ok-newest.newest.shapes c.args.next o) c.in-Next.is (c.in_ok-triple.ensures.outcome g (all_ascends [] s.applied tt) newest.0) in
    let run = c.in_ok-run-in-Next.ensures (data_after g c.args.next) (data_ascends g c.args.next (all_ascends [] s.applied tt)) follows.1.0 in
    can_advance s c.args.names c.args.next c.in_ok-newest.newest c.in-Next.first c.deref.result.now c.in_ok-run-in-Next.run'.versions c.in_ok-run-in-Next.run'.dropped
    c.requires.follows c.requires.names newest follows (c.deref.ensures.value ∙ ap (λ (t : Followed). t.kept) c.self.view_is) run

pub returns-in-Misfit-clause-ok : goal.returns-in-Misfit-clause-ok
returns-in-Misfit-clause-ok c =
    let s = c.args.self.now in
    let newest = newest_stays s c.args.names c.args.next c.in_ok-newest.newest c.version.result c.requires.names c.version.ensures.number c.in_ok-newest.ensures in
    let g = data_of s.applied in
    let least = subst (λ (o : Outcome). Follows c.args.names.terms g c.in_ok-newest.newest.shapes c.args.next o) c.in-Misfit.is (c.in_ok-triple.ensures.outcome g (all_ascends [] s.applied tt) newest.0) in
    (c.requires.taken, c.requires.follows, refl, least, refl)

pub returns-in_ok-dropped-in-Next-clause-ok : goal.returns-in_ok-dropped-in-Next-clause-ok
returns-in_ok-dropped-in-Next-clause-ok c =
    let s = c.args.self.now in
    let newest = newest_stays s c.args.names c.args.next c.in_ok-newest.newest c.version.result c.requires.names c.version.ensures.number c.in_ok-newest.ensures in
    let g = data_of s.applied in
    let follows = subst (λ (o : Outcome). Follows c.args.names.terms g c.in_ok-newest.newest.shapes c.args.next o) c.in-Next.is (c.in_ok-triple.ensures.outcome g (all_ascends [] s.applied tt) newest.0) in
    (c.requires.taken, c.requires.follows, follows.0, c.version-version.ensures.number, c.in_ok-dropped-in-Next.ensures.ok)
