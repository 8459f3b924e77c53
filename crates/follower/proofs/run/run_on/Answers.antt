use Rattle.std.proofs.Common.{◌∙◌, ◌+◌, [], ◌∷◌, ◌++◌, List, take, refl, ap, subst, arith}
use Rattle.rdf_model.specs.declared.triple.Triple.{Triple}
use Rattle.follower.specs.declared.version.Outcome.{Outcome}
use Rattle.follower.specs.declared.version.Version.{Version}
use Rattle.follower.specs.Records.{data_after, data_from, shapes_after}
use Rattle.follower.specs.Versions.{Follows, IsNumberedOutcome, IsVersion}
use Rattle.follower.proofs.Misfits.{not_fit}
use Rattle.follower.proofs.Sequences.{all_ascends}
use Rattle.follower.specs.Numbered.{IsNamedRecord}
use Rattle.follower.proofs.Placed.{at_place}
use Rattle.follower.proofs.Runs.{run_done, run_gap, run_misfit, run_next}
use Rattle.follower.proofs.run.run_on.Goals as goal

pub returns-then-next-newest : goal.returns-then-next-newest
returns-then-next-newest c = λ g a x.
    run_gap c.args.names.now.terms c.args.number c.loop-next.newest c.loop-next.next-index g c.args.first.now c.loop-next.current c.args.kept.now c.next-item.result c.loop-next.versions
    (c.loop-next.invariant.far g a x) c.loop-next-test.true c.next-item.is c.loop-next.invariant.newest c.if-next-newest.true

pub version_after-requires-clause-named : goal.version_after-requires-clause-named
version_after-requires-clause-named c =
    at_place (IsNamedRecord c.args.names.now.terms) c.args.kept.now c.loop-next.next-index c.next-item.result c.loop-next-test.true c.next-item.is c.requires.named

pub returns-in-Misfit : goal.returns-in-Misfit
returns-in-Misfit c = λ g a x.
    let terms = c.args.names.now.terms in
    let next = c.next-item.result in
    let s = c.loop-next.invariant.far g a x in
    let before = take c.loop-next.next-index c.args.kept.now in
    let h = data_from g before in
    let least = subst (λ (o : Outcome). Follows terms h c.loop-next.current.shapes next o) c.in-Misfit.is (c.in_ok-version_after.ensures.outcome h (all_ascends g before a) s.current_is.0) in
    run_misfit terms c.args.number c.loop-next.newest c.loop-next.next-index g c.args.first.now c.loop-next.current c.args.kept.now next c.loop-next.versions
    s c.loop-next-test.true c.next-item.is c.loop-next.invariant.newest c.if-next-newest.false (not_fit h next c.in-Misfit.field-0 least)

pub loop-next-preserved : goal.loop-next-preserved
loop-next-preserved c =
    let terms = c.args.names.now.terms in
    let next = c.next-item.result in
    let before = take c.loop-next.next-index c.args.kept.now in
    let come = c.loop-next.invariant.newest in
    record {
      numbered = subst (λ (o : Outcome). IsNumberedOutcome terms o) c.in-Next.is c.in_ok-version_after.ensures.numbered;
      newest = omega (arith, come);
      far = λ g a x.
          let s = c.loop-next.invariant.far g a x in
          let h = data_from g before in
          let follows = subst (λ (o : Outcome). Follows terms h c.loop-next.current.shapes next o) c.in-Next.is (c.in_ok-version_after.ensures.outcome h (all_ascends g before a) s.current_is.0) in
          let made = subst (λ (t : List Triple). IsVersion terms (data_after h next) (shapes_after t next) c.in-Next.version) s.current_is.1 follows.1 in
          run_next terms c.args.number c.loop-next.newest c.loop-next.next-index g c.args.first.now c.loop-next.current c.args.kept.now next c.loop-next.versions
          s c.loop-next-test.true c.next-item.is come (c.loop-next.next-index + 1) c.in-Next.version c.in-Next.version c.push-in-Next.new.self refl c.if-next-newest.false follows.0 made
          (c.in_ok-push-in-Next.ensures.ok ∙ ap (λ (y : Version). c.loop-next.versions ++ y ∷ []) c.in_ok-share-in-Next.ensures) refl;
    }

pub returns : goal.returns
returns c = λ g a x.
    run_done c.args.names.now.terms c.args.number c.loop-next.next-index g c.args.first.now c.loop-next.current c.args.kept.now c.loop-next.versions (c.loop-next.invariant.far g a x) c.loop-next-test.false
