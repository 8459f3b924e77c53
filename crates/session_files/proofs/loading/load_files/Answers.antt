use Rattle.std.proofs.Common.{◌+◌, ap, ◌∙◌}
use Rattle.session_reader.proofs.Checks.{grows_on}
use Rattle.session_files.proofs.SoFar.{SoFar-loaded, SoFar-unloaded}
use Rattle.session_files.proofs.loading.load_files.Goals as goal

pub loop-name-preserved : goal.loop-name-preserved
loop-name-preserved g c =
    let h = c.in-Ok.ensures.answer in
    record {
      session = ap (λ n. n + 1) c.loop-name.invariant.session;
      holds = c.load_next.ensures.holds ∙ c.loop-name.invariant.holds;
      refused = grows_on _ _ _ c.loop-name.invariant.refused c.load_next.ensures.refused;
      so_far = SoFar-loaded _ _ _ _ _ _ _ _ _ c.name-item.result _ _ _ h.0 c.loop-name.invariant.holds c.loop-name.invariant.session c.as_str-name.ensures c.loop-name-test.true c.name-item.is c.loop-name.invariant.so_far h.1 h.2 h.3 h.4;
    }

pub returns-in-Err-clause-answer : goal.returns-in-Err-clause-answer
returns-in-Err-clause-answer g c = SoFar-unloaded c.in-Err.fault _ _ _ _ _ _ _ _ _ c.name-item.result _ _ c.loop-name.invariant.holds c.loop-name.invariant.session c.as_str-name.ensures c.requires.few c.loop-name-test.true c.name-item.is c.loop-name.invariant.so_far c.in-Err.ensures.answer
