use Rattle.std.proofs.Common.{◌≡◌, ◌∙◌, rules}
use Rattle.collections.proofs.Kept.{always_on_err, keeps_front}
use Rattle.rdf_model.proofs.triples.add_all_found.Goals as goal

pub returns-in_err-push-clause-kept : goal.returns-in_err-push-clause-kept
returns-in_err-push-clause-kept c =
    let same : c.push.new.self.items ≡ c.loop-triple.found.items = search rules in
    always_on_err c.from_residual.result (keeps_front c.args.found.now.items _ c.push.new.self.items (same ∙ c.loop-triple.invariant))
