use Rattle.std.proofs.Common.{◌∙◌}
use Rattle.commit_core.proofs.NamedTerms.{is_there}
use Rattle.commit_core.proofs.asking.has_name.Goals as goal

pub returns : goal.returns
returns c = c.is_some.ensures ∙ is_there c.args.named.now.terms c.args.term.now _ c.id.ensures
