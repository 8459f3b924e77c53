use Rattle.string_constraints.proofs.Tags.{Noted}
use Rattle.string_constraints.proofs.shared_tag.shared_tags.Given as goal

abbrev pub invariant-loop-value : goal.invariant-loop-value
invariant-loop-value g l = Noted l.site.terms l.values l.value-index l.seen.keys l.shared.keys
