use Rattle.std.proofs.Common.{ap, ◌∙◌, length, eqb}
use Rattle.std.specs.Option.{unwrap_or}
use Rattle.iri_ref.proofs.Marks.{unwrap_or-position}
use Rattle.iri_ref.proofs.components.next_slash.Goals as goal

pub returns-clause-value : goal.returns-clause-value
returns-clause-value c =
    c.unwrap_or.ensures ∙ ap (λ r. unwrap_or r (length c.args.text.now)) c.slash_position.ensures ∙ unwrap_or-position (λ d. eqb d 47) c.args.text.now
