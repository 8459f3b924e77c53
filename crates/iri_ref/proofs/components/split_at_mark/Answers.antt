use Rattle.std.proofs.Common.{ap, sym, if◌then◌else◌, Some, None, eqb}
use Rattle.std.specs.List.{after_first}
use Rattle.std.proofs.lemmas.Str.Pattern.{split_once_first}
use Rattle.iri_ref.proofs.Marks.{list_any-none}
use Rattle.iri_ref.proofs.components.split_at_mark.Goals as goal

pub returns-in-None-clause-after : goal.returns-in-None-clause-after
returns-in-None-clause-after c =
    let past = split_once_first c.args.mark c.args.text.now None c.in-None.ensures.cases c.requires in
    sym (ap (λ b. if b then Some (after_first (λ d. eqb d c.args.mark) c.args.text.now) else None) (list_any-none _ _ past))
