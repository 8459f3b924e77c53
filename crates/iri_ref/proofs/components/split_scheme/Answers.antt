use Rattle.std.proofs.Common.{ap, sym, ◌∙◌, cond, Some, None, ◌≡◌, false, eqb, arith}
use Rattle.std.specs.List.{before_first, after_first}
use Rattle.std.proofs.lemmas.Str.Pattern.{split_once_first}
use Rattle.iri_ref.specs.Scheme.{has_scheme}
use Rattle.iri_ref.proofs.Schemes.{no_colon}
use Rattle.iri_ref.proofs.components.split_scheme.Goals as goal
use Rattle.iri_ref.proofs.components.split_scheme.Goals.{in_default-via-in-Some+else-has_scheme, in_default-via-in_default}

pub returns-in_default-clause-scheme : goal.returns-in_default-clause-scheme
returns-in_default-clause-scheme c =
    let without : has_scheme c.args.reference.now ≡ false =
    elim c.in_default.branch [
      | in_default-via-in-Some+else-has_scheme w ↦ sym w.has_scheme.ensures ∙ w.if-has_scheme.false
      | in_default-via-in_default w ↦ no_colon c.args.reference.now (split_once_first 58 c.args.reference.now None w.in_default.ensures.cases (omega arith))
    ] in
    sym (ap (λ b. cond b (Some (before_first (λ d. eqb d 58) c.args.reference.now)) None) without)

pub returns-in_default-clause-rest : goal.returns-in_default-clause-rest
returns-in_default-clause-rest c =
    let without : has_scheme c.args.reference.now ≡ false =
    elim c.in_default.branch [
      | in_default-via-in-Some+else-has_scheme w ↦ sym w.has_scheme.ensures ∙ w.if-has_scheme.false
      | in_default-via-in_default w ↦ no_colon c.args.reference.now (split_once_first 58 c.args.reference.now None w.in_default.ensures.cases (omega arith))
    ] in
    sym (ap (λ b. cond b (after_first (λ d. eqb d 58) c.args.reference.now) c.args.reference.now) without)
