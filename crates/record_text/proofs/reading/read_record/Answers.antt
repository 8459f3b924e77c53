use Rattle.std.proofs.Common.{◌≡◌, ◌∙◌, sym, true, false}
use Rattle.record_text.proofs.OneSplit.{behind_mark}
use Rattle.record_text.proofs.Sections.{no_number, other_text}
use Rattle.record_text.proofs.reading.read_record.Goals as goal

pub returns-in_default : goal.returns-in_default
returns-in_default c r n good = no_number c.args.number c.args.text.now c.as_bytes.result.now (c.as_bytes.ensures.value ∙ c.in_ok-line.ensures.ok) c.in_default.ensures.cases r n

pub returns : goal.returns
returns c =
    let line = c.as_bytes.result.now in
    let whole = behind_mark line c.args.text.now c.in-Some.lists.now c.in-Some.ensures.cases.0 c.in-Some.ensures.cases.1 in
    other_text c.args.number c.args.text.now line c.in-Some.lists.now _ (c.as_bytes.ensures.value ∙ c.in_ok-line.ensures.ok) whole c.in_ok-record.ensures
    (λ e. let bad : true ≡ false = sym (c.in_ok-has_text.ensures.1 e) ∙ c.if-branch.false in cc)
