use Rattle.std.proofs.Common.{◌∙◌, ◌==◌, sym, ap, arith}
use Rattle.std.specs.List.{list_any}
use Rattle.rdf_lexical.proofs.Spelled.{same_bytes}
use Rattle.rdf_lexical.proofs.meanings.text_without_escapes.Goals as goal

pub returns-else-contains : goal.returns-else-contains
returns-else-contains c =
    let same = ap (list_any (λ b. b == 92)) (c.as_bytes.ensures.value ∙ c.as_text-text.ensures) in
    (sym (same_bytes 92 (omega arith) c.args.characters.now) ∙ sym same ∙ sym c.contains.ensures.value ∙ c.if-contains.false, c.as_text-text.ensures)

pub returns-then-contains : goal.returns-then-contains
returns-then-contains c =
    let same = ap (list_any (λ b. b == 92)) (c.as_bytes.ensures.value ∙ c.as_text-text.ensures) in
    sym (same_bytes 92 (omega arith) c.args.characters.now) ∙ sym same ∙ sym c.contains.ensures.value ∙ c.if-contains.true
