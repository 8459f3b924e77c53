use Rattle.std.proofs.Common.{◌∙◌, sym, refl}
use Rattle.std.proofs.lemmas.Bool.{eqb-true}
use Rattle.ntriples_text.proofs.Numbers.{nothing_left}
use Rattle.ntriples_text.proofs.document.read_lines.Goals as goal

pub returns-clause-read : goal.returns-clause-read
returns-clause-read c =
    let l = c.loop-rest in
    sym l.invariant.reading ∙ nothing_left c.args.labels l.numbering.session l.numbering.first l.number l.table l.numbering.labels l.rest.now _ (eqb-true _ 0 (sym c.is_empty.ensures ∙ c.loop-rest-test.false)) refl
