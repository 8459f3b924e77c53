use Rattle.std.proofs.Common.{Option, [], subst, refl}
use Rattle.rdf_model.specs.declared.triple.Triple.{Triple}
use Rattle.rdf_model.specs.NTriples.{triple_text}
use Rattle.ntriples_text.specs.Laws.{IsReadable, IsStored}
use Rattle.ntriples_text.specs.Writing.{written_line}
use Rattle.record_text.proofs.TripleLines.{triple_has_no_end}
use Rattle.evidence_reader.specs.Finding.{FindsAlone}
use Rattle.evidence_reader.proofs.Splits.{found_in_line, none_in_line, not_in_line}
use Rattle.evidence_reader.proofs.looks.triple_line.Goals as goal

pub returns-in_default-first_line-clause-triple : goal.returns-in_default-first_line-clause-triple
returns-in_default-first_line-clause-triple c = none_in_line (IsReadable IsStored) written_line triple_text [] c.args.text.now (λ t r. refl) triple_has_no_end c.in_default-first_line.ensures.line

pub returns-in-Some-2-clause-triple : goal.returns-in-Some-2-clause-triple
returns-in-Some-2-clause-triple c =
    found_in_line (IsReadable IsStored) written_line triple_text [] c.args.text.now (λ t r. refl) triple_has_no_end c.in-Some.line c.in-Some.rest c.in-Some.ensures.line c.in-Some-2.triple
    (subst (λ (o : Option Triple). FindsAlone (IsReadable IsStored) triple_text c.in-Some.line.now o) c.in-Some-2.is c.in_ok-triple.ensures)

pub returns-in-None-clause-triple : goal.returns-in-None-clause-triple
returns-in-None-clause-triple c =
    not_in_line (IsReadable IsStored) written_line triple_text [] c.args.text.now (λ t r. refl) triple_has_no_end c.in-Some.line c.in-Some.rest c.in-Some.ensures.line
    (subst (λ (o : Option Triple). FindsAlone (IsReadable IsStored) triple_text c.in-Some.line.now o) c.in-None.is c.in_ok-triple.ensures)
