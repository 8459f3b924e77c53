use Rattle.std.proofs.Common.{◌∙◌, Some, None, Option, ap, subst, refl}
use Rattle.rdf_model.specs.declared.term.Term.{Term}
use Rattle.rdf_model.specs.declared.triple.Triple.{Triple}
use Rattle.ntriples_text.specs.Laws.{IsReadable, IsStored}
use Rattle.ntriples_text.specs.Writing.{written_line}
use Rattle.evidence_reader.specs.Finding.{FindsAlone}
use Rattle.evidence_reader.proofs.Spelled.{as_object_found, object_line_of}
use Rattle.evidence_reader.proofs.terms.term_of.Goals as goal

pub returns-in-Some : goal.returns-in-Some
returns-in-Some c =
    let line = object_line_of c.args.text.now c.in_ok-line.line.items c.extend_from_slice.new.self.items c.extend_from_slice-2.new.self.items c.extend_from_slice-3.new.self.items c.in_ok-line.ensures.items c.in_ok-extend_from_slice.ensures.items c.in_ok-extend_from_slice-2.ensures.items c.in_ok-extend_from_slice-3.ensures.items in
    as_object_found c.args.text.now c.deref.result.now (Some c.in-Some.triple) (Some c.in_ok-clone-in-Some.field-0) (c.deref.ensures.value ∙ line)
    (subst (λ (o : Option Triple). FindsAlone (IsReadable IsStored) written_line c.deref.result.now o) c.in-Some.is c.in_ok-triple.ensures) (ap (λ (t : Term). Some t) c.in_ok-clone-in-Some.ensures.cases)

pub returns : goal.returns
returns c =
    let line = object_line_of c.args.text.now c.in_ok-line.line.items c.extend_from_slice.new.self.items c.extend_from_slice-2.new.self.items c.extend_from_slice-3.new.self.items c.in_ok-line.ensures.items c.in_ok-extend_from_slice.ensures.items c.in_ok-extend_from_slice-2.ensures.items c.in_ok-extend_from_slice-3.ensures.items in
    as_object_found c.args.text.now c.deref.result.now None None (c.deref.ensures.value ∙ line)
    (subst (λ (o : Option Triple). FindsAlone (IsReadable IsStored) written_line c.deref.result.now o) c.in-None.is c.in_ok-triple.ensures) refl
