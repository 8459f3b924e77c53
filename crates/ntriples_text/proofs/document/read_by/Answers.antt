use Rattle.std.proofs.Common.{Err, [], ◌∙◌, sym, ap}
use Rattle.rdf_model.specs.Graphs.{with_each}
use Rattle.rdf_lexical.specs.declared.refusal.RefusalKind.TheVariants.{NotUtf8}
use Rattle.ntriples_text.specs.Document.{line_of}
use Rattle.ntriples_text.proofs.Characters.{of_no_text, whole_text}
use Rattle.ntriples_text.proofs.document.read_by.Goals as goal

pub returns-in-Ok-clause-reads : goal.returns-in-Ok-clause-reads
returns-in-Ok-clause-reads c = whole_text (with_each []) c.args.labels c.read_text.result c.args.bytes.now c.in-Ok.text.now c.args.session c.args.next.now _ c.in-Ok.ensures.cases.1 c.in-Ok.ensures.cases.0 c.read_text.ensures.reads

pub returns-in-Err-clause-reads : goal.returns-in-Err-clause-reads
returns-in-Err-clause-reads c =
    let bytes = c.args.bytes.now in
    let at = c.line_of.ensures ∙ ap (line_of bytes) (c.valid_up_to.ensures ∙ c.in-Err.ensures.valid_len) in
    of_no_text c.args.labels bytes c.args.session c.args.next.now c.in-Err.ensures.cases.0 ∙ ap (λ n. Err (n, NotUtf8)) (sym at)
