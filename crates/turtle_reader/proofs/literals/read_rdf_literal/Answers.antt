use Rattle.std.proofs.Common.{◌∙◌, Ok, None, sym, ap}
use Rattle.std.specs.Prelude.{codes}
use Rattle.rdf_model.specs.declared.term.Term.TheVariants.{Literal}
use Rattle.turtle_reader.specs.Parsers.{give}
use Rattle.turtle_reader.specs.Tokens.{is_language_tag, is_carets, where_next}
use Rattle.turtle_reader.specs.Terms.{tagged, typed, xsd}
use Rattle.turtle_reader.proofs.Machine.{where_is}
use Rattle.turtle_reader.proofs.Statements.{gives_by}
use Rattle.turtle_reader.proofs.literals.read_rdf_literal.Goals as goal

pub returns-then-is_language_tag_next-clause-reads : goal.returns-then-is_language_tag_next-clause-reads
returns-then-is_language_tag_next-clause-reads c = gives_by c.read_tagged.result _ _ _
    (where_is is_language_tag (tagged c.args.text.now c.args.value) (where_next is_carets (typed c.args.text.now c.args.line c.args.value) (give (Literal c.args.value (xsd (codes "string")) None))) c.args.state.now _ (sym c.is_language_tag_next.ensures ∙ c.if-is_language_tag_next.true))
    c.read_tagged.ensures.reads

pub returns-then-is_carets_next-clause-reads : goal.returns-then-is_carets_next-clause-reads
returns-then-is_carets_next-clause-reads c = gives_by c.read_typed.result _ _ _
    (where_is is_language_tag (tagged c.args.text.now c.args.value) (where_next is_carets (typed c.args.text.now c.args.line c.args.value) (give (Literal c.args.value (xsd (codes "string")) None))) c.args.state.now _ (sym c.is_language_tag_next.ensures ∙ c.if-is_language_tag_next.false)
    ∙ where_is is_carets (typed c.args.text.now c.args.line c.args.value) (give (Literal c.args.value (xsd (codes "string")) None)) c.args.state.now _ (sym c.is_carets_next.ensures ∙ c.if-is_carets_next.true))
    c.read_typed.ensures.reads

pub returns-clause-reads : goal.returns-clause-reads
returns-clause-reads c =
    where_is is_language_tag (tagged c.args.text.now c.args.value) (where_next is_carets (typed c.args.text.now c.args.line c.args.value) (give (Literal c.args.value (xsd (codes "string")) None))) c.args.state.now _ (sym c.is_language_tag_next.ensures ∙ c.if-is_language_tag_next.false)
    ∙ where_is is_carets (typed c.args.text.now c.args.line c.args.value) (give (Literal c.args.value (xsd (codes "string")) None)) c.args.state.now _ (sym c.is_carets_next.ensures ∙ c.if-is_carets_next.false)
    ∙ ap (λ d. Ok (Literal c.args.value d None, c.args.state.now)) (sym c.in_ok-datatype.ensures)
