use Rattle.std.proofs.Common.{◌∙◌, ◌+◌, sym, ap}
use Rattle.std.proofs.lemmas.Result.{err_from_is_err_and}
use Rattle.turtle_reader.specs.Parsers.{and_then}
use Rattle.turtle_reader.specs.Grammar.{predicate_object_list, optional_predicates, object}
use Rattle.turtle_reader.proofs.Machine.{refuses_same}
use Rattle.turtle_reader.proofs.Statements.{gives_by, bracket_end, bracket_next}
use Rattle.turtle_reader.proofs.grammar.read_bracket_triples.Goals as goal

pub returns-in_err-next-clause-reads : goal.returns-in_err-next-clause-reads
returns-in_err-next-clause-reads c = let p = err_from_is_err_and c.from_residual.result c.from_residual.ensures.1 in rw (p.1, p.2)
    (refuses_same _ _ _ _ (bracket_end c.args.text.now c.args.levels c.fresh-node.result c.args.state.now c.fresh-node.new.state c.fresh-node.ensures.reads (sym c.is_close_bracket_next.ensures ∙ c.if-is_close_bracket_next.true)) c.in_err-next.ensures.reads)

pub returns-then-is_close_bracket_next-clause-reads : goal.returns-then-is_close_bracket_next-clause-reads
returns-then-is_close_bracket_next-clause-reads c = gives_by c.read_predicates.result _ _ _
    (bracket_end c.args.text.now c.args.levels c.fresh-node.result c.args.state.now c.fresh-node.new.state c.fresh-node.ensures.reads (sym c.is_close_bracket_next.ensures ∙ c.if-is_close_bracket_next.true)
    ∙ ap (λ o. and_then o (λ _. predicate_object_list c.args.text.now (object c.args.text.now (c.args.levels + 1)) c.fresh-node.result)) c.in_ok-next.ensures.reads)
    c.read_predicates.ensures.reads

pub returns-in_err-read_property_list-clause-reads : goal.returns-in_err-read_property_list-clause-reads
returns-in_err-read_property_list-clause-reads c = let p = err_from_is_err_and c.from_residual-in_err-read_property_list.result c.from_residual-in_err-read_property_list.ensures.1 in rw (p.1, p.2)
    (refuses_same _ _ _ _ (bracket_next c.args.text.now c.args.levels c.fresh-node.result c.args.state.now c.fresh-node.new.state c.fresh-node.ensures.reads (sym c.is_close_bracket_next.ensures ∙ c.if-is_close_bracket_next.false)) c.in_err-read_property_list.ensures.reads)

pub returns-clause-reads : goal.returns-clause-reads
returns-clause-reads c = gives_by c.read_more.result _ _ _
    (bracket_next c.args.text.now c.args.levels c.fresh-node.result c.args.state.now c.fresh-node.new.state c.fresh-node.ensures.reads (sym c.is_close_bracket_next.ensures ∙ c.if-is_close_bracket_next.false)
    ∙ ap (λ o. and_then o (λ _. optional_predicates c.args.text.now (object c.args.text.now (c.args.levels + 1)) c.fresh-node.result)) c.in_ok-read_property_list.ensures.reads)
    c.read_more.ensures.reads
