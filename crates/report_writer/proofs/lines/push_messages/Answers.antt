use Rattle.std.proofs.Common.{◌≡◌, ◌∙◌, ◌++◌, List, append-nil, ap, arith, codes, string_bytes, sym, take}
use Rattle.std.proofs.lemmas.List.{take_all}
use Rattle.rdf_model.specs.declared.term.Term.{Term}
use Rattle.report_writer.specs.Report.{term_statements}
use Rattle.report_writer.proofs.Joins.{one_term_more}
use Rattle.report_writer.proofs.lines.push_messages.Goals as goal

pub loop-message-init : goal.loop-message-init
loop-message-init c = sym (append-nil (string_bytes c.args.out.now))

pub loop-message-preserved : goal.loop-message-preserved
loop-message-preserved c =
    one_term_more (string_bytes c.args.out.now) (string_bytes c.loop-message.out) _ c.args.label.now (codes "sh:resultMessage") c.args.messages.now c.loop-message.message-index c.message-item.result
    c.loop-message-test.true c.message-item.is c.loop-message.invariant c.in_ok-push_term_line.ensures

pub returns : goal.returns
returns c =
    let all : take c.loop-message.message-index c.args.messages.now ≡ c.args.messages.now = take_all c.loop-message.message-index c.args.messages.now (omega (arith, c.loop-message-test.false)) in
    c.loop-message.invariant ∙ ap (λ (messages : List Term). string_bytes c.args.out.now ++ term_statements c.args.label.now (codes "sh:resultMessage") messages) all
