use Rattle.std.proofs.Common.{◌≡◌, ◌∙◌, ◌<◌, ◌+◌, ◌++◌, OnOk, ap, arith, codes, rules, string_bytes, sym, subst, take}
use Rattle.std.specs.List.{flat_map}
use Rattle.std.proofs.lemmas.List.{take_all}
use Rattle.std.proofs.lemmas.Result.{on_ok_weaker}
use Rattle.rdf_model.specs.declared.term.Term.{Term}
use Rattle.path_ast.specs.declared.path.Path.{Path}
use Rattle.path_ast.specs.PathReadings.{defined_path}
use Rattle.path_ast.proofs.Sizes.{list_size, member_more, path_size}
use Rattle.report_writer.specs.PathTexts.{node_text, path_text}
use Rattle.report_writer.proofs.PathLists.{alternative_less, alternative_text, begun_list, bracketed, ended, further, one_further, sequence_less, sequence_text}
use Rattle.report_writer.proofs.paths.+texts.Goals as goal

pub push_list-push_path-requires-in-loop-path : goal.push_list-push_path-requires-in-loop-path
push_list-push_path-requires-in-loop-path t c =
    let p = c.path-item.result in
    let ps = c.args.others.now in
    let first = c.args.first.now in
    let smaller : path_size p + path_size p < path_size first + path_size first + list_size ps + list_size ps + 1 = omega (arith, member_more ps c.loop-path.path-index p c.loop-path-test.true c.path-item.is) in
    search rules

pub push_path-push_list-requires : goal.push_path-push_list-requires
push_path-push_list-requires t c =
    let f = c.deref-in-Sequence.result.now in
    let ps = c.deref-in-Sequence-2.result.now in
    let smaller : path_size f + path_size f + list_size ps + list_size ps + 1 < path_size c.args.path.now + path_size c.args.path.now =
    sequence_less c.args.path.now c.in-Sequence.first c.in-Sequence.others f c.deref-in-Sequence.ensures ps c.deref-in-Sequence-2.ensures.value c.in-Sequence.is in
    search rules

pub push_path-push_list-requires-in-Alternative : goal.push_path-push_list-requires-in-Alternative
push_path-push_list-requires-in-Alternative t c =
    let f = c.deref-in-Alternative.result.now in
    let ps = c.deref-in-Alternative-2.result.now in
    let smaller : path_size f + path_size f + list_size ps + list_size ps + 1 < path_size c.args.path.now + path_size c.args.path.now =
    alternative_less c.args.path.now c.in-Alternative.first c.in-Alternative.others f c.deref-in-Alternative.ensures ps c.deref-in-Alternative-2.ensures.value c.in-Alternative.is in
    search rules

pub push_list-loop-path-init : goal.push_list-loop-path-init
push_list-loop-path-init t c = begun_list (string_bytes c.args.out.now) (string_bytes c.write.new.self) (string_bytes c.push_path.new.out) (path_text (defined_path c.args.first.now)) c.in_ok-write.ensures.bytes c.in_ok-push_path.ensures

pub push_list-loop-path-preserved : goal.push_list-loop-path-preserved
push_list-loop-path-preserved t c =
    one_further (string_bytes c.args.out.now) (string_bytes c.loop-path.out) (string_bytes c.write-in-loop-path.new.self) (string_bytes c.push_path-in-loop-path.new.out) (path_text (defined_path c.args.first.now)) c.args.others.now c.loop-path.path-index c.path-item.result
    c.loop-path-test.true c.path-item.is c.loop-path.invariant c.in_ok-write-2.ensures.bytes c.in_ok-push_path-2.ensures

pub push_list-returns : goal.push_list-returns
push_list-returns t c =
    let all : take c.loop-path.path-index c.args.others.now ≡ c.args.others.now = take_all c.loop-path.path-index c.args.others.now (omega (arith, c.loop-path-test.false)) in
    on_ok_weaker c.write-2.result (ended (string_bytes c.args.out.now) (string_bytes c.loop-path.out) (string_bytes c.write-2.new.self) (defined_path c.args.first.now) c.args.others.now
    (subst (λ ps. string_bytes c.loop-path.out ≡ string_bytes c.args.out.now ++ (codes "( " ++ path_text (defined_path c.args.first.now) ++ flat_map further ps)) all c.loop-path.invariant)) c.write-2.ensures.bytes

pub push_path-returns-in-Sequence : goal.push_path-returns-in-Sequence
push_path-returns-in-Sequence t c =
    let same = sequence_text c.args.path.now c.in-Sequence.first c.in-Sequence.others c.deref-in-Sequence.result.now c.deref-in-Sequence.ensures c.deref-in-Sequence-2.result.now c.deref-in-Sequence-2.ensures.value c.in-Sequence.is in
    on_ok_weaker c.push_list.result (λ h. h ∙ ap (λ text. string_bytes c.args.out.now ++ text) (sym same)) c.push_list.ensures

pub push_path-returns-in_ok-push_list-in-Alternative : goal.push_path-returns-in_ok-push_list-in-Alternative
push_path-returns-in_ok-push_list-in-Alternative t c =
    let same = alternative_text c.args.path.now c.in-Alternative.first c.in-Alternative.others c.deref-in-Alternative.result.now c.deref-in-Alternative.ensures c.deref-in-Alternative-2.result.now c.deref-in-Alternative-2.ensures.value c.in-Alternative.is in
    on_ok_weaker c.write-in-Alternative.result (λ h.
    bracketed (string_bytes c.args.out.now) (string_bytes c.write.new.self) (string_bytes c.push_list-in-Alternative.new.out) (string_bytes c.write-in-Alternative.new.self) _ c.in_ok-write-in-Alternative.ensures.bytes c.in_ok-push_list-in-Alternative.ensures h
    ∙ ap (λ text. string_bytes c.args.out.now ++ text) (sym same)) c.write-in-Alternative.ensures.bytes

pub push_path-returns-in-OneOrMore : goal.push_path-returns-in-OneOrMore
push_path-returns-in-OneOrMore t c =
    let old = string_bytes c.args.out.now in
    let new = string_bytes c.push_node-in-OneOrMore.new.out in
    subst (λ (p : Path Term). OnOk c.push_node-in-OneOrMore.result (new ≡ old ++ path_text (defined_path p))) (sym c.in-OneOrMore.is)
    (subst (λ (p : Path Term). OnOk c.push_node-in-OneOrMore.result (new ≡ old ++ node_text (codes "sh:oneOrMorePath") (path_text (defined_path p)))) c.deref-in-OneOrMore.ensures c.push_node-in-OneOrMore.ensures)
