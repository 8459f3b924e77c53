use Rattle.std.proofs.Common.{◌++◌, ◌∙◌, ap, sym, string_bytes}
use Rattle.load_maker.specs.Workload.{commit_lines, lines_text, type_lines, value_lines}
use Rattle.load_maker.proofs.Growing.{put, three_parts}
use Rattle.load_maker.proofs.load.push_transaction.Goals as goal

pub returns : goal.returns
returns c =
    put (lines_text (type_lines c.args.i)) (lines_text (value_lines c.args.n c.args.i)) (lines_text commit_lines) _ _ _ _ c.in_ok-push_type.ensures c.in_ok-push_value.ensures c.in_ok-push_commit.ensures
    ∙ ap (λ x. string_bytes c.args.text.now ++ x) (sym (three_parts c.args.n c.args.i))
