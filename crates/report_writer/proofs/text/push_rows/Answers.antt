use Rattle.std.proofs.Common.{◌≡◌, ◌∙◌, ◌++◌, ◌+◌, List, [], ap, append-nil, arith, drop, refl, string_bytes, subst, sym, ℕ}
use Rattle.std.proofs.Math.ListN.{drop_of_length-le}
use Rattle.std.specs.Option.{IsSome}
use Rattle.shape_model.specs.declared.result_row.ResultRow.{ResultRow}
use Rattle.report_writer.specs.Report.{results_by}
use Rattle.report_writer.specs.Tables.{row_lines, shape_at}
use Rattle.report_writer.proofs.Results.{one_more}
use Rattle.report_writer.proofs.text.push_rows.Goals as goal

pub push_row-requires : goal.push_row-requires
push_row-requires c = subst (λ (r : ResultRow). IsSome (shape_at c.args.shapes.now r.source_shape)) (sym c.index-rows-i.is) (c.requires c.loop-i.i c.index-rows-i.result c.loop-i-test.true)

pub loop-i-init : goal.loop-i-init
loop-i-init c = refl

pub loop-i-preserved : goal.loop-i-preserved
loop-i-preserved c =
    let table = c.args.shapes.now in
    let row = c.index-rows-i.result in
    let named : c.as_str.result.now ≡ string_bytes c.set_label.new.label = c.as_str.ensures.value in
    one_more (row_lines table) c.args.rows.now c.loop-i.i row (string_bytes c.loop-i.out) (string_bytes c.push_row.new.out) _ c.loop-i-test.true c.index-rows-i.is
    (c.in_ok-push_row.ensures ∙ ap (λ (label : List ℕ). string_bytes c.loop-i.out ++ row_lines table label row) (named ∙ c.in_ok-set_label.ensures))
    c.loop-i.invariant

pub returns : goal.returns
returns c =
    let none : drop c.loop-i.i c.args.rows.now ≡ [] = drop_of_length-le c.args.rows.now (omega (arith, c.loop-i-test.false)) in
    sym (append-nil (string_bytes c.loop-i.out))
    ∙ sym (ap (λ (rows : List ResultRow). string_bytes c.loop-i.out ++ results_by (row_lines c.args.shapes.now) (c.loop-i.i + 1) rows) none)
    ∙ c.loop-i.invariant
