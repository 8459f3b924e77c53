use Rattle.std.proofs.Common.{[], refl}
use Rattle.std.proofs.lemmas.Result.{IfOk-weaker}
use Rattle.plain_terms.specs.Finds.{Finds}
use Rattle.plain_terms.proofs.FoundItems.{finds_at, finds_none}
use Rattle.plain_components.specs.Rows.{SharedRow, TagRow}
use Rattle.plain_values.proofs.Languages.{no_tag, tag_found}
use Rattle.plain_components.proofs.Paired.{tag_made}
use Rattle.plain_components.proofs.pairs.tag_rows_of.Goals as goal

pub returns-in-Some : goal.returns-in-Some
returns-in-Some c =
    let v = c.args.value.now in
    let q = c.args.parameter.now in
    let at = c.args.at.now in
    let tag = c.in-Some.tag.now in
    IfOk-weaker c.shared_rows.result (λ rows. Finds (SharedRow at q tag v) rows.items) (λ rows. Finds (TagRow at q v) rows.items)
    (λ rows h. tag_made at q v tag rows.items (tag_found v _ tag c.in-Some.ensures refl) h) c.shared_rows.ensures

pub returns-in-None : goal.returns-in-None
returns-in-None c =
    let P = TagRow c.args.at.now c.args.parameter.now c.args.value.now in
    finds_at P [] c.new.result.items c.new.ensures.items (finds_none P (λ r h. no_tag c.args.value.now c.in-None.ensures h.0 h.1))
