use Rattle.std.proofs.Common.{sym, subst}
use Rattle.std.specs.Prelude.{IfOk}
use Rattle.std.proofs.lemmas.Result.{IfOk-weaker}
use Rattle.shape_model.specs.declared.component.Component.{Component}
use Rattle.shape_model.specs.declared.component.Component.TheVariants as components
use Rattle.shape_model.specs.Components.{parameter_of}
use Rattle.shape_model.specs.ShapeSyntax.{HasProperty}
use Rattle.plain_terms.specs.Finds.{Finds}
use Rattle.plain_terms.proofs.FoundItems.{finds_same}
use Rattle.plain_values.specs.Around.{ListRow, RowsAt}
use Rattle.plain_values.specs.Tests.{IsRefusedBy}
use Rattle.plain_components.proofs.component.rows_at.Goals as goal

pub returns-in-LanguageIn : goal.returns-in-LanguageIn
returns-in-LanguageIn c =
    let at = c.args.at.now in
    let q = c.args.parameter.now in
    let has = subst (λ (k : Component). HasProperty at.shapes.now at.shape.now (parameter_of k) q) c.in-LanguageIn.is c.requires.parameter in
    subst (λ (k : Component). IfOk c.list_rows.result (λ rows. Finds (RowsAt at k q) rows.items)) (sym c.in-LanguageIn.is)
    (IfOk-weaker c.list_rows.result (λ rows. Finds (ListRow at components.LanguageIn q (IsRefusedBy components.LanguageIn at.told.now)) rows.items) (λ rows. Finds (RowsAt at components.LanguageIn q) rows.items)
    (λ rows h. finds_same (ListRow at components.LanguageIn q (IsRefusedBy components.LanguageIn at.told.now)) (RowsAt at components.LanguageIn q) rows.items (λ r. (λ w. (w.0, (has, w.1), w.2), λ w. (w.0, w.1.1, w.2))) h)
    c.list_rows.ensures)

pub returns-in-And : goal.returns-in-And
returns-in-And c =
    let at = c.args.at.now in
    let q = c.args.parameter.now in
    let has = subst (λ (k : Component). HasProperty at.shapes.now at.shape.now (parameter_of k) q) c.in-And.is c.requires.parameter in
    subst (λ (k : Component). IfOk c.list_rows-in-And.result (λ rows. Finds (RowsAt at k q) rows.items)) (sym c.in-And.is)
    (IfOk-weaker c.list_rows-in-And.result (λ rows. Finds (ListRow at components.And q (IsRefusedBy components.And at.told.now)) rows.items) (λ rows. Finds (RowsAt at components.And q) rows.items)
    (λ rows h. finds_same (ListRow at components.And q (IsRefusedBy components.And at.told.now)) (RowsAt at components.And q) rows.items (λ r. (λ w. (w.0, (has, w.1), w.2), λ w. (w.0, w.1.1, w.2))) h)
    c.list_rows-in-And.ensures)

pub returns-in-Or : goal.returns-in-Or
returns-in-Or c =
    let at = c.args.at.now in
    let q = c.args.parameter.now in
    let has = subst (λ (k : Component). HasProperty at.shapes.now at.shape.now (parameter_of k) q) c.in-Or.is c.requires.parameter in
    subst (λ (k : Component). IfOk c.list_rows-in-Or.result (λ rows. Finds (RowsAt at k q) rows.items)) (sym c.in-Or.is)
    (IfOk-weaker c.list_rows-in-Or.result (λ rows. Finds (ListRow at components.Or q (IsRefusedBy components.Or at.told.now)) rows.items) (λ rows. Finds (RowsAt at components.Or q) rows.items)
    (λ rows h. finds_same (ListRow at components.Or q (IsRefusedBy components.Or at.told.now)) (RowsAt at components.Or q) rows.items (λ r. (λ w. (w.0, (has, w.1), w.2), λ w. (w.0, w.1.1, w.2))) h)
    c.list_rows-in-Or.ensures)

pub returns-in-Xone : goal.returns-in-Xone
returns-in-Xone c =
    let at = c.args.at.now in
    let q = c.args.parameter.now in
    let has = subst (λ (k : Component). HasProperty at.shapes.now at.shape.now (parameter_of k) q) c.in-Xone.is c.requires.parameter in
    subst (λ (k : Component). IfOk c.list_rows-in-Xone.result (λ rows. Finds (RowsAt at k q) rows.items)) (sym c.in-Xone.is)
    (IfOk-weaker c.list_rows-in-Xone.result (λ rows. Finds (ListRow at components.Xone q (IsRefusedBy components.Xone at.told.now)) rows.items) (λ rows. Finds (RowsAt at components.Xone q) rows.items)
    (λ rows h. finds_same (ListRow at components.Xone q (IsRefusedBy components.Xone at.told.now)) (RowsAt at components.Xone q) rows.items (λ r. (λ w. (w.0, (has, w.1), w.2), λ w. (w.0, w.1.1, w.2))) h)
    c.list_rows-in-Xone.ensures)

pub returns-in-In : goal.returns-in-In
returns-in-In c =
    let at = c.args.at.now in
    let q = c.args.parameter.now in
    let has = subst (λ (k : Component). HasProperty at.shapes.now at.shape.now (parameter_of k) q) c.in-In.is c.requires.parameter in
    subst (λ (k : Component). IfOk c.list_rows-in-In.result (λ rows. Finds (RowsAt at k q) rows.items)) (sym c.in-In.is)
    (IfOk-weaker c.list_rows-in-In.result (λ rows. Finds (ListRow at components.In q (IsRefusedBy components.In at.told.now)) rows.items) (λ rows. Finds (RowsAt at components.In q) rows.items)
    (λ rows h. finds_same (ListRow at components.In q (IsRefusedBy components.In at.told.now)) (RowsAt at components.In q) rows.items (λ r. (λ w. (w.0, (has, w.1), w.2), λ w. (w.0, w.1.1, w.2))) h)
    c.list_rows-in-In.ensures)

pub returns-in-Pattern : goal.returns-in-Pattern
returns-in-Pattern c = subst (λ (k : Component). IfOk c.pattern_rows.result (λ rows. Finds (RowsAt c.args.at.now k c.args.parameter.now) rows.items)) (sym c.in-Pattern.is) c.pattern_rows.ensures

pub pattern_rows-requires-clause-parameter : goal.pattern_rows-requires-clause-parameter
pattern_rows-requires-clause-parameter c = subst (λ (k : Component). HasProperty c.args.at.now.shapes.now c.args.at.now.shape.now (parameter_of k) c.args.parameter.now) c.in-Pattern.is c.requires.parameter

pub returns-in-Datatype : goal.returns-in-Datatype
returns-in-Datatype c = subst (λ (k : Component). IfOk c.term_rows.result (λ rows. Finds (RowsAt c.args.at.now k c.args.parameter.now) rows.items)) (sym c.in-Datatype.is) c.term_rows.ensures

pub returns-in-NodeKind : goal.returns-in-NodeKind
returns-in-NodeKind c = subst (λ (k : Component). IfOk c.term_rows-in-NodeKind.result (λ rows. Finds (RowsAt c.args.at.now k c.args.parameter.now) rows.items)) (sym c.in-NodeKind.is) c.term_rows-in-NodeKind.ensures

pub returns-in-MinExclusive : goal.returns-in-MinExclusive
returns-in-MinExclusive c = subst (λ (k : Component). IfOk c.term_rows-in-MinExclusive.result (λ rows. Finds (RowsAt c.args.at.now k c.args.parameter.now) rows.items)) (sym c.in-MinExclusive.is) c.term_rows-in-MinExclusive.ensures

pub returns-in-MinInclusive : goal.returns-in-MinInclusive
returns-in-MinInclusive c = subst (λ (k : Component). IfOk c.term_rows-in-MinInclusive.result (λ rows. Finds (RowsAt c.args.at.now k c.args.parameter.now) rows.items)) (sym c.in-MinInclusive.is) c.term_rows-in-MinInclusive.ensures

pub returns-in-MaxExclusive : goal.returns-in-MaxExclusive
returns-in-MaxExclusive c = subst (λ (k : Component). IfOk c.term_rows-in-MaxExclusive.result (λ rows. Finds (RowsAt c.args.at.now k c.args.parameter.now) rows.items)) (sym c.in-MaxExclusive.is) c.term_rows-in-MaxExclusive.ensures

pub returns-in-MaxInclusive : goal.returns-in-MaxInclusive
returns-in-MaxInclusive c = subst (λ (k : Component). IfOk c.term_rows-in-MaxInclusive.result (λ rows. Finds (RowsAt c.args.at.now k c.args.parameter.now) rows.items)) (sym c.in-MaxInclusive.is) c.term_rows-in-MaxInclusive.ensures

pub returns-in-MinLength : goal.returns-in-MinLength
returns-in-MinLength c = subst (λ (k : Component). IfOk c.term_rows-in-MinLength.result (λ rows. Finds (RowsAt c.args.at.now k c.args.parameter.now) rows.items)) (sym c.in-MinLength.is) c.term_rows-in-MinLength.ensures

pub returns-in-MaxLength : goal.returns-in-MaxLength
returns-in-MaxLength c = subst (λ (k : Component). IfOk c.term_rows-in-MaxLength.result (λ rows. Finds (RowsAt c.args.at.now k c.args.parameter.now) rows.items)) (sym c.in-MaxLength.is) c.term_rows-in-MaxLength.ensures

pub returns-in-LessThan : goal.returns-in-LessThan
returns-in-LessThan c = subst (λ (k : Component). IfOk c.pair_rows.result (λ rows. Finds (RowsAt c.args.at.now k c.args.parameter.now) rows.items)) (sym c.in-LessThan.is) c.pair_rows.ensures

pub returns-in-LessThanOrEquals : goal.returns-in-LessThanOrEquals
returns-in-LessThanOrEquals c = subst (λ (k : Component). IfOk c.pair_rows-in-LessThanOrEquals.result (λ rows. Finds (RowsAt c.args.at.now k c.args.parameter.now) rows.items)) (sym c.in-LessThanOrEquals.is) c.pair_rows-in-LessThanOrEquals.ensures

pub returns-in-QualifiedMinCount : goal.returns-in-QualifiedMinCount
returns-in-QualifiedMinCount c = subst (λ (k : Component). IfOk c.qualified_rows.result (λ rows. Finds (RowsAt c.args.at.now k c.args.parameter.now) rows.items)) (sym c.in-QualifiedMinCount.is) c.qualified_rows.ensures

pub returns-in-QualifiedMaxCount : goal.returns-in-QualifiedMaxCount
returns-in-QualifiedMaxCount c = subst (λ (k : Component). IfOk c.qualified_rows-in-QualifiedMaxCount.result (λ rows. Finds (RowsAt c.args.at.now k c.args.parameter.now) rows.items)) (sym c.in-QualifiedMaxCount.is) c.qualified_rows-in-QualifiedMaxCount.ensures
