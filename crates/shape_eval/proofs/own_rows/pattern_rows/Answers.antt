use Rattle.std.proofs.Common.{◌≡◌, ◌∙◌, ℕ, IfOk, List, sym, ap, subst}
use Rattle.std.specs.Prelude.{MatchOption, Option, Some}
use Rattle.std.specs.Arc.{arc_value}
use Rattle.std.proofs.lemmas.Result.{IfOk-weaker}
use Rattle.literal_order.specs.Texts.{string_value}
use Rattle.regex.specs.declared.string.regex.Regex.{Regex}
use Rattle.rdf_model.specs.declared.term.Term.{Term}
use Rattle.rdf_model.specs.declared.triple.Triple.{Triple}
use Rattle.rdf_model.specs.declared.ids.Ids.{Ids}
use Rattle.rdf_model.specs.Numbers.{term_at}
use Rattle.shape_model.specs.declared.component.Component.TheVariants as components
use Rattle.shape_model.specs.Components.{RowsOf, row_of}
use Rattle.component_rows.specs.Listed.{Collects, ListsRows, at_nodes}
use Rattle.component_rows.specs.Sites.{ListsAt, Spot, at_values}
use Rattle.component_rows.specs.Nodes.{HasNode}
use Rattle.component_rows.proofs.Collecting.{collects_none, collects_same}
use Rattle.shape_ast.specs.Readings.{ReadShape, read_optional, read_pattern, read_shape}
use Rattle.shape_ast.specs.declared.pattern.CompiledPattern.{CompiledPattern}
use Rattle.shape_model.specs.Patterns.{IsPatternOf}
use Rattle.string_constraints.specs.Matches.{Searched, searched, with_flags}
use Rattle.shape_ast.specs.Standing.{HasFlagsText, shape_reading}
use Rattle.shape_eval.specs.Around.{around}
use Rattle.shape_eval.specs.ShapeRows.{PatternRow}
use Rattle.shape_eval.proofs.Lookups.{only_some}
use Rattle.shape_eval.proofs.Texts.{pattern_same}
use Rattle.shape_eval.proofs.own_rows.pattern_rows.Goals as goal

pub returns-in-None : goal.returns-in-None
returns-in-None g c = λ ids s n shapes.
    let terms = c.args.evaluation.now.terms in
    let none = ap (read_pattern (term_at terms)) c.in-None.is in
    rw c.new.ensures.items (collects_none (PatternRow (around terms ids s n c.args.values.now c.args.focus) shapes (read_shape (term_at terms) c.args.shape.now) (term_at terms c.args.focus))
    (λ r h. let is = h.1 in cc (none, is)))

pub matcher_of-requires : goal.matcher_of-requires
matcher_of-requires g c =
    let terms = c.args.evaluation.now.terms in
    let q = term_at terms c.in-Some.built.parameter in
    let b = subst (λ (o : Option (CompiledPattern ℕ)). MatchOption o (Unit {0}) (λ p. (text : List ℕ) × HasFlagsText (read_optional (term_at terms) c.args.shape.now.flags) text × IsPatternOf (term_at terms p.parameter) text (arc_value p.regex))) c.in-Some.is c.requires.built in
    let is : IsPatternOf q c.flags_text-flags.result.now c.deref.result.now =
    subst (λ (regex : Regex). IsPatternOf q c.flags_text-flags.result.now regex) (sym c.deref.ensures)
    (subst (λ (text : List ℕ). IsPatternOf q text (arc_value c.in-Some.built.regex)) (sym (c.flags_text-flags.ensures b.0 b.1)) b.2) in
    record { config = is.config; read = is.read }

pub returns-in_ok-matcher-in-Some : goal.returns-in_ok-matcher-in-Some
returns-in_ok-matcher-in-Some g c =
    let terms = c.args.evaluation.now.terms in
    let shape = c.args.shape.now in
    let values = c.args.values.now in
    let f = term_at terms c.args.focus in
    let read = read_shape (term_at terms) shape in
    let q = term_at terms c.in-Some.built.parameter in
    let is : read.pattern ≡ Some q = ap (read_pattern (term_at terms)) c.in-Some.is in
    let b = subst (λ (o : Option (CompiledPattern ℕ)). MatchOption o (Unit {0}) (λ p. (text : List ℕ) × HasFlagsText (read_optional (term_at terms) shape.flags) text × IsPatternOf (term_at terms p.parameter) text (arc_value p.regex))) c.in-Some.is c.requires.built in
    let kept : c.in_ok-matcher-in-Some.matcher.now ≡ searched (arc_value c.in-Some.built.regex) b.0 =
    c.in_ok-matcher-in-Some.ensures ∙ ap (λ (regex : Regex). searched regex c.flags_text-flags.result.now) c.deref.ensures ∙ ap (searched (arc_value c.in-Some.built.regex)) (c.flags_text-flags.ensures b.0 b.1) in
    let Listed : Searched → Spot → Type 0 = λ m x. string_value (term_at x.terms x.parameter) ≡ Some m.source → IfOk c.pattern.result (λ rows. ListsAt components.Pattern (at_values x) (with_flags m.flags) x rows.items) in
    let listed = subst (λ (x : Spot). Listed (searched (arc_value c.in-Some.built.regex) b.0) x) c.site-site.ensures
    (subst (λ (m : Searched). Listed m c.site-site.result) kept c.pattern.ensures.rows) in
    IfOk-weaker c.pattern.result
    (λ rows. ListsRows components.Pattern (at_nodes (HasNode terms values)) (with_flags b.0) read.node f q rows.items)
    (λ rows. (ids : List Ids) (s : List Triple) (n : ℕ) (shapes : List ReadShape) → Collects (PatternRow (around terms ids s n values c.args.focus) shapes read f) rows.items)
    (λ rows h ids s n shapes.
    let around_it = around terms ids s n values c.args.focus in
    collects_same (RowsOf components.Pattern around_it (with_flags b.0) q (row_of components.Pattern read.node f q)) (PatternRow around_it shapes read f) rows.items
    (λ r. let same = pattern_same b.0 around_it shapes read b.1 q (row_of components.Pattern read.node f q) r in (
      (λ a. (q, is, same.0 a)),
      (λ k. same.1 (subst (λ (x : Term). RowsOf components.Pattern around_it (shape_reading shapes read) x (row_of components.Pattern read.node f x) r) (only_some read.pattern k.0 q k.1 is) k.2)),
    )) h.members)
    (listed b.2.source)
