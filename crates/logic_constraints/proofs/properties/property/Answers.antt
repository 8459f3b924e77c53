use Rattle.std.proofs.Common.{◌≡◌, ◌∙◌, [], ◌∷◌, ◌++◌, append_assoc, ap, map, subst, sym}
use Rattle.std.specs.List.{Contains}
use Rattle.std.specs.Vec.Iter.{into_iter_items}
use Rattle.std.proofs.lemmas.List.{append-nil, length-map}
use Rattle.component_rows.specs.Listed.{Collects}
use Rattle.component_rows.proofs.Collecting.{FromSome, lists_sorted}
use Rattle.shape_model.specs.Components.{PropertyRow}
use Rattle.logic_constraints.specs.Properties.{told_rows, with_property}
use Rattle.logic_constraints.proofs.Places.{list_more, lists_joined, nothing_left, told}
use Rattle.logic_constraints.proofs.properties.property.Goals as goal

pub loop-list-preserved : goal.loop-list-preserved
loop-list-preserved c =
    let before = c.loop-list.yielded in
    record {
      rest = append_assoc before (c.in-Some.list ∷ []) (into_iter_items c.next.new.self) ∙ ap (λ lists. before ++ lists) (sym c.in-Some.ensures.steps.0) ∙ c.loop-list.invariant.rest;
      rows = list_more (λ list. list.items) before c.in-Some.list c.loop-list.all.items c.append.new.self.items c.in_ok-append.ensures.items c.loop-list.invariant.rows;
    }

pub returns : goal.returns
returns c = λ terms shape.
    let lists = c.args.rows.items in
    let before = c.loop-list.yielded in
    let left = c.loop-list.list-iterator in
    let none = nothing_left (into_iter_items left) (sym left.rest.ok.0 ∙ c.in-None.ensures.steps.0) in
    let yielded : before ≡ lists = sym (append-nil before) ∙ ap (λ lists. before ++ lists) (sym none) ∙ c.loop-list.invariant.rest in
    let rows = subst (λ ls. Collects (FromSome ls (λ list r. Contains list.items r)) c.loop-list.all.items) yielded c.loop-list.invariant.rows in
    lists_sorted (PropertyRow (told_rows terms c.args.values.now (map (λ list. list.items) lists)) (with_property shape)) c.loop-list.all.items c.in_ok-sorted_once.field-0.items
    (told terms c.args.values.now shape (map (λ list. list.items) lists) c.loop-list.all.items (length-map lists (λ list. list.items) ∙ c.requires) (lists_joined (λ list. list.items) lists c.loop-list.all.items rows))
    c.in_ok-sorted_once.ensures
