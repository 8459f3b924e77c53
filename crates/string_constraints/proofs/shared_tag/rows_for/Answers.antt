use Rattle.std.proofs.Common.{◌≡◌, ◌∙◌, ℕ, List, [], ◌∷◌, ◌++◌, append-nil, append_assoc, ap, sym, subst}
use Rattle.shape_model.specs.declared.result_row.ResultRow.{ResultRow}
use Rattle.shape_model.specs.declared.component.Component.TheVariants as components
use Rattle.component_rows.specs.Sites.{site_row}
use Rattle.component_rows.specs.Listed.{Collects}
use Rattle.component_rows.proofs.Collecting.{FromSome, from_more, collects_one, lists_sorted}
use Rattle.string_constraints.specs.Languages.{found_for}
use Rattle.string_constraints.proofs.Tags.{nothing_left}
use Rattle.string_constraints.proofs.shared_tag.rows_for.Goals as goal

pub loop-tag-preserved : goal.loop-tag-preserved
loop-tag-preserved g c =
    let row : List ℕ → ResultRow = λ t. site_row components.UniqueLang c.args.site.now (found_for t) in
    let before = c.loop-tag.invariant in
    let tag = c.in-Some.tag in (
      before.0 ++ tag ∷ [],
      before.1 ∙ ap (λ (ts : List (List ℕ)). before.0 ++ ts) c.in-Some.ensures.removal ∙ sym (append_assoc before.0 (tag ∷ []) c.pop_first.new.self.keys),
      subst (λ (rows : List ResultRow). Collects (FromSome (before.0 ++ tag ∷ []) (λ t r. r ≡ row t)) rows) (sym c.in_ok-push.ensures.items)
          (from_more (λ t r. r ≡ row t) before.0 tag c.loop-tag.rows.items (c.in_ok-row_for.field-0 ∷ []) before.2
          (collects_one (λ r. r ≡ row tag) c.in_ok-row_for.field-0 c.in_ok-row_for.ensures (λ r e. e ∙ sym c.in_ok-row_for.ensures))),
    )

pub returns : goal.returns
returns g c =
    let row : List ℕ → ResultRow = λ t. site_row components.UniqueLang c.args.site.now (found_for t) in
    let before = c.loop-tag.invariant in
    let none = nothing_left c.loop-tag.rest.keys c.in_default.ensures.variant.1 in
    let all : c.args.tags.keys ≡ before.0 = before.1 ∙ ap (λ (ts : List (List ℕ)). before.0 ++ ts) none ∙ append-nil before.0 in
    lists_sorted (FromSome c.args.tags.keys (λ t r. r ≡ row t)) c.loop-tag.rows.items c.in_ok-sorted_once.field-0.items
    (subst (λ (ts : List (List ℕ)). Collects (FromSome ts (λ t r. r ≡ row t)) c.loop-tag.rows.items) (sym all) before.2)
    c.in_ok-sorted_once.ensures
