-- Results about pairs.
use Rattle.std.proofs.Common.{◌≡◌, ℕ, List, subst}
use Rattle.std.specs.List.{Contains}
use Rattle.rdf_model.specs.declared.term.Term.{Term}
use Rattle.shape_model.specs.declared.component.Component.{Component}
use Rattle.shape_model.specs.declared.result_row.ResultRow.{ResultRow}
use Rattle.shape_model.specs.Components.{found_beside}
use Rattle.shape_model.specs.Triples.{Has}
use Rattle.plain_values.specs.declared.site.PlainSite.{PlainSite}
use Rattle.plain_values.specs.Around.{row_at}
use Rattle.plain_components.specs.Rows.{PairRow, PairsAt, SharedRow, TagRow, TagsAt}
use Rattle.plain_components.specs.Pairs.{Stands}
use Rattle.plain_values.proofs.Languages.{one_tag}
use Rattle.shape_model.specs.TermTests.{HasTag}
use Rattle.plain_terms.specs.Finds.{Finds, WithSome}
use Rattle.plain_terms.proofs.FoundItems.{finds_at, finds_same}

pub beside_made : (at : PlainSite) (c : Component) (q : Term) (v : Term) (others chosen nodes : List Term) (rows : List ResultRow) → nodes ≡ chosen → Finds (λ w. Contains others w × (Stands c v w → ⊥)) chosen
    → Finds (WithSome nodes (λ w r. r ≡ row_at at c q (found_beside v w))) rows → Finds (PairRow at c q others v) rows
beside_made at c q v others chosen nodes rows e h k =
    let there = finds_at (λ w. Contains others w × (Stands c v w → ⊥)) chosen nodes e h in
    finds_same (WithSome nodes (λ w r. r ≡ row_at at c q (found_beside v w))) (PairRow at c q others v) rows (λ r. (
      λ w. let x = (there.members w.0).0 w.1 in (w.0, x.0, x.1, w.2),
      λ w. (w.0, (there.members w.0).1 (w.1, w.2), w.3),
    )) k

pub pairs_made : (at : PlainSite) (c : Component) (q : Term) (found others : List Term) (rows : List ResultRow) → Finds (Has at.graph.now at.focus.now q) found → others ≡ found → Finds (WithSome at.values.now (PairRow at c q others)) rows
    → Finds (PairsAt at c q (Stands c)) rows
pairs_made at c q found others rows there e k = let h = finds_at (Has at.graph.now at.focus.now q) found others e there in finds_same (WithSome at.values.now (PairRow at c q others)) (PairsAt at c q (Stands c)) rows (λ r. (
  λ w. (w.0, w.2.0, w.1, (h.members w.2.0).0 w.2.1, w.2.2, w.2.3),
  λ w. (w.0, w.2, (w.1, (h.members w.1).1 w.3, w.4, w.5)),
)) k

pub tags_made : (at : PlainSite) (q : Term) (rows : List ResultRow) → Finds (WithSome at.values.now (TagRow at q)) rows → Finds (TagsAt at q) rows
tags_made at q rows k = finds_same (WithSome at.values.now (TagRow at q)) (TagsAt at q) rows (λ r. (
  λ w. let x = w.2.2.0 in (w.2.0, w.0, x.0, x.2.0, w.1, x.1, w.2.1, x.2.1, w.2.2.1),
  λ w. (w.1, w.4, (w.0, w.6, ((w.2, w.5, (w.3, w.7)), w.8))),
)) k

pub tag_made : (at : PlainSite) (q v : Term) (tag : List ℕ) (rows : List ResultRow) → HasTag tag v → Finds (SharedRow at q tag v) rows → Finds (TagRow at q v) rows
tag_made at q v tag rows h k = finds_same (SharedRow at q tag v) (TagRow at q v) rows (λ r. (
  λ w. (tag, h, w),
  λ w. subst (λ (t : List ℕ). SharedRow at q t v r) (one_tag v w.0 tag w.1 h) w.2,
)) k
