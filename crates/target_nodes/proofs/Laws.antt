-- What declarations say of a shape gives the targets, and the looks that decide them, of each declaration.
use Rattle.std.proofs.Common.{◌≡◌, ℕ, List, [], false, refl, sym, subst, inl, inr}
use Rattle.std.specs.Prelude.{◌↔◌}
use Rattle.std.specs.List.{Contains}
use Rattle.rdf_model.specs.declared.term.Term.{Term}
use Rattle.rdf_model.specs.declared.triple.Triple.{Triple}
use Rattle.rdf_model.specs.declared.look.Look.{Look}
use Rattle.rdf_model.specs.declared.look.Look.TheVariants.{Out, In}
use Rattle.rdf_model.specs.Numbers.{term_at}
use Rattle.shape_model.specs.Triples.{Has}
use Rattle.shape_model.specs.Instances.{Instance, class_path}
use Rattle.shape_model.specs.Targets.{TargetOf}
use Rattle.shape_model.specs.Walks.{Walks}
use Rattle.shape_model.specs.Looks.{LookRow, ByOut, ByIn, PathLook, look_at}
use Rattle.shape_model.specs.ShapeLooks.{TargetLook}
use Rattle.shape_model.specs.NodeLooks.{IsLook, PathReads}
use Rattle.shape_model.proofs.NodeLooks.{path_row, row_path}
use Rattle.shape_ast.specs.declared.target.Target.{Target}
use Rattle.shape_ast.specs.declared.target.Target.TheVariants.{Node, Class, ImplicitClass, SubjectsOf, ObjectsOf}
use Rattle.target_nodes.specs.Declarations.{DecidesBy, DecidesBySome, IsTargetBy, IsTargetBySome, declared_reading}

module _ (terms : List Term) (g : List Triple) (ts : List (Target ℕ)) where
  some_target : (shape f : Term) → TargetOf g (declared_reading terms ts) shape f → IsTargetBySome terms g shape ts f
  some_target shape f = elim [
    | inl h ↦ (Node h.0, h.1, h.2)
    | inr (inl h) ↦ (Class h.1.0, h.1.1, subst (λ (c : Term). Instance g f c) (sym h.1.2) h.2)
    | inr (inr (inl h)) ↦ (ImplicitClass, h.0, h.1)
    | inr (inr (inr (inl h))) ↦ (SubjectsOf h.1.0, h.1.1, subst (λ (p : Term). (o : Term) × Has g f p o) (sym h.1.2) h.2)
    | inr (inr (inr (inr h))) ↦ (ObjectsOf h.1.0, h.1.1, subst (λ (p : Term). (x : Term) × Has g x p f) (sym h.1.2) h.2)
  ]

  target_some : (shape f : Term) (t : Target ℕ) → Contains ts t → IsTargetBy terms g shape t f → TargetOf g (declared_reading terms ts) shape f
  target_some shape f (Node n) c h = inl (n, c, h)
  target_some shape f (Class n) c h = inr (inl (term_at terms n, (n, c, refl), h))
  target_some shape f ImplicitClass c h = inr (inr (inl (c, h)))
  target_some shape f (SubjectsOf n) c h = inr (inr (inr (inl (term_at terms n, (n, c, refl), h))))
  target_some shape f (ObjectsOf n) c h = inr (inr (inr (inr (term_at terms n, (n, c, refl), h))))

  pub target_law : (shape f : Term) → TargetOf g (declared_reading terms ts) shape f ↔ IsTargetBySome terms g shape ts f
  target_law shape f = (some_target shape f, λ h. target_some shape f h.0 h.1 h.2)

  module _ (f : Term) (look : Look Term) where
    class_reads : IsLook g (PathLook false class_path []) f look → PathReads g false class_path f look
    class_reads i = let k = row_path g f look class_path false [] i in subst (λ (x : Term). PathReads g false class_path x look) (sym k.1) k.2

    class_rows : PathReads g false class_path f look → IsLook g (PathLook false class_path []) f look
    class_rows h = path_row g f look class_path false [] f refl h

    one_row : (r : LookRow) → r.way ≡ [] → (row : LookRow) → row ≡ r → (z : Term) × Walks g row.way f z × (look ≡ look_at row.kind z) → look ≡ look_at r.kind f
    one_row r none row e i =
        let j : (z : Term) × Walks g r.way f z × (look ≡ look_at r.kind z) = subst (λ (k : LookRow). (z : Term) × Walks g k.way f z × (look ≡ look_at k.kind z)) e i in
        let same : f ≡ j.0 = subst (λ (q : List _). Walks g q f j.0) none j.1 in
        subst (λ (z : Term). look ≡ look_at r.kind z) (sym same) j.2

    some_decides : IsLook g (TargetLook (declared_reading terms ts)) f look → DecidesBySome terms g ts f look
    some_decides i = elim i.1 [
      | inl h ↦ (Class h.1.0, h.1.1, class_reads (i.0, h.2, i.2))
      | inr (inl h) ↦ (ImplicitClass, h.0, class_reads (i.0, h.1, i.2))
      | inr (inr (inl h)) ↦ (SubjectsOf h.1.0, h.1.1, subst (λ (p : Term). look ≡ Out f p) (sym h.1.2) (one_row (record { way = []; kind = ByOut h.0 }) refl i.0 h.2 i.2))
      | inr (inr (inr h)) ↦ (ObjectsOf h.1.0, h.1.1, subst (λ (p : Term). look ≡ In p f) (sym h.1.2) (one_row (record { way = []; kind = ByIn h.0 }) refl i.0 h.2 i.2))
    ]

    decides_some : (t : Target ℕ) → Contains ts t → DecidesBy terms g t f look → IsLook g (TargetLook (declared_reading terms ts)) f look
    decides_some (Node n) c h = absurd h
    decides_some (Class n) c h = let k = class_rows h in (k.0, inl (term_at terms n, (n, c, refl), k.1), k.2)
    decides_some ImplicitClass c h = let k = class_rows h in (k.0, inr (inl (c, k.1)), k.2)
    decides_some (SubjectsOf n) c h = (record { way = []; kind = ByOut (term_at terms n) }, inr (inr (inl (term_at terms n, (n, c, refl), refl))), (f, refl, h))
    decides_some (ObjectsOf n) c h = (record { way = []; kind = ByIn (term_at terms n) }, inr (inr (inr (term_at terms n, (n, c, refl), refl))), (f, refl, h))

    pub look_law : IsLook g (TargetLook (declared_reading terms ts)) f look ↔ DecidesBySome terms g ts f look
    look_law = (some_decides, λ h. decides_some h.0 h.1 h.2)
