-- The looks from node to node are those of the rows.
use Rattle.std.proofs.Common.{◌≡◌, ℕ, zero, suc, List, [], ◌∷◌, ◌++◌, length, refl, sym, subst, inl, inr}
use Rattle.std.specs.Prelude.{Bool, true, false}
use Rattle.rdf_model.specs.declared.term.Term.{Term}
use Rattle.rdf_model.specs.declared.triple.Triple.{Triple}
use Rattle.rdf_model.specs.declared.look.Look.{Look}
use Rattle.shape_model.specs.Instances.{class_path}
use Rattle.shape_model.specs.Laws.{ReadsLaw}
use Rattle.shape_model.specs.Looks.{ByIn, ByOut, ByOutAny, LookRow, PathLook, SomeLook, ThroughLook, look_at, directed, directed_all}
use Rattle.shape_model.specs.Paths.{Also, Alternative, Inverse, Last, OneOrMore, Path, Paths, Predicate, Sequence, ZeroOrMore, ZeroOrOne}
use Rattle.shape_model.specs.Readings.{Reading, ValueNode, reading}
use Rattle.shape_model.specs.NodeLooks.{IsLook, PathReads, ShapeReads, SomeReads, ThroughReads}
use Rattle.shape_model.specs.ShapeLooks.{ShapeLookDepth, ValueWay}
use Rattle.shape_model.specs.Walks.{Walk, Walks}
use Rattle.shape_model.proofs.Walks.{way_more}
use Rattle.shape_model.proofs.Covers.{value_way}

-- the last step of a way
way_last : (g : List Triple) (q : List Path) (p : Path) (x z : Term) → Walks g (q ++ p ∷ []) x z → (y : Term) × Walks g q x y × Walk g p y z
way_last g [] p x z w = (x, refl, subst (λ (a : Term). Walk g p x a) w.2 w.1)
way_last g (a ∷ q) p x z w = let k : (y : Term) × Walks g q w.0 y × Walk g p y z = way_last g q p w.0 z w.2 in (k.0, (w.0, w.1, k.1), k.2)

module _ (g : List Triple) (f : Term) (look : Look Term) where
  one_row : (r : LookRow) → IsLook g (λ row. row ≡ r) f look → (z : Term) × Walks g r.way f z × (look ≡ look_at r.kind z)
  one_row r i = subst (λ (k : LookRow). (z : Term) × Walks g k.way f z × (look ≡ look_at k.kind z)) i.1 i.2

  weaker : (P Q : LookRow → Type 0) → ((row : LookRow) → P row → Q row) → IsLook g P f look → IsLook g Q f look
  weaker P Q k i = (i.0, k i.0 i.1, i.2)

  mutual
    pub path_row : (p : Path) (reversed : Bool) (q : List Path) (x : Term) → Walks g q f x → PathReads g reversed p x look → IsLook g (PathLook reversed p q) f look
    path_row (Predicate p) false q x w i = (record { way = q; kind = ByOut p }, refl, (x, w, i))
    path_row (Predicate p) true q x w i = (record { way = q; kind = ByIn p }, refl, (x, w, i))
    path_row (Inverse p) false q x w i = path_row p true q x w i
    path_row (Inverse p) true q x w i = path_row p false q x w i
    path_row (Sequence ps) reversed q x w i = through_row ps reversed q x w i
    path_row (Alternative ps) reversed q x w i = some_row ps reversed q x w i
    path_row (ZeroOrMore p) reversed q x w i = path_row p reversed (q ++ ZeroOrMore (directed reversed p) ∷ []) i.0 (way_more g q (ZeroOrMore (directed reversed p)) f x i.0 w i.1) i.2
    path_row (OneOrMore p) reversed q x w i = path_row p reversed (q ++ ZeroOrMore (directed reversed p) ∷ []) i.0 (way_more g q (ZeroOrMore (directed reversed p)) f x i.0 w i.1) i.2
    path_row (ZeroOrOne p) reversed q x w i = path_row p reversed q x w i

    pub through_row : (ps : Paths) (reversed : Bool) (q : List Path) (x : Term) → Walks g q f x → ThroughReads g reversed ps x look → IsLook g (ThroughLook reversed ps q) f look
    through_row (Last p) reversed q x w i = path_row p reversed q x w i
    through_row (Also p ps) false q x w i = elim i [
      | inl j ↦ weaker (PathLook false p q) (ThroughLook false (Also p ps) q) (λ row k. inl k) (path_row p false q x w j)
      | inr j ↦ weaker (ThroughLook false ps (q ++ p ∷ [])) (ThroughLook false (Also p ps) q) (λ row k. inr k) (through_row ps false (q ++ p ∷ []) j.0 (way_more g q p f x j.0 w j.1) j.2)
    ]
    through_row (Also p ps) true q x w i = elim i [
      | inl j ↦ weaker (ThroughLook true ps q) (ThroughLook true (Also p ps) q) (λ row k. inl k) (through_row ps true q x w j)
      | inr j ↦ weaker (PathLook true p (q ++ directed_all true ps ∷ [])) (ThroughLook true (Also p ps) q) (λ row k. inr k) (path_row p true (q ++ directed_all true ps ∷ []) j.0 (way_more g q (directed_all true ps) f x j.0 w j.1) j.2)
    ]

    pub some_row : (ps : Paths) (reversed : Bool) (q : List Path) (x : Term) → Walks g q f x → SomeReads g reversed ps x look → IsLook g (SomeLook reversed ps q) f look
    some_row (Last p) reversed q x w i = path_row p reversed q x w i
    some_row (Also p ps) reversed q x w i = elim i [
      | inl j ↦ weaker (PathLook reversed p q) (SomeLook reversed (Also p ps) q) (λ row k. inl k) (path_row p reversed q x w j)
      | inr j ↦ weaker (SomeLook reversed ps q) (SomeLook reversed (Also p ps) q) (λ row k. inr k) (some_row ps reversed q x w j)
    ]

  -- and back
  step : (q : List Path) (p : Path) (P Q : Term → Type 0) → ((x z : Term) → Walk g p x z → P z → Q x) → (x : Term) × Walks g (q ++ p ∷ []) f x × P x → (x : Term) × Walks g q f x × Q x
  step q p P Q k i = let l = way_last g q p f i.0 i.1 in (l.0, l.1, k l.0 i.0 l.2 i.2)

  mutual
    pub row_path : (p : Path) (reversed : Bool) (q : List Path) → IsLook g (PathLook reversed p q) f look → (x : Term) × Walks g q f x × PathReads g reversed p x look
    row_path (Predicate p) false q i = one_row (record { way = q; kind = ByOut p }) i
    row_path (Predicate p) true q i = one_row (record { way = q; kind = ByIn p }) i
    row_path (Inverse p) false q i = row_path p true q i
    row_path (Inverse p) true q i = row_path p false q i
    row_path (Sequence ps) reversed q i = row_through ps reversed q i
    row_path (Alternative ps) reversed q i = row_some ps reversed q i
    row_path (ZeroOrMore p) reversed q i = step q (ZeroOrMore (directed reversed p)) (λ z. PathReads g reversed p z look) (λ x. PathReads g reversed (ZeroOrMore p) x look) (λ x z w j. (z, w, j)) (row_path p reversed (q ++ ZeroOrMore (directed reversed p) ∷ []) i)
    row_path (OneOrMore p) reversed q i = step q (ZeroOrMore (directed reversed p)) (λ z. PathReads g reversed p z look) (λ x. PathReads g reversed (OneOrMore p) x look) (λ x z w j. (z, w, j)) (row_path p reversed (q ++ ZeroOrMore (directed reversed p) ∷ []) i)
    row_path (ZeroOrOne p) reversed q i = row_path p reversed q i

    pub row_through : (ps : Paths) (reversed : Bool) (q : List Path) → IsLook g (ThroughLook reversed ps q) f look → (x : Term) × Walks g q f x × ThroughReads g reversed ps x look
    row_through (Last p) reversed q i = row_path p reversed q i
    row_through (Also p ps) false q i = elim i.1 [
      | inl j ↦ let k = row_path p false q (i.0, j, i.2) in (k.0, k.1, inl k.2)
      | inr j ↦ step q p (λ z. ThroughReads g false ps z look) (λ x. ThroughReads g false (Also p ps) x look) (λ x z w k. inr (z, w, k)) (row_through ps false (q ++ p ∷ []) (i.0, j, i.2))
    ]
    row_through (Also p ps) true q i = elim i.1 [
      | inl j ↦ let k = row_through ps true q (i.0, j, i.2) in (k.0, k.1, inl k.2)
      | inr j ↦ step q (directed_all true ps) (λ z. PathReads g true p z look) (λ x. ThroughReads g true (Also p ps) x look) (λ x z w k. inr (z, w, k)) (row_path p true (q ++ directed_all true ps ∷ []) (i.0, j, i.2))
    ]

    pub row_some : (ps : Paths) (reversed : Bool) (q : List Path) → IsLook g (SomeLook reversed ps q) f look → (x : Term) × Walks g q f x × SomeReads g reversed ps x look
    row_some (Last p) reversed q i = row_path p reversed q i
    row_some (Also p ps) reversed q i = elim i.1 [
      | inl j ↦ let k = row_path p reversed q (i.0, j, i.2) in (k.0, k.1, inl k.2)
      | inr j ↦ let k = row_some ps reversed q (i.0, j, i.2) in (k.0, k.1, inr k.2)
    ]

  -- the end of the way to a value node is one
  way_value : (y : Reading) (q w : List Path) (v : Term) → ValueWay y q w → Walks g w f v → (x : Term) × Walks g q f x × ValueNode g y x v
  way_value y q w v i k = elim i [
    | inl n ↦ (v, subst (λ (l : List Path). Walks g l f v) n.1 k, inl (n.0, refl))
    | inr n ↦ let l = way_last g q n.0 f v (subst (λ (l : List Path). Walks g l f v) n.2 k) in (l.0, l.1, inr (n.0, n.1, l.2))
  ]

  shape_row : (readings : Term → Reading) (n : ℕ) (shape : Term) (q : List Path) (x : Term) → Walks g q f x → ShapeReads n g readings shape x look → IsLook g (ShapeLookDepth n readings shape q) f look
  shape_row readings zero shape q x w i = absurd i
  shape_row readings (suc n) shape q x w i = elim i.1 [
    | inl j ↦ weaker (PathLook false j.0 q) (ShapeLookDepth (suc n) readings shape q) (λ row k. (i.0, inl (j.0, j.1, k))) (path_row j.0 false q x w j.2)
    | inr (inl j) ↦ let e = value_way g (readings shape) f q x j.1 w j.3 in
        weaker (PathLook false class_path e.0) (ShapeLookDepth (suc n) readings shape q) (λ row k. (i.0, inr (inl (j.0, e.0, j.2, e.1, k)))) (path_row class_path false e.0 j.1 e.2 j.4)
    | inr (inr (inl j)) ↦ (record { way = q; kind = ByOut j.0 }, (i.0, inr (inr (inl (j.0, j.1, refl)))), (x, w, j.2))
    | inr (inr (inr (inl j))) ↦ let e = value_way g (readings shape) f q x j.1.0 w j.1.1 in
        (record { way = e.0; kind = ByOutAny }, (i.0, inr (inr (inr (inl (j.0, (e.0, e.1, refl)))))), (j.1.0, e.2, j.1.2))
    | inr (inr (inr (inr j))) ↦ let e = value_way g (readings shape) f q x j.1 w j.3 in
        weaker (ShapeLookDepth n readings j.0 e.0) (ShapeLookDepth (suc n) readings shape q) (λ row k. (i.0, inr (inr (inr (inr (j.0, e.0, j.2, e.1, k)))))) (shape_row readings n j.0 e.0 j.1 e.2 j.4)
  ]

  row_shape : (readings : Term → Reading) (n : ℕ) (shape : Term) (q : List Path) → IsLook g (ShapeLookDepth n readings shape q) f look → (x : Term) × Walks g q f x × ShapeReads n g readings shape x look
  row_shape readings zero shape q i = absurd i.1
  row_shape readings (suc n) shape q i = elim i.1.1 [
    | inl j ↦ let k = row_path j.0 false q (i.0, j.2, i.2) in (k.0, k.1, (i.1.0, inl (j.0, j.1, k.2)))
    | inr (inl j) ↦ let k = row_path class_path false j.1 (i.0, j.4, i.2) in let v = way_value (readings shape) q j.1 k.0 j.3 k.1 in
        (v.0, v.1, (i.1.0, inr (inl (j.0, k.0, j.2, v.2, k.2))))
    | inr (inr (inl j)) ↦ let k = one_row (record { way = q; kind = ByOut j.0 }) (i.0, j.2, i.2) in (k.0, k.1, (i.1.0, inr (inr (inl (j.0, j.1, k.2)))))
    | inr (inr (inr (inl j))) ↦ let k = one_row (record { way = j.1.0; kind = ByOutAny }) (i.0, j.1.2, i.2) in let v = way_value (readings shape) q j.1.0 k.0 j.1.1 k.1 in
        (v.0, v.1, (i.1.0, inr (inr (inr (inl (j.0, (k.0, v.2, k.2)))))))
    | inr (inr (inr (inr j))) ↦ let k = row_shape readings n j.0 j.1 (i.0, j.4, i.2) in let v = way_value (readings shape) q j.1 k.0 j.3 k.1 in
        (v.0, v.1, (i.1.0, inr (inr (inr (inr (j.0, k.0, j.2, v.2, k.2))))))
  ]

pub reads_law : ReadsLaw
reads_law g s shape f look = (
  λ i. shape_row g f look (reading s) (suc (length s)) shape [] f refl i,
  λ i. let k = row_shape g f look (reading s) (suc (length s)) shape [] i in subst (λ (x : Term). ShapeReads (suc (length s)) g (reading s) shape x look) (sym k.1) k.2,
)
