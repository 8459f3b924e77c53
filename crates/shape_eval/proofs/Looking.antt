-- Looks that are made item by item while a shape is evaluated.
use Rattle.std.proofs.Common.{◌≡◌, ℕ, ◌+◌, ◌<◌, ◌≤◌, List, [], ◌∷◌, ◌++◌, length, map, take, get_or, IfOk, refl, sym, subst}
use Rattle.std.specs.Prelude.{Err, Ok, Result}
use Rattle.std.proofs.lemmas.List.{get_or_default, take_all}
use Rattle.std.specs.List.{Contains}
use Rattle.std.proofs.lemmas.List.Elements.{Contains-append_left, Contains-get_or}
use Rattle.rdf_model.specs.declared.term.Term.{Term}
use Rattle.rdf_model.specs.declared.ids.Ids.{Ids}
use Rattle.rdf_model.specs.declared.look.Look.{Look}
use Rattle.rdf_model.specs.declared.look.Look.TheVariants.{OutAny}
use Rattle.rdf_model.specs.declared.look.Look.TheVariants as looks
use Rattle.rdf_model.specs.Numbers.{IsNumbering, graph_of, term_at}
use Rattle.shape_model.specs.Limits.{levels_limit}
use Rattle.shape_model.specs.NodeLooks.{IsLook, ShapeReads}
use Rattle.shape_model.specs.Readings.{reading}
use Rattle.shape_model.specs.ShapeLooks.{ResultLook}
use Rattle.shape_model.proofs.NodeLooks.{reads_law}
use Rattle.component_rows.specs.Nodes.{AreNodes}
use Rattle.component_rows.proofs.Collecting.{mapped_from, mapped_to}
use Rattle.path_eval.specs.Naming.{AddsLooks}
use Rattle.collections.specs.Listings.{Keeps}
use Rattle.path_eval.proofs.Footprints.{looks_none, looks_one, looks_same, next_looks, none_before}
use Rattle.shape_ast.specs.declared.shape.Shape.{Shape}
use Rattle.shape_ast.specs.Readings.{named_shapes, read_shape}
use Rattle.shape_eval.specs.Looks.{AddsAt, AddsAtEach, AddsAtPlaces, AddsShapeLooks, PlaceReads, ReadsAtEach, ReadsOfSome}
use Rattle.shape_eval.specs.Results.{AtPlace}
use Rattle.shape_eval.proofs.LookDepths.{look_depth}
use Rattle.shape_eval.proofs.Lookups.{at_place, named_place, one_at}

-- what holds anyway holds where there is a value
pub always : {X Y : Type 0} → (r : Result X Y) (P : X → Type 0) → ((x : X) → P x) → IfOk r P
always (Ok x) P all = all x
always (Err y) P all = tt

-- what was there is there beside one look more
pub kept_added : (old new : List (Look ℕ)) (look : Look ℕ) → new ≡ old ++ look ∷ [] → Keeps old new
kept_added old new look is l h = subst (λ (ls : List (Look ℕ)). Contains ls l) (sym is) (Contains-append_left old (look ∷ []) l h)

module _ (terms : List Term) {X : Type 0} (Reads : X → Look Term → Type 0) where
  -- no item has looks
  pub reads_none : (old : List (Look ℕ)) → AddsLooks terms (ReadsOfSome [] Reads) old old
  reads_none old = looks_none terms (ReadsOfSome [] Reads) (λ l. none_before (λ x. Reads x l)) old

  -- one item more
  pub reads_more : (xs : List X) (i : ℕ) (d : X) → i < length xs → (old mid new : List (Look ℕ)) → AddsLooks terms (ReadsOfSome (take i xs) Reads) old mid → AddsLooks terms (Reads (get_or xs i d)) mid new
      → AddsLooks terms (ReadsOfSome (take (i + 1) xs) Reads) old new
  reads_more xs i d lt old mid new a b = next_looks terms Reads xs i (get_or xs i d) lt (get_or_default xs i d (get_or xs i d) lt) old mid new a b

  pub reads_all : (xs : List X) (i : ℕ) → length xs ≤ i → (old new : List (Look ℕ)) → AddsLooks terms (ReadsOfSome (take i xs) Reads) old new → AddsLooks terms (ReadsOfSome xs Reads) old new
  reads_all xs i le old new a = subst (λ (ys : List X). AddsLooks terms (ReadsOfSome ys Reads) old new) (take_all i xs le) a

-- by items, and by what they stand for
pub reads_mapped : (terms : List Term) {X Y : Type 0} (h : X → Y) (xs : List X) (Reads : Y → Look Term → Type 0) (old new : List (Look ℕ)) → AddsLooks terms (ReadsOfSome xs (λ x. Reads (h x))) old new → AddsLooks terms (ReadsOfSome (map h xs) Reads) old new
reads_mapped terms {X} {Y} h xs Reads old new a = looks_same terms (ReadsOfSome xs (λ x. Reads (h x))) (ReadsOfSome (map h xs) Reads) (λ l. (
  λ i. (h i.0, mapped_to h xs i.0 i.1, i.2),
  λ i. let k = mapped_from h xs i.0 i.1 in (k.0, k.1, subst (λ (y : Y). Reads y l) (sym k.2) i.2),
)) old new a

-- at the value nodes
module _ (terms : List Term) (ids : List Ids) (shapes : List (Shape ℕ)) (levels place : ℕ) where
  abbrev pub LookedUpTo : List ℕ → ℕ → List (Look ℕ) → List (Look ℕ) → Type 0
  LookedUpTo values i old now = AtPlace terms shapes place (λ s c. AddsLooks terms (ReadsOfSome (take i values) (λ v. ShapeReads levels (graph_of terms ids) (reading s) c.node (term_at terms v))) old now)

  pub looked_none : (values : List ℕ) (old : List (Look ℕ)) → LookedUpTo values 0 old old
  looked_none values old s c stand at = reads_none terms (λ (v : ℕ). ShapeReads levels (graph_of terms ids) (reading s) c.node (term_at terms v)) old

  pub looked_more : (values : List ℕ) (i : ℕ) → i < length values → (old mid new : List (Look ℕ)) → LookedUpTo values i old mid → AddsAt terms ids shapes levels place (get_or values i 0) mid new → LookedUpTo values (i + 1) old new
  looked_more values i lt old mid new before h s c stand at =
      reads_more terms (λ (v : ℕ). ShapeReads levels (graph_of terms ids) (reading s) c.node (term_at terms v)) values i 0 lt old mid new (before s c stand at) (h s c stand at)

  pub looked_all : (values : List ℕ) (i : ℕ) → length values ≤ i → (old new : List (Look ℕ)) → LookedUpTo values i old new → AddsAtEach terms ids shapes levels place values old new
  looked_all values i le old new h s c stand at =
      let Reads = ShapeReads levels (graph_of terms ids) (reading s) c.node in
      reads_mapped terms (term_at terms) values Reads old new (reads_all terms (λ (v : ℕ). Reads (term_at terms v)) values i le old new (h s c stand at))

-- of the shapes at some places
module _ (terms : List Term) (ids : List Ids) (shapes : List (Shape ℕ)) (levels : ℕ) (values : List ℕ) where
  pub places_none : (old : List (Look ℕ)) → AddsAtPlaces terms ids shapes levels [] values old old
  places_none old s stand = reads_none terms (PlaceReads terms ids shapes s levels values) old

  pub places_more : (places : List ℕ) (i : ℕ) → i < length places → get_or places i 0 < length shapes → (old mid new : List (Look ℕ)) → AddsAtPlaces terms ids shapes levels (take i places) values old mid
      → AddsAtEach terms ids shapes levels (get_or places i 0) values mid new → AddsAtPlaces terms ids shapes levels (take (i + 1) places) values old new
  places_more places i lt within old mid new before h s stand =
      let place = get_or places i 0 in
      let named = named_shapes terms shapes in
      let k = at_place shapes place within in
      let c = read_shape (term_at terms) k.0 in
      let at = named_place terms shapes place k.0 k.1 in
      let Reads = ShapeReads levels (graph_of terms ids) (reading s) in
      reads_more terms (PlaceReads terms ids shapes s levels values) places i 0 lt old mid new (before s stand)
      (looks_same terms (ReadsAtEach terms values (Reads c.node)) (PlaceReads terms ids shapes s levels values place) (λ l. (
        λ r. (c.node, (c, at, refl), r),
        λ r. subst (λ (m : Term). ReadsAtEach terms values (Reads m) l) (one_at named place r.0 c.node r.1 (c, at, refl)) r.2,
      )) mid new (h s c stand at))

  pub places_all : (places : List ℕ) (i : ℕ) → length places ≤ i → (old new : List (Look ℕ)) → AddsAtPlaces terms ids shapes levels (take i places) values old new → AddsAtPlaces terms ids shapes levels places values old new
  places_all places i le old new h s stand = reads_all terms (PlaceReads terms ids shapes s levels values) places i le old new (h s stand)

-- at nodes, as subjects
abbrev IsSubject : List Term → ℕ → Look Term → Type 0
IsSubject terms n look = look ≡ OutAny (term_at terms n)

pub subjects_more : (terms : List Term) → IsNumbering terms → (nodes : List ℕ) → AreNodes terms nodes → (i : ℕ) → i < length nodes → (old mid new : List (Look ℕ)) → AddsLooks terms (ReadsOfSome (take i nodes) (λ n look. look ≡ OutAny (term_at terms n))) old mid
    → new ≡ mid ++ looks.OutAny (get_or nodes i 0) ∷ [] → AddsLooks terms (ReadsOfSome (take (i + 1) nodes) (λ n look. look ≡ OutAny (term_at terms n))) old new
subjects_more terms numbering nodes are i lt old mid new before e =
    let n = get_or nodes i 0 in
    reads_more terms (IsSubject terms) nodes i 0 lt old mid new before
    (looks_one terms numbering (looks.OutAny n) (are.named n (Contains-get_or nodes i 0 lt)) (OutAny (term_at terms n)) refl mid new e)

-- looks of so much depth are those of the shape
pub shape_looks : (terms : List Term) (ids : List Ids) (shapes : List (Shape ℕ)) (place f : ℕ) (old new : List (Look ℕ)) → AddsAt terms ids shapes levels_limit place f old new → AddsShapeLooks terms ids shapes place f old new
shape_looks terms ids shapes place f old new h s c stand at acyclic shallow =
    let g = graph_of terms ids in
    looks_same terms (ShapeReads levels_limit g (reading s) c.node (term_at terms f)) (IsLook g (ResultLook s c.node) (term_at terms f)) (λ l.
    let k = look_depth g s acyclic levels_limit shallow c.node (term_at terms f) l in
    let j = reads_law g s c.node (term_at terms f) l in ((λ d. j.0 (k.1 d)), (λ a. k.0 (j.1 a)))) old new (h s c stand at)
