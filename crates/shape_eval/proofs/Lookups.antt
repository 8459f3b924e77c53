-- Answers by node, and the nodes of places.
use Rattle.std.proofs.Common.{◌≡◌, ◌∙◌, ℕ, zero, suc, ◌+◌, ◌<◌, ◌≤◌, Bool, true, false, List, [], ◌∷◌, length, map, get_or, drop, drop-cons, refl, sym, ap, arith, subst, inl, inr}
use Rattle.std.specs.Prelude.{◌==◌, Option, Some, if◌then◌else◌, slice_get, option_map}
use Rattle.std.specs.List.{All, Contains}
use Rattle.std.proofs.lemmas.Option.{slice_get-map}
use Rattle.std.proofs.lemmas.List.{drop_all}
use Rattle.collections.proofs.Members.{has_cases, has_equal, has_tail}
use Rattle.rdf_model.specs.declared.term.Term.{Term}
use Rattle.rdf_model.specs.Numbers.{term_at}
use Rattle.shape_model.specs.Triples.{IsMember}
use Rattle.component_rows.specs.Conformance.{AreTold}
use Rattle.shape_ast.specs.declared.shape.Shape.{Shape}
use Rattle.shape_ast.specs.Readings.{ReadShape, named_shapes, read_shape}
use Rattle.shape_ast.specs.Standing.{AreAt, IsAt}
use Rattle.shape_eval.specs.declared.told.Told.{Told}
use Rattle.shape_eval.specs.Told.{answers_of, node_at, node_number}

-- an item at a place stands in the list
pub of_place : {X : Type 0} → (xs : List X) (n : ℕ) (x : X) → slice_get xs n ≡ Some x → Contains xs x
of_place [] n x e = cc
of_place (y ∷ ys) zero x e = has_equal y ys x (cc)
of_place (y ∷ ys) (suc n) x e = has_tail y ys x (of_place ys n x e)

-- there is one at each place
pub at_place : {X : Type 0} → (xs : List X) (n : ℕ) → n < length xs → (x : X) × (slice_get xs n ≡ Some x)
at_place [] n lt = absurd (omega (arith, lt))
at_place (x ∷ xs) zero lt = (x, refl)
at_place (x ∷ xs) (suc n) lt = at_place xs n (omega (arith, lt))

-- the one that was looked up
pub taken_at : {X : Type 0} → (xs : List X) (n : ℕ) (x : X) → n < length xs → x ≡ get_or xs n x → slice_get xs n ≡ Some x
taken_at [] n x lt e = absurd (omega (arith, lt))
taken_at (y ∷ ys) zero x lt e = ap Some (sym e)
taken_at (y ∷ ys) (suc n) x lt e = taken_at ys n x (omega (arith, lt)) e

pub got_at : {X : Type 0} → (xs : List X) (n : ℕ) (d : X) → n < length xs → slice_get xs n ≡ Some (get_or xs n d)
got_at [] n d lt = absurd (omega (arith, lt))
got_at (y ∷ ys) zero d lt = refl
got_at (y ∷ ys) (suc n) d lt = got_at ys n d (omega (arith, lt))

pub some_same : {X : Type 0} → (x y : X) → Some x ≡ Some y → x ≡ y
some_same x y e = cc

pub only_some : {X : Type 0} → (o : Option X) (x y : X) → o ≡ Some x → o ≡ Some y → x ≡ y
only_some o x y e f = some_same x y (sym e ∙ f)

module _ (terms : List Term) (shapes : List (Shape ℕ)) where
  -- a shape is read at its place
  pub named_place : (n : ℕ) (s : Shape ℕ) → slice_get shapes n ≡ Some s → slice_get (named_shapes terms shapes) n ≡ Some (read_shape (term_at terms) s)
  named_place n s e = slice_get-map (read_shape (term_at terms)) shapes n ∙ ap (option_map (read_shape (term_at terms))) e

  -- and is the one that stands there
  pub read_here : (n : ℕ) (s : Shape ℕ) → slice_get shapes n ≡ Some s → (c : ReadShape) → slice_get (named_shapes terms shapes) n ≡ Some c → read_shape (term_at terms) s ≡ c
  read_here n s e c at = only_some (slice_get (named_shapes terms shapes) n) (read_shape (term_at terms) s) c (named_place n s e) at

  -- its node is that of the place
  pub is_at : (n : ℕ) → n < length shapes → IsAt (named_shapes terms shapes) n (term_at terms (node_at shapes n))
  is_at n lt =
      let k = at_place shapes n lt in
      (read_shape (term_at terms) k.0, named_place n k.0 k.1, sym (ap (λ (o : Option (Shape ℕ)). term_at terms (node_number o)) k.1))

  pub are_at : (ns : List ℕ) → All (λ n. n < length shapes) ns → AreAt (named_shapes terms shapes) ns (map (term_at terms) (map (node_at shapes) ns))
  are_at [] all = tt
  are_at (n ∷ ns) all = (is_at n (all 0 0 (omega arith)), are_at ns (λ k d lt. all (suc k) d (omega (arith, lt))))

-- the node that was looked up
pub node_got : (shapes : List (Shape ℕ)) (n : ℕ) (d : Shape ℕ) → n < length shapes → (get_or shapes n d).node ≡ node_at shapes n
node_got shapes n d lt = ap node_number (sym (got_at shapes n d lt))

-- no place has two nodes
pub one_at : (shapes : List ReadShape) (n : ℕ) (t u : Term) → IsAt shapes n t → IsAt shapes n u → t ≡ u
one_at shapes n t u i j = sym i.2 ∙ ap (λ (m : ReadShape). m.node) (only_some (slice_get shapes n) i.0 j.0 i.1 j.1) ∙ j.2

pub one_list : (shapes : List ReadShape) (ns : List ℕ) (ts us : List Term) → AreAt shapes ns ts → AreAt shapes ns us → ts ≡ us
one_list shapes [] [] [] i j = refl
one_list shapes [] [] (u ∷ us) i j = absurd j
one_list shapes [] (t ∷ ts) us i j = absurd i
one_list shapes (n ∷ ns) [] us i j = absurd i
one_list shapes (n ∷ ns) (t ∷ ts) [] i j = absurd j
one_list shapes (n ∷ ns) (t ∷ ts) (u ∷ us) i j =
    let first = one_at shapes n t u i.0 j.0 in let rest = one_list shapes ns ts us i.1 j.1 in
    λ k. first k ∷ rest k

-- a member of the nodes is the node of one of the places
pub place_of : (shapes : List ReadShape) (ns : List ℕ) (ts : List Term) → AreAt shapes ns ts → (m : Term) → IsMember ts m → (n : ℕ) × Contains ns n × IsAt shapes n m
place_of shapes [] [] at m i = absurd i
place_of shapes [] (t ∷ ts) at m i = absurd at
place_of shapes (n ∷ ns) [] at m i = absurd i
place_of shapes (n ∷ ns) (t ∷ ts) at m i = elim i [
  | inl e ↦ (n, has_equal n ns n refl, subst (λ (u : Term). IsAt shapes n u) e at.0)
  | inr d ↦ (let k = place_of shapes ns ts at.1 m d in (k.0, has_tail n ns k.0 k.1, k.2))
]

pub of_places : (shapes : List ReadShape) (ns : List ℕ) (ts : List Term) → AreAt shapes ns ts → (n : ℕ) → Contains ns n → (m : Term) → IsAt shapes n m → IsMember ts m
of_places shapes [] ts at n c m i = absurd (omega arith)
of_places shapes (k ∷ ns) [] at n c m i = absurd at
of_places shapes (k ∷ ns) (t ∷ ts) at n c m i = elim (has_cases k ns n c) [
  | inl e ↦ inl (one_at shapes n t m (subst (λ (p : ℕ). IsAt shapes p t) e at.0) i)
  | inr d ↦ inr (of_places shapes ns ts at.1 n d m i)
]

-- a member of a list that was made item by item
pub member_place : (terms : List Term) (ns : List ℕ) (m : Term) → IsMember (map (term_at terms) ns) m → (k : ℕ) × (k < length ns) × (term_at terms (get_or ns k 0) ≡ m)
member_place terms [] m i = absurd i
member_place terms (n ∷ ns) m i = elim i [
  | inl e ↦ (0, omega arith, e)
  | inr d ↦ (let k = member_place terms ns m d in let lt = k.1 in (suc k.0, omega (arith, lt), k.2))
]

get_map : {Y : Type 0} → (h : ℕ → List Y) (ns : List ℕ) (k : ℕ) → k < length ns → get_or (map h ns) k [] ≡ h (get_or ns k 0)
get_map h [] k lt = absurd (omega (arith, lt))
get_map h (n ∷ ns) zero lt = refl
get_map h (n ∷ ns) (suc k) lt = get_map h ns k (omega (arith, lt))

map_length : {X Y : Type 0} → (h : X → Y) (xs : List X) → length (map h xs) ≡ length xs
map_length h [] = refl
map_length h (x ∷ xs) = ap suc (map_length h xs)

-- lists of answers that were looked up by the nodes
module _ (told : List Told) (values nodes : List ℕ) (lists : List (List Bool)) (are : lists ≡ map (answers_of told) nodes) where
  pub listed_at : (k : ℕ) → k < length nodes → get_or lists k [] ≡ answers_of told (get_or nodes k 0)
  listed_at k lt = ap (λ (ls : List (List Bool)). get_or ls k []) are ∙ get_map (answers_of told) nodes k lt

  as_long : length lists ≡ length nodes
  as_long = ap (λ (ls : List (List Bool)). length ls) are ∙ map_length (answers_of told) nodes

  pub are_told : (shapes : List ℕ) → length shapes ≡ length nodes → ((j k : ℕ) → j < length nodes → k < length nodes → get_or shapes j 0 ≡ get_or shapes k 0 → get_or nodes j 0 ≡ get_or nodes k 0)
      → ((k : ℕ) → k < length nodes → length (answers_of told (get_or nodes k 0)) ≡ length values) → AreTold shapes values lists
  are_told shapes many alike long = record {
    as_many = as_long ∙ sym many;
    each = λ k lt. (let count = as_long in let within : k < length nodes = omega (arith, lt, count) in ap (λ (l : List Bool). length l) (listed_at k within) ∙ long k within);
    same = λ j k j_in k_in e. (let j_within : j < length nodes = omega (arith, j_in, many) in let k_within : k < length nodes = omega (arith, k_in, many) in
        listed_at j j_within ∙ ap (answers_of told) (alike j k j_within k_within e) ∙ sym (listed_at k k_within));
  }

-- the answers of the first entry for a node
entry_by : (t : Told) (ts : List Told) (m : ℕ) → Contains (map (λ t. t.node) (t ∷ ts)) m
    → (Contains (map (λ t. t.node) ts) m → (u : Told) × Contains ts u × (u.node ≡ m) × (answers_of ts m ≡ u.answers))
    → (b : Bool) → (t.node == m) ≡ b → (u : Told) × Contains (t ∷ ts) u × (u.node ≡ m) × (answers_of (t ∷ ts) m ≡ u.answers)
entry_by t ts m c rest true e = (t, has_equal t ts t refl, (grind arith), ap (λ (b : Bool). if b then t.answers else answers_of ts m) e)
entry_by t ts m c rest false e = elim (has_cases t.node (map (λ t. t.node) ts) m c) [
  | inl is ↦ absurd (grind arith)
  | inr d ↦ (let k = rest d in (k.0, has_tail t ts k.0 k.1, k.2, ap (λ (b : Bool). if b then t.answers else answers_of ts m) e ∙ k.3))
]

pub entry_for : (told : List Told) (m : ℕ) → Contains (map (λ t. t.node) told) m → (t : Told) × Contains told t × (t.node ≡ m) × (answers_of told m ≡ t.answers)
entry_for [] m c = absurd (omega arith)
entry_for (t ∷ ts) m c = entry_by t ts m c (λ d. entry_for ts m d) (t.node == m) refl

-- looking through the entries one after another
abbrev pub no_entry : Told
no_entry = record { node = 0; answers = [] }

drop_more : (told : List Told) (i : ℕ) → i < length told → drop i told ≡ get_or told i no_entry ∷ drop (i + 1) told
drop_more told i lt = let next : suc i ≡ i + 1 = omega arith in drop-cons told i no_entry lt ∙ ap (λ (k : ℕ). get_or told i no_entry ∷ drop k told) next

pub passed : (told : List Told) (m i : ℕ) → i < length told → ((get_or told i no_entry).node == m) ≡ false → answers_of (drop i told) m ≡ answers_of (drop (i + 1) told) m
passed told m i lt e = ap (λ (ts : List Told). answers_of ts m) (drop_more told i lt) ∙ ap (λ (b : Bool). if b then (get_or told i no_entry).answers else answers_of (drop (i + 1) told) m) e

pub found : (told : List Told) (m i : ℕ) → i < length told → ((get_or told i no_entry).node == m) ≡ true → answers_of (drop i told) m ≡ (get_or told i no_entry).answers
found told m i lt e = ap (λ (ts : List Told). answers_of ts m) (drop_more told i lt) ∙ ap (λ (b : Bool). if b then (get_or told i no_entry).answers else answers_of (drop (i + 1) told) m) e

pub none_left : (told : List Told) (m i : ℕ) → length told ≤ i → answers_of (drop i told) m ≡ []
none_left told m i le = ap (λ (ts : List Told). answers_of ts m) (drop_all i told le)
