-- The bindings of patterns by number, read as terms, are those of the patterns of terms in the graph of those numbers.
use Rattle.std.proofs.Common.{◌≡◌, ◌∙◌, ◌<◌, ◌+◌, ◌++◌, take, ℕ, List, [], ◌∷◌, refl, sym, subst, ap, arith, inl, inr, length, get_or, map, drop}
use Rattle.std.specs.Prelude.{◌↔◌, Some, option_map}
use Rattle.std.specs.List.{AllZip, Contains, slice_get}
use Rattle.std.proofs.lemmas.List.{get_or_default, length-map, take_more}
use Rattle.std.proofs.lemmas.List.Elements.{Contains-get_or}
use Rattle.std.proofs.lemmas.Option.{get_or_from_slice_get, slice_get-get_or, slice_get-map, slice_get_within}
use Rattle.collections.proofs.Members.{has_cases, has_head, has_tail}
use Rattle.rdf_model.specs.declared.ids.Ids.{Ids}
use Rattle.rdf_model.specs.declared.term.Term.{Term}
use Rattle.rdf_model.specs.declared.term.Term.TheVariants.{Blank}
use Rattle.rdf_model.specs.declared.triple.Triple.{Triple}
use Rattle.rdf_model.specs.Numbers.{AreNumbered, IsNumbering, graph_of, term_at, triple_at}
use Rattle.bgp_query.specs.declared.pattern.JoinPattern.{JoinPattern}
use Rattle.bgp_query.specs.declared.pattern.Part.{Part}
use Rattle.bgp_query.specs.declared.pattern.Part.TheVariants.{Variable, Constant}
use Rattle.bgp_query.specs.Bindings.{HasVariable, IsBinding, IsIn, IsVariable, Occurs, StandsFor}
use Rattle.term_joins.specs.Laws.{IsThere}
use Rattle.term_joins.specs.Numbered.{AreBelow, ArePatternsAt, HaveUnnamed, IsPartAt, IsPatternAt, IsUnnamed}
use Rattle.term_joins.proofs.Assigned.{in_map, of_map}

-- what stands beside an item of the other list
pub zip_left : {X Y : Type 0} (R : X → Y → Type 0) (xs : List X) (ys : List Y) → AllZip R xs ys → (x : X) → Contains xs x → (y : Y) × Contains ys y × R x y
zip_left R [] [] z x c = absurd (omega arith)
zip_left R [] (w ∷ ws) z x c = absurd z
zip_left R (v ∷ vs) [] z x c = absurd z
zip_left {X} {Y} R (v ∷ vs) (w ∷ ws) z x c = elim (has_cases v vs x c) [
  | inl e ↦ (w, has_head w ws, subst (λ (u : X). R u w) e z.0)
  | inr d ↦ let r : (y : Y) × Contains ws y × R x y = zip_left R vs ws z.1 x d in (r.0, has_tail w ws r.0 r.1, r.2)
]

pub zip_right : {X Y : Type 0} (R : X → Y → Type 0) (xs : List X) (ys : List Y) → AllZip R xs ys → (y : Y) → Contains ys y → (x : X) × Contains xs x × R x y
zip_right R [] [] z y c = absurd (omega arith)
zip_right R [] (w ∷ ws) z y c = absurd z
zip_right R (v ∷ vs) [] z y c = absurd z
zip_right {X} {Y} R (v ∷ vs) (w ∷ ws) z y c = elim (has_cases w ws y c) [
  | inl e ↦ (v, has_head v vs, subst (λ (u : Y). R v u) e z.0)
  | inr d ↦ let r : (x : X) × Contains vs x × R x y = zip_right R vs ws z.1 y d in (r.0, has_tail v vs r.0 r.1, r.2)
]

zip_push : {X Y : Type 0} (R : X → Y → Type 0) (xs : List X) (ys : List Y) (x : X) (y : Y) → AllZip R xs ys → R x y → AllZip R (xs ++ x ∷ []) (ys ++ y ∷ [])
zip_push R [] [] x y z r = (r, tt)
zip_push R [] (w ∷ ws) x y z r = absurd z
zip_push R (v ∷ vs) [] x y z r = absurd z
zip_push R (v ∷ vs) (w ∷ ws) x y z r = (z.0, zip_push R vs ws x y z.1 r)

-- patterns up to a place, and one more
pub patterns_more : (terms : List Term) (ps : List (JoinPattern Term)) (i : ℕ) (p : JoinPattern Term) (qs : List (JoinPattern ℕ)) (q : JoinPattern ℕ) (new : List (JoinPattern ℕ)) → i < length ps → p ≡ get_or ps i p → ArePatternsAt terms (take i ps) qs → IsPatternAt terms p q → new ≡ qs ++ q ∷ [] → ArePatternsAt terms (take (i + 1) ps) new
patterns_more terms ps i p qs q new l is at one e =
    let more : take (i + 1) ps ≡ take i ps ++ p ∷ [] = take_more ps i p l ∙ ap (λ (w : JoinPattern Term). take i ps ++ w ∷ []) (sym is) in
    subst (λ (ns : List (JoinPattern ℕ)). ArePatternsAt terms (take (i + 1) ps) ns) (sym e)
    (subst (λ (us : List (JoinPattern Term)). ArePatternsAt terms us (qs ++ q ∷ [])) (sym more) (zip_push (IsPatternAt terms) (take i ps) qs p q at one))

-- the triples of numbers that stand in a list are those of its graph
in_graph : (terms : List Term) (ids : List Ids) (i : Ids) → Contains ids i → Contains (graph_of terms ids) (triple_at terms i)
in_graph terms ids i c = in_map (triple_at terms) ids i c

numbered_at : (terms : List Term) (ids : List Ids) (i : Ids) → AreNumbered terms ids → Contains ids i → (i.subject < length terms) × (i.predicate < length terms) × (i.object < length terms)
numbered_at terms [] i a c = absurd (omega arith)
numbered_at terms (j ∷ js) i a c = elim (has_cases j js i c) [
  | inl e ↦ subst (λ (k : Ids). (k.subject < length terms) × (k.predicate < length terms) × (k.object < length terms)) e a.0
  | inr d ↦ numbered_at terms js i a.1 d
]

-- parts and patterns have the same variables by number
part_variable : (terms : List Term) (a : Part Term) (b : Part ℕ) (v : ℕ) → IsPartAt terms a b → IsVariable v a ↔ IsVariable v b
part_variable terms (Variable x) (Variable y) v e = (λ f. sym e ∙ f, λ f. e ∙ f)
part_variable terms (Variable x) (Constant n) v e = absurd e
part_variable terms (Constant c) (Variable y) v e = absurd e
part_variable terms (Constant c) (Constant n) v e = (λ f. absurd f, λ f. absurd f)

pattern_variable : (terms : List Term) (p : JoinPattern Term) (q : JoinPattern ℕ) (v : ℕ) → IsPatternAt terms p q → HasVariable p v ↔ HasVariable q v
pattern_variable terms p q v a =
    let s = part_variable terms p.subject q.subject v a.subject in
    let r = part_variable terms p.predicate q.predicate v a.predicate in
    let o = part_variable terms p.object q.object v a.object in (
      λ h. elim h [ inl x ↦ inl (s.0 x) | inr (inl x) ↦ inr (inl (r.0 x)) | inr (inr x) ↦ inr (inr (o.0 x)) ],
      λ h. elim h [ inl x ↦ inl (s.1 x) | inr (inl x) ↦ inr (inl (r.1 x)) | inr (inr x) ↦ inr (inr (o.1 x)) ],
    )

-- the numbers of bindings have terms
module _ (terms : List Term) (ids : List Ids) (numbered : AreNumbered terms ids) (qs : List (JoinPattern ℕ)) where
  part_place : (b : Part ℕ) (xs : List ℕ) (v n : ℕ) → IsVariable v b → StandsFor xs b n → get_or xs v 0 ≡ n
  part_place (Variable w) xs v n e s = ap (λ (k : ℕ). get_or xs k 0) (sym e) ∙ get_or_from_slice_get xs w n 0 s
  part_place (Constant c) xs v n e s = absurd e

  place_below : (xs : List ℕ) → IsBinding (IsIn ids) qs xs → (v : ℕ) → v < length xs → get_or xs v 0 < length terms
  place_below xs b v l =
      let o = (b.variables v).0 l in
      let s = b.stand o.0 o.1 in
      let n = numbered_at terms ids (record { subject = s.0; predicate = s.1; object = s.2 }) numbered s.6 in
      elim o.2 [
        | inl i ↦ subst (λ (k : ℕ). k < length terms) (sym (part_place o.0.subject xs v s.0 i s.3)) n.0
        | inr (inl i) ↦ subst (λ (k : ℕ). k < length terms) (sym (part_place o.0.predicate xs v s.1 i s.4)) n.1
        | inr (inr i) ↦ subst (λ (k : ℕ). k < length terms) (sym (part_place o.0.object xs v s.2 i s.5)) n.2
      ]

  pub row_below : (xs : List ℕ) → IsBinding (IsIn ids) qs xs → AreBelow terms xs
  row_below xs b n c = subst (λ (k : ℕ). k < length terms) (get_or_default xs c.0 0 n c.1 ∙ c.2) (place_below xs b c.0 c.1)

module _ (terms : List Term) where
  abbrev pub read : List ℕ → List Term
  read xs = map (term_at terms) xs

  -- what a part stands for, read as a term
  part_read : (a : Part Term) (b : Part ℕ) (xs : List ℕ) (n : ℕ) → IsPartAt terms a b → StandsFor xs b n → StandsFor (read xs) a (term_at terms n)
  part_read (Variable v) (Variable w) xs n e s = slice_get-map (term_at terms) xs v ∙ ap (λ (k : ℕ). option_map (term_at terms) (slice_get xs k)) e ∙ ap (option_map (term_at terms)) s
  part_read (Variable v) (Constant m) xs n e s = absurd e
  part_read (Constant c) (Variable w) xs n e s = absurd e
  part_read (Constant c) (Constant m) xs n e s = sym e.1 ∙ ap (term_at terms) s

  module _ (numbering : IsNumbering terms) where
    some_same : {X : Type 0} (x y : X) → Some x ≡ Some y → x ≡ y
    some_same x y e = cc

    -- and back
    part_number : (a : Part Term) (b : Part ℕ) (xs : List ℕ) (n : ℕ) → IsPartAt terms a b → AreBelow terms xs → n < length terms → StandsFor (read xs) a (term_at terms n) → StandsFor xs b n
    part_number (Variable v) (Variable w) xs n e below lt s =
        let inside : v < length xs = let l = slice_get_within (read xs) v (term_at terms n) s in let k = length-map xs (term_at terms) in omega (arith, l, k) in
        let here = slice_get-get_or xs v 0 inside in
        let read_here = sym (slice_get-map (term_at terms) xs v ∙ ap (option_map (term_at terms)) here) ∙ s in
        let same : get_or xs v 0 ≡ n = numbering (get_or xs v 0) n (below (get_or xs v 0) (Contains-get_or xs v 0 inside)) lt (some_same (term_at terms (get_or xs v 0)) (term_at terms n) read_here) in
        subst (λ (k : ℕ). slice_get xs k ≡ Some n) e (here ∙ ap Some same)
    part_number (Variable v) (Constant m) xs n e below lt s = absurd e
    part_number (Constant c) (Variable w) xs n e below lt s = absurd e
    part_number (Constant c) (Constant m) xs n e below lt s = numbering m n e.0 lt (e.1 ∙ s)

    -- rows of numbers that read alike are one
    pub read_once : (xs ys : List ℕ) → AreBelow terms xs → AreBelow terms ys → read xs ≡ read ys → xs ≡ ys
    read_once [] [] a b e = refl
    read_once [] (y ∷ ys) a b e = absurd (let k = ap length e in omega (arith, k))
    read_once (x ∷ xs) [] a b e = absurd (let k = ap length e in omega (arith, k))
    read_once (x ∷ xs) (y ∷ ys) a b e =
        let first = numbering x y (a x (has_head x xs)) (b y (has_head y ys)) (ap (λ (zs : List Term). get_or zs 0 (Blank 0 0)) e) in
        let more = read_once xs ys (λ n c. a n (has_tail x xs n c)) (λ n c. b n (has_tail y ys n c)) (ap (λ (zs : List Term). drop 1 zs) e) in
        cc (first, more)

    module _ (ids : List Ids) (numbered : AreNumbered terms ids) (ps : List (JoinPattern Term)) (qs : List (JoinPattern ℕ)) (at : ArePatternsAt terms ps qs) where
      occurs_at : (v : ℕ) → Occurs ps v ↔ Occurs qs v
      occurs_at v = (
        λ o. let z = zip_left (IsPatternAt terms) ps qs at o.0 o.1 in (z.0, z.1, (pattern_variable terms o.0 z.0 v z.2).0 o.2),
        λ o. let z = zip_right (IsPatternAt terms) ps qs at o.0 o.1 in (z.0, z.1, (pattern_variable terms z.0 o.0 v z.2).1 o.2),
      )

      pub to_terms : (xs : List ℕ) → IsBinding (IsIn ids) qs xs → IsBinding (IsThere (graph_of terms ids)) ps (read xs)
      to_terms xs b = record {
        variables = λ v. (
          λ l. (occurs_at v).1 ((b.variables v).0 (subst (λ (n : ℕ). v < n) (length-map xs (term_at terms)) l)),
          λ o. subst (λ (n : ℕ). v < n) (sym (length-map xs (term_at terms))) ((b.variables v).1 ((occurs_at v).0 o)),
        );
        stand = λ p c.
            let z = zip_left (IsPatternAt terms) ps qs at p c in
            let s = b.stand z.0 z.1 in (
              term_at terms s.0,
              term_at terms s.1,
              term_at terms s.2,
              part_read p.subject z.0.subject xs s.0 z.2.subject s.3,
              part_read p.predicate z.0.predicate xs s.1 z.2.predicate s.4,
              part_read p.object z.0.object xs s.2 z.2.object s.5,
              in_graph terms ids (record { subject = s.0; predicate = s.1; object = s.2 }) s.6,
            );
      }

      -- a binding of terms, whose numbers these are, is one of numbers
      from_read : (xs : List ℕ) → AreBelow terms xs → IsBinding (IsThere (graph_of terms ids)) ps (read xs) → IsBinding (IsIn ids) qs xs
      from_read xs below b = record {
        variables = λ v. (
          λ l. (occurs_at v).0 ((b.variables v).0 (subst (λ (n : ℕ). v < n) (sym (length-map xs (term_at terms))) l)),
          λ o. subst (λ (n : ℕ). v < n) (length-map xs (term_at terms)) ((b.variables v).1 ((occurs_at v).1 o)),
        );
        stand = λ q c.
            let z = zip_right (IsPatternAt terms) ps qs at q c in
            let s = b.stand z.0 z.1 in
            let t : Triple = record { subject = s.0; predicate = s.1; object = s.2 } in
            let i = of_map (triple_at terms) ids t s.6 in
            let n = numbered_at terms ids i.0 numbered i.1 in
            let subject = subst (λ (x : Term). StandsFor (read xs) z.0.subject x) (sym (ap (λ (u : Triple). u.subject) i.2)) s.3 in
            let predicate = subst (λ (x : Term). StandsFor (read xs) z.0.predicate x) (sym (ap (λ (u : Triple). u.predicate) i.2)) s.4 in
            let object = subst (λ (x : Term). StandsFor (read xs) z.0.object x) (sym (ap (λ (u : Triple). u.object) i.2)) s.5 in (
              i.0.subject,
              i.0.predicate,
              i.0.object,
              part_number z.0.subject q.subject xs i.0.subject z.2.subject below n.0 subject,
              part_number z.0.predicate q.predicate xs i.0.predicate z.2.predicate below n.1 predicate,
              part_number z.0.object q.object xs i.0.object z.2.object below n.2 object,
              i.1,
            );
      }

      -- each term of a binding has a number
      abbrev HasNumber : Term → Type 0
      HasNumber x = (n : ℕ) × (n < length terms) × (term_at terms n ≡ x)

      part_term : (a : Part Term) (ys : List Term) (v : ℕ) (x : Term) → IsVariable v a → StandsFor ys a x → x ≡ term_at ys v
      part_term (Variable w) ys v x e s = sym (ap (term_at ys) (sym e) ∙ get_or_from_slice_get ys w x (Blank 0 0) s)
      part_term (Constant c) ys v x e s = absurd e

      pub terms_named : (t : Triple) → Contains (graph_of terms ids) t → HasNumber t.subject × HasNumber t.predicate × HasNumber t.object
      terms_named t c =
          let i = of_map (triple_at terms) ids t c in
          let n = numbered_at terms ids i.0 numbered i.1 in (
            (i.0.subject, n.0, ap (λ (u : Triple). u.subject) i.2),
            (i.0.predicate, n.1, ap (λ (u : Triple). u.predicate) i.2),
            (i.0.object, n.2, ap (λ (u : Triple). u.object) i.2),
          )

      place_named : (ys : List Term) → IsBinding (IsThere (graph_of terms ids)) ps ys → (v : ℕ) → v < length ys → HasNumber (term_at ys v)
      place_named ys b v l =
          let o = (b.variables v).0 l in
          let s = b.stand o.0 o.1 in
          let n = terms_named (record { subject = s.0; predicate = s.1; object = s.2 }) s.6 in
          elim o.2 [
            | inl i ↦ subst HasNumber (part_term o.0.subject ys v s.0 i s.3) n.0
            | inr (inl i) ↦ subst HasNumber (part_term o.0.predicate ys v s.1 i s.4) n.1
            | inr (inr i) ↦ subst HasNumber (part_term o.0.object ys v s.2 i s.5) n.2
          ]

      numbers_for : (ys : List Term) → ((y : Term) → Contains ys y → HasNumber y) → (xs : List ℕ) × AreBelow terms xs × (read xs ≡ ys)
      numbers_for [] f = ([], (λ n c. absurd (omega arith)), refl)
      numbers_for (y ∷ ys) f =
          let one = f y (has_head y ys) in
          let more : (xs : List ℕ) × AreBelow terms xs × (read xs ≡ ys) = numbers_for ys (λ z c. f z (has_tail y ys z c)) in
          let first = one.2 in
          let rest = more.2 in
          (one.0 ∷ more.0, (λ n c. elim (has_cases one.0 more.0 n c) [ inl e ↦ subst (λ (k : ℕ). k < length terms) e one.1 | inr d ↦ more.1 n d ]), λ i. first i ∷ rest i)

      pub from_terms : (ys : List Term) → IsBinding (IsThere (graph_of terms ids)) ps ys → (xs : List ℕ) × IsBinding (IsIn ids) qs xs × (read xs ≡ ys)
      from_terms ys b =
          let r = numbers_for ys (λ y c. subst HasNumber (get_or_default ys c.0 (Blank 0 0) y c.1 ∙ c.2) (place_named ys b c.0 c.1)) in
          (r.0, from_read r.0 r.1 (subst (λ (zs : List Term). IsBinding (IsThere (graph_of terms ids)) ps zs) (sym r.2) b), r.2)

-- where a term of the patterns has no number none stands
module _ (terms : List Term) (ids : List Ids) (numbered : AreNumbered terms ids) (ps : List (JoinPattern Term)) where
  part_absent : (a : Part Term) (ys : List Term) (x : Term) (n : ℕ) → IsUnnamed terms a → StandsFor ys a x → n < length terms → term_at terms n ≡ x → ⊥
  part_absent (Variable v) ys x n u s l e = u
  part_absent (Constant c) ys x n u s l e = u (subst (λ (t : Term). Contains terms t) (e ∙ sym s) (Contains-get_or terms n (Blank 0 0) l))

  pub none_stands : HaveUnnamed terms ps → (ys : List Term) → IsBinding (IsThere (graph_of terms ids)) ps ys → ⊥
  none_stands u ys b =
      let s = b.stand u.0 u.1 in
      let t : Triple = record { subject = s.0; predicate = s.1; object = s.2 } in
      let i = of_map (triple_at terms) ids t s.6 in
      let n = numbered_at terms ids i.0 numbered i.1 in
      elim u.2 [
        | inl x ↦ part_absent u.0.subject ys s.0 i.0.subject x s.3 n.0 (ap (λ (u : Triple). u.subject) i.2)
        | inr (inl x) ↦ part_absent u.0.predicate ys s.1 i.0.predicate x s.4 n.1 (ap (λ (u : Triple). u.predicate) i.2)
        | inr (inr x) ↦ part_absent u.0.object ys s.2 i.0.object x s.5 n.2 (ap (λ (u : Triple). u.object) i.2)
      ]
