-- Each shape that a shape refers to is found.
use Rattle.std.proofs.Common.{◌≡◌, ℕ, ◌+◌, ◌<◌, Bor, List, [], ◌∷◌, ◌++◌, length, map, take, get_or, refl, sym, subst, inl, inr}
use Rattle.std.proofs.lemmas.List.{get_or_default}
use Rattle.shape_syntax.proofs.Scans.{image_from, image_of}
use Rattle.std.specs.Prelude.{◌⊎◌, codes}
use Rattle.std.specs.List.{Contains}
use Rattle.std.proofs.lemmas.List.Elements.{Contains-append_left, Contains-append_right}
use Rattle.rdf_model.specs.declared.term.Term.{Term}
use Rattle.rdf_model.specs.declared.triple.Triple.{Triple}
use Rattle.shape_model.specs.Readings.{HasMember, Refers, Sibling, reading}
use Rattle.shape_model.specs.Triples.{Has, IsMember}
use Rattle.shape_model.specs.Vocabulary.{sh, ShapeProperty, ShAnd, ShNode, ShNot, ShOr, ShProperty, ShQualifiedValueShape, ShXone, property_iri}
use Rattle.plain_terms.specs.Finds.{Finds, IsListed, WithSome}
use Rattle.plain_terms.proofs.FoundItems.{finds_at, finds_both, finds_same, some_step}
use Rattle.plain_validation.specs.References.{NamedReference}

abbrev pub reference_words : List Term
reference_words = sh (codes "not") ∷ sh (codes "node") ∷ sh (codes "property") ∷ sh (codes "and") ∷ sh (codes "or") ∷ sh (codes "xone") ∷ sh (codes "qualifiedValueShape") ∷ []

pub named_found : (s : List Triple) (shape p : Term) (values slice front members new : List Term) → Finds (Has s shape p) values → slice ≡ values → front ≡ values → Finds (WithSome slice (IsListed s)) members → new ≡ front ++ members → Finds (NamedReference s shape p) new
named_found s shape p values slice front members new h e_slice e_front k e =
    let slice_is = finds_at (Has s shape p) values slice e_slice h in
    let front_is = finds_at (Has s shape p) values front e_front h in
    finds_at (NamedReference s shape p) (front ++ members) new e (finds_same (λ m. Has s shape p m ⊎ WithSome slice (IsListed s) m) (NamedReference s shape p) (front ++ members) (λ m. (
      elim [ inl w ↦ inl w | inr w ↦ inr (w.0, (slice_is.members w.0).0 w.1, w.2) ],
      elim [ inl w ↦ inl w | inr w ↦ inr (w.0, (slice_is.members w.0).1 w.1, w.2) ],
    )) (finds_both (Has s shape p) (WithSome slice (IsListed s)) front members front_is k))

module _ (s : List Triple) (shape : Term) (named beside new : List Term) (h : Finds (λ m. (p : Term) × IsMember reference_words p × NamedReference s shape p m) named) (k : Finds (Sibling s shape) beside) (e : new ≡ named ++ beside) where
  by_name : (m p : Term) → IsMember reference_words p → NamedReference s shape p m → Contains new m
  by_name m p i n = subst (λ (xs : List Term). Contains xs m) (sym e) (Contains-append_left named beside m ((h.members m).1 (p, i, n)))

  of_list : (m : Term) (p : ShapeProperty) → IsMember reference_words (property_iri p) → HasMember (reading s shape) p m → Contains new m
  of_list m p i w = by_name m (property_iri p) i (inr (w.0, w.2.0, (w.1, w.2.1, w.3)))

  pub refers_found : (m : Term) → Refers (reading s shape) m → Contains new m
  refers_found m = elim [
    | inl w ↦ by_name m (property_iri ShNot) (inl refl) (inl w)
    | inr (inl w) ↦ by_name m (property_iri ShNode) (inr (inl refl)) (inl w)
    | inr (inr (inl w)) ↦ by_name m (property_iri ShProperty) (inr (inr (inl refl))) (inl w)
    | inr (inr (inr (inl w))) ↦ of_list m ShAnd (inr (inr (inr (inl refl)))) w
    | inr (inr (inr (inr (inl w)))) ↦ of_list m ShOr (inr (inr (inr (inr (inl refl))))) w
    | inr (inr (inr (inr (inr (inl w))))) ↦ of_list m ShXone (inr (inr (inr (inr (inr (inl refl)))))) w
    | inr (inr (inr (inr (inr (inr (inl w)))))) ↦ by_name m (property_iri ShQualifiedValueShape) (inr (inr (inr (inr (inr (inr (inl refl))))))) (inl w.1)
    | inr (inr (inr (inr (inr (inr (inr w)))))) ↦ subst (λ (xs : List Term). Contains xs m) (sym e) (Contains-append_right named beside m ((k.members m).1 w.1))
  ]

-- the step of a loop over names, and its end
pub some_step_or : {X Y : Type 0} → (P : X → Y → Type 0) (xs : List X) (i : ℕ) (d : X) (rows more new : List Y) → i < length xs → new ≡ rows ++ more → Finds (WithSome (take i xs) P) rows → Finds (P (get_or xs i d)) more → Finds (WithSome (take (i + 1) xs) P) new
some_step_or P xs i d rows more new l e h k = some_step P xs i (get_or xs i d) rows more new l (get_or_default xs i d (get_or xs i d) l) e h k

pub named_all : (names : List (Bor (List ℕ))) (Q : Term → Term → Type 0) (found : List Term) → Finds (WithSome names (λ name. Q (sh name.now))) found → Finds (λ m. (p : Term) × IsMember (map (λ (name : Bor (List ℕ)). sh name.now) names) p × Q p m) found
named_all names Q found h =
    finds_same (WithSome names (λ name. Q (sh name.now))) (λ m. (p : Term) × IsMember (map (λ (name : Bor (List ℕ)). sh name.now) names) p × Q p m) found (λ m. (
      λ w. (sh w.0.now, image_of (λ (name : Bor (List ℕ)). sh name.now) names w.0 (sh w.0.now) w.1 refl, w.2),
      λ w. let k = image_from (λ (name : Bor (List ℕ)). sh name.now) names w.0 w.1 in (k.0, k.1, subst (λ (p : Term). Q p m) (sym k.2) w.2),
    )) h
