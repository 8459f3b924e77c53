-- Looks of numbers that have been added, and the looks of their terms.
use Rattle.std.proofs.Common.{◌≡◌, ◌∙◌, ℕ, ◌+◌, ◌<◌, take, get_or, List, [], ◌∷◌, ◌++◌, length, map, sym, ap, subst, arith, inl, inr}
use Rattle.std.specs.Prelude.{◌⊎◌, ◌↔◌}
use Rattle.std.specs.List.{Contains}
use Rattle.std.proofs.lemmas.List.{take_more}
use Rattle.std.proofs.lemmas.List.Elements.{Contains-append_left, Contains-push, Contains-push_cases}
use Rattle.rdf_model.specs.declared.term.Term.{Term}
use Rattle.rdf_model.specs.declared.look.Look.{Look}
use Rattle.rdf_model.specs.Numbers.{IsNumbering}
use Rattle.path_eval.specs.Naming.{AddsLooks, IsBoundLook, look_of}
use Rattle.path_eval.proofs.FromOne.{one_look}
use Rattle.path_eval.proofs.Growing.{adds_none, adds_one, adds_same, adds_then}
use Rattle.path_eval.proofs.Mirrors.{mapped_from, mapped_to}

-- the items up to a place, and the next one
pub some_next : {X : Type 0} → (P : X → Type 0) (xs : List X) (i : ℕ) (d : X) → i < length xs → ((x : X) × Contains (take (i + 1) xs) x × P x) ↔ (((x : X) × Contains (take i xs) x × P x) ⊎ P (get_or xs i d))
some_next {X} P xs i d lt =
    let e : take (i + 1) xs ≡ take i xs ++ get_or xs i d ∷ [] = take_more xs i d lt in (
      λ h. elim (Contains-push_cases (take i xs) (get_or xs i d) h.0 (subst (λ l. Contains l h.0) e h.1)) [
        | inl c ↦ inl (h.0, c, h.2)
        | inr q ↦ inr (subst P (sym q) h.2)
      ],
      elim [
        | inl h ↦ (h.0, subst (λ l. Contains l h.0) (sym e) (Contains-append_left (take i xs) (get_or xs i d ∷ []) h.0 h.1), h.2)
        | inr p ↦ (get_or xs i d, subst (λ l. Contains l (get_or xs i d)) (sym e) (Contains-push (take i xs) (get_or xs i d)), p)
      ],
    )

pub none_before : {X : Type 0} → (P : X → Type 0) → ((x : X) × Contains [] x × P x) → ⊥
none_before P h = absurd (omega (arith, h.1.1))

module _ (terms : List Term) where
  pub looks_same : (P Q : Look Term → Type 0) → ((l : Look Term) → P l ↔ Q l) → (old new : List (Look ℕ)) → AddsLooks terms P old new → AddsLooks terms Q old new
  looks_same P Q e old new a = record {
    added = adds_same old new (λ look. IsBoundLook (length terms) look × P (look_of terms look)) (λ look. IsBoundLook (length terms) look × Q (look_of terms look))
        (λ look. (λ h. (h.0, (e (look_of terms look)).0 h.1), λ h. (h.0, (e (look_of terms look)).1 h.1))) a.added;
    every = λ l q. a.every l ((e l).1 q);
  }

  pub looks_none : (P : Look Term → Type 0) → ((l : Look Term) → P l → ⊥) → (old : List (Look ℕ)) → AddsLooks terms P old old
  looks_none P none old = record { added = adds_none old (λ look. IsBoundLook (length terms) look × P (look_of terms look)) (λ look h. absurd (none (look_of terms look) h.1)); every = λ l p. absurd (none l p) }

  pub looks_more : (P Q : Look Term → Type 0) (old mid new : List (Look ℕ)) → AddsLooks terms P old mid → AddsLooks terms Q mid new → AddsLooks terms (λ l. P l ⊎ Q l) old new
  looks_more P Q old mid new a b = record {
    added = adds_same old new (λ look. (IsBoundLook (length terms) look × P (look_of terms look)) ⊎ (IsBoundLook (length terms) look × Q (look_of terms look))) (λ look. IsBoundLook (length terms) look × (P (look_of terms look) ⊎ Q (look_of terms look)))
        (λ look. (elim [ inl h ↦ (h.0, inl h.1) | inr h ↦ (h.0, inr h.1) ], λ h. elim h.1 [ inl p ↦ inl (h.0, p) | inr q ↦ inr (h.0, q) ]))
        (adds_then old mid new (λ look. IsBoundLook (length terms) look × P (look_of terms look)) (λ look. IsBoundLook (length terms) look × Q (look_of terms look)) a.added b.added);
    every = λ l. elim [
      | inl p ↦ let k = mapped_from (look_of terms) mid l (a.every l p) in subst (λ (m : Look Term). Contains (map (look_of terms) new) m) k.2 (mapped_to (look_of terms) new k.0 ((b.added k.0).1 (inl k.1)))
      | inr q ↦ b.every l q
    ];
  }

  -- one look
  pub looks_one : IsNumbering terms → (look : Look ℕ) → IsBoundLook (length terms) look → (l : Look Term) → look_of terms look ≡ l → (old new : List (Look ℕ)) → new ≡ old ++ look ∷ [] → AddsLooks terms (λ k. k ≡ l) old new
  looks_one numbering look bound l is old new e = subst (λ (m : List (Look ℕ)). AddsLooks terms (λ k. k ≡ l) old m) (sym e) (record {
    added = adds_same old (old ++ look ∷ []) (λ k. k ≡ look) (λ k. IsBoundLook (length terms) k × (look_of terms k ≡ l))
        (λ k. (
          λ h. (subst (λ (m : Look ℕ). IsBoundLook (length terms) m) (sym h) bound, ap (look_of terms) h ∙ is),
          λ h. one_look terms numbering k look h.0 bound (h.1 ∙ sym is),
        )) (adds_one old look);
    every = λ k h. subst (λ (m : Look Term). Contains (map (look_of terms) (old ++ look ∷ [])) m) (is ∙ sym h) (mapped_to (look_of terms) (old ++ look ∷ []) look (Contains-push old look));
  })

  -- one item more
  pub next_looks : {X : Type 0} → (P : X → Look Term → Type 0) (ts : List X) (i : ℕ) (t : X) → i < length ts → t ≡ get_or ts i t → (old mid new : List (Look ℕ))
      → AddsLooks terms (λ l. (u : X) × Contains (take i ts) u × P u l) old mid → AddsLooks terms (P t) mid new → AddsLooks terms (λ l. (u : X) × Contains (take (i + 1) ts) u × P u l) old new
  next_looks {X} P ts i t lt is old mid new a b =
      looks_same (λ l. ((u : X) × Contains (take i ts) u × P u l) ⊎ P (get_or ts i t) l) (λ l. (u : X) × Contains (take (i + 1) ts) u × P u l)
      (λ l. let k = some_next (λ u. P u l) ts i t lt in (k.1, k.0)) old new
      (looks_more (λ l. (u : X) × Contains (take i ts) u × P u l) (P (get_or ts i t)) old mid new a (subst (λ u. AddsLooks terms (P u) mid new) is b))
