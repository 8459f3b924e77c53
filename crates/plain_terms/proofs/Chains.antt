-- Chains of the steps of a relation, and chains of its pairs.
use Rattle.std.proofs.Common.{◌≡◌, ◌≢◌, ◌∙◌, List, [], ◌∷◌, refl, sym, subst, inl, inr}
use Rattle.std.specs.Prelude.{◌⊎◌, ◌↔◌, IsTrue}
use Rattle.rdf_model.specs.declared.term.Term.{Term}
use Rattle.shape_model.specs.Walks.{Chain}
use Rattle.plain_terms.specs.Finds.{WithSome}
use Rattle.plain_terms.specs.declared.relation.Relation.{Relation}
use Rattle.plain_terms.specs.Pairs.{HasPair, IsReached, Reaching}
use Rattle.plain_terms.specs.Relations.{Joins, JoinsOnceOrMore}

pub chain_same : (R S : Term → Term → Type 0) → ((x y : Term) → R x y → S x y) → (x : Term) (zs : List Term) (y : Term) → Chain R x zs y → Chain S x zs y
chain_same R S e x [] y k = k
chain_same R S e x (z ∷ zs) y k = (e x z k.0, chain_same R S e z zs y k.1)

module _ (r : Relation) where
  -- the steps that stand still are left out
  without_still : (x : Term) (zs : List Term) (y : Term) → Chain (Joins r) x zs y → IsReached r.pairs x y
  without_still x [] y e = ([], e)
  without_still x (z ∷ zs) y k =
      let rest = without_still z zs y k.1 in
      elim k.0 [ inl c ↦ (z ∷ rest.0, (c, rest.1)) | inr t ↦ subst (λ (w : Term). IsReached r.pairs w y) (sym t.1) rest ]

  abbrev Leads : Term → Term → Type 0
  Leads x y = WithSome r.pairs (Reaching r.pairs) (record { from = x; to = y })

  leads_on : (x z y : Term) → HasPair r.pairs x z → IsReached r.pairs z y → Leads x y
  leads_on x z y c k = (record { from = x; to = z }, c, (refl, k))

  -- some of them stand still, or a pair leads on
  settled : (x : Term) (zs : List Term) (y : Term) → Chain (Joins r) x zs y → (x ≡ y) ⊎ Leads x y
  settled x [] y e = inl e
  settled x (z ∷ zs) y k = elim k.0 [
    | inl c ↦ inr (leads_on x z y c (without_still z zs y k.1))
    | inr t ↦ elim (settled z zs y k.1) [ inl e ↦ inl (t.1 ∙ e) | inr l ↦ inr (subst (λ (w : Term). Leads w y) (sym t.1) l) ]
  ]

  moved : (x : Term) (zs : List Term) (y : Term) → zs ≢ [] → Chain (Joins r) x zs y → Leads x y ⊎ (IsTrue r.is_reflexive × (x ≡ y))
  moved x [] y some k = absurd (some refl)
  moved x (z ∷ zs) y some k = elim k.0 [
    | inl c ↦ inl (leads_on x z y c (without_still z zs y k.1))
    | inr t ↦ elim (settled z zs y k.1) [ inl e ↦ inr (t.0, t.1 ∙ e) | inr l ↦ inl (subst (λ (w : Term). Leads w y) (sym t.1) l) ]
  ]

  some_nodes : (z : Term) (zs : List Term) → z ∷ zs ≢ []
  some_nodes z zs e = cc

  pub chained_joins : (x y : Term) → (WithSome r.pairs (Reaching r.pairs) (record { from = x; to = y }) ⊎ (IsTrue r.is_reflexive × (x ≡ y))) ↔ JoinsOnceOrMore r x y
  chained_joins x y = (
    elim [
      | inl w ↦ (
          let a = w.0 in
          let first : HasPair r.pairs x a.to = subst (λ (v : Term). HasPair r.pairs v a.to) (sym w.2.0) w.1 in
          let chain = chain_same (HasPair r.pairs) (Joins r) (λ u v c. inl c) a.to w.2.1.0 y w.2.1.1 in
          (a.to ∷ w.2.1.0, some_nodes a.to w.2.1.0, (inl first, chain))
          )
      | inr t ↦ (y ∷ [], some_nodes y [], (inr t, refl))
    ],
    λ w. moved x w.0 y w.1 w.2,
  )
