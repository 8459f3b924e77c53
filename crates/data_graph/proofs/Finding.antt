-- What a find gives after changes is what it gave, after those changes that it asks for.
use Rattle.std.proofs.Common.{◌≡◌, ◌∙◌, Bool, true, false, List, [], ◌∷◌, refl, sym, ap, subst, cond, inl, inr}
use Rattle.std.specs.Prelude.{filter}
use Rattle.std.specs.List.{Contains}
use Rattle.collections.specs.Listings.{IsListing}
use Rattle.collections.specs.Ordered.{IsAscending, with_item, without_item}
use Rattle.collections.proofs.Ascending.{IsAscending-with_item, IsAscending-without_item}
use Rattle.collections.proofs.Members.{same_lists, with_cases, with_new, with_old, without_gone, without_new, without_old}
use Rattle.rdf_model.specs.declared.change.Change.{Change}
use Rattle.rdf_model.specs.declared.change.Change.TheVariants.{Add, Remove}
use Rattle.rdf_model.specs.declared.ids.Ids.{Ids}
use Rattle.rdf_model.specs.declared.pattern.Pattern.{Pattern}
use Rattle.rdf_model.specs.declared.term.Term.{Term}
use Rattle.rdf_model.specs.declared.triple.Triple.{Triple}
use Rattle.rdf_model.specs.Graphs.{after, changed}
use Rattle.rdf_model.specs.Matching.{matches}
use Rattle.rdf_model.specs.Numbers.{graph_of}
use Rattle.rdf_model.specs.Orders.{triple_exact, triple_total}
use Rattle.rdf_model.specs.Terms.{triple_cmp}
use Rattle.store_model.specs.Finds.{found}
use Rattle.store_model.specs.Store.{changed_triple}
use Rattle.store_model.proofs.SetMembers.{ascending-filter}
use Rattle.triple_index.proofs.Matching.{keeps, kept_of}
use Rattle.data_graph.specs.DataGraphs.{IsIndexOf}
use Rattle.data_graph.specs.Finding.{changes_asked}

module _ (q : Triple → Bool) (g : List Triple) (ascending : IsAscending triple_cmp g) where
  kept_ascend : IsAscending triple_cmp (filter q g)
  kept_ascend = ascending-filter triple_total q g ascending

  differs : (t w : Triple) → q t ≡ false → q w ≡ true → t ≡ w → ⊥
  differs t w f k e = let h = ap q e in cc (h, f, k)

  with_asked : (t : Triple) → q t ≡ true → filter q (with_item triple_cmp t g) ≡ with_item triple_cmp t (filter q g)
  with_asked t k = same_lists triple_cmp triple_total (filter q (with_item triple_cmp t g)) (with_item triple_cmp t (filter q g))
      (ascending-filter triple_total q (with_item triple_cmp t g) (IsAscending-with_item triple_total t g ascending)) (IsAscending-with_item triple_total t (filter q g) kept_ascend)
      (λ w. (
        λ c. let h = kept_of q (with_item triple_cmp t g) w c in elim (with_cases triple_cmp t g w h.0) [
          | inl e ↦ subst (λ (x : Triple). Contains (with_item triple_cmp t (filter q g)) x) e (with_new triple_cmp triple_total triple_exact t (filter q g))
          | inr d ↦ with_old triple_cmp t (filter q g) w (keeps q g w d h.1)
        ],
        λ c. elim (with_cases triple_cmp t (filter q g) w c) [
          | inl e ↦ keeps q (with_item triple_cmp t g) w (subst (λ (x : Triple). Contains (with_item triple_cmp t g) x) e (with_new triple_cmp triple_total triple_exact t g)) (subst (λ (x : Triple). q x ≡ true) e k)
          | inr d ↦ let h = kept_of q g w d in keeps q (with_item triple_cmp t g) w (with_old triple_cmp t g w h.0) h.1
        ],
      ))

  without_asked : (t : Triple) → filter q (without_item triple_cmp t g) ≡ without_item triple_cmp t (filter q g)
  without_asked t = same_lists triple_cmp triple_total (filter q (without_item triple_cmp t g)) (without_item triple_cmp t (filter q g))
      (ascending-filter triple_total q (without_item triple_cmp t g) (IsAscending-without_item triple_total t g ascending)) (IsAscending-without_item triple_total t (filter q g) kept_ascend)
      (λ w. (
        λ c. let h = kept_of q (without_item triple_cmp t g) w c in without_new triple_cmp triple_total triple_exact t (filter q g) w (keeps q g w (without_old triple_cmp t g w h.0) h.1)
            (λ e. without_gone triple_cmp triple_total triple_exact t g ascending (subst (λ (x : Triple). Contains (without_item triple_cmp t g) x) (sym e) h.0)),
        λ c. let h = kept_of q g w (without_old triple_cmp t (filter q g) w c) in keeps q (without_item triple_cmp t g) w (without_new triple_cmp triple_total triple_exact t g w h.0
            (λ e. without_gone triple_cmp triple_total triple_exact t (filter q g) kept_ascend (subst (λ (x : Triple). Contains (without_item triple_cmp t (filter q g)) x) (sym e) c))) h.1,
      ))

  with_other : (t : Triple) → q t ≡ false → filter q (with_item triple_cmp t g) ≡ filter q g
  with_other t f = same_lists triple_cmp triple_total (filter q (with_item triple_cmp t g)) (filter q g)
      (ascending-filter triple_total q (with_item triple_cmp t g) (IsAscending-with_item triple_total t g ascending)) kept_ascend
      (λ w. (
        λ c. let h = kept_of q (with_item triple_cmp t g) w c in elim (with_cases triple_cmp t g w h.0) [ inl e ↦ absurd (differs t w f h.1 e) | inr d ↦ keeps q g w d h.1 ],
        λ c. let h = kept_of q g w c in keeps q (with_item triple_cmp t g) w (with_old triple_cmp t g w h.0) h.1,
      ))

  without_other : (t : Triple) → q t ≡ false → filter q (without_item triple_cmp t g) ≡ filter q g
  without_other t f = same_lists triple_cmp triple_total (filter q (without_item triple_cmp t g)) (filter q g)
      (ascending-filter triple_total q (without_item triple_cmp t g) (IsAscending-without_item triple_total t g ascending)) kept_ascend
      (λ w. (
        λ c. let h = kept_of q (without_item triple_cmp t g) w c in keeps q g w (without_old triple_cmp t g w h.0) h.1,
        λ c. let h = kept_of q g w c in keeps q (without_item triple_cmp t g) w (without_new triple_cmp triple_total triple_exact t g w h.0 (differs t w f h.1)) h.1,
      ))

ascends : (g : List Triple) (c : Change) → IsAscending triple_cmp g → IsAscending triple_cmp (changed g c)
ascends g (Add t) a = IsAscending-with_item triple_total t g a
ascends g (Remove t) a = IsAscending-without_item triple_total t g a

module _ (p : Pattern) where
  asked : (g : List Triple) (c : Change) → IsAscending triple_cmp g → matches p (changed_triple c) ≡ true → found (changed g c) p ≡ changed (found g p) c
  asked g (Add t) a k = with_asked (λ t. matches p t) g a t k
  asked g (Remove t) a k = without_asked (λ t. matches p t) g a t

  other : (g : List Triple) (c : Change) → IsAscending triple_cmp g → matches p (changed_triple c) ≡ false → found (changed g c) p ≡ found g p
  other g (Add t) a f = with_other (λ t. matches p t) g a t f
  other g (Remove t) a f = without_other (λ t. matches p t) g a t f

  pub found_after : (g : List Triple) (net : List Change) → IsAscending triple_cmp g → found (after g net) p ≡ after (found g p) (changes_asked p net)
  found_after g [] a = refl
  found_after g (c ∷ net) a = found_after (changed g c) net (ascends g c a) ∙ (elim (matches p (changed_triple c)) as (λ b. matches p (changed_triple c) ≡ b → after (found (changed g c) p) (changes_asked p net) ≡ after (found g p) (cond b (c ∷ changes_asked p net) (changes_asked p net))) [
    | true ↦ λ k. ap (λ (ts : List Triple). after ts (changes_asked p net)) (asked g c a k)
    | false ↦ λ f. ap (λ (ts : List Triple). after ts (changes_asked p net)) (other g c a f)
  ] refl)

  -- by the numbers of an index
  pub found_indexed : (terms : List Term) (ids : List Ids) (g ts : List Triple) → IsAscending triple_cmp g → IsIndexOf terms ids g → IsListing triple_cmp (λ t. Contains (graph_of terms ids) t × (matches p t ≡ true)) ts → ts ≡ found g p
  found_indexed terms ids g ts a x l = same_lists triple_cmp triple_total ts (found g p) l.ascending (ascending-filter triple_total (λ t. matches p t) g a)
      (λ t. (
        λ c. let h = (l.members t).0 c in keeps (λ t. matches p t) g t ((x.members t).0 h.0) h.1,
        λ c. let h = kept_of (λ t. matches p t) g t c in (l.members t).1 ((x.members t).1 h.0, h.1),
      ))
