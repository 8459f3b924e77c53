-- What changes leave of the triples that they touch, change by change.
use Rattle.std.proofs.Common.{◌≡◌, ◌∙◌, ℕ, ◌+◌, ◌<◌, Bool, true, false, ◌||◌, List, [], ◌∷◌, ◌++◌, length, get_or, map, take, refl, sym, ap, subst, cond, arith, inl, inr}
use Rattle.std.specs.Prelude.{◌⊎◌, ◌↔◌, not, filter}
use Rattle.std.specs.List.{Contains, list_any}
use Rattle.std.specs.Ordering.{is_eq}
use Rattle.std.specs.Cmp.{tied_itself}
use Rattle.std.proofs.lemmas.List.{map-append, take_more}
use Rattle.std.proofs.lemmas.List.Elements.{Contains-append_cases, Contains-append_left, Contains-append_right, filter-append}
use Rattle.collections.specs.Listings.{IsListing}
use Rattle.collections.specs.Ordered.{IsAscending, with_item, without_item}
use Rattle.collections.proofs.Members.{has_cases, has_equal, has_tail, same_lists, with_cases, with_new, with_old, without_gone, without_new, without_old}
use Rattle.rdf_model.specs.declared.change.Change.{Change}
use Rattle.rdf_model.specs.declared.change.Change.TheVariants.{Add, Remove}
use Rattle.rdf_model.specs.declared.pattern.Pattern.{Pattern}
use Rattle.rdf_model.specs.declared.term.Term.{Term}
use Rattle.rdf_model.specs.declared.triple.Triple.{Triple}
use Rattle.rdf_model.specs.Graphs.{after, changed, with_each}
use Rattle.rdf_model.specs.Matching.{matches}
use Rattle.rdf_model.specs.Orders.{triple_exact, triple_total}
use Rattle.rdf_model.specs.Terms.{triple_cmp}
use Rattle.store_model.specs.Store.{changed_triple}
use Rattle.store_model.proofs.Histories.{IsAscending-after}
use Rattle.triple_index.specs.declared.change.NumberedChange.{NumberedChange}
use Rattle.triple_index.specs.Changes.{change_at}
use Rattle.triple_index.proofs.Matching.{keeps, kept_of}
use Rattle.data_graph.specs.Finding.{AreLast, IsLaid, changes_asked}
use Rattle.data_graph.proofs.Listed.{listing}
use Rattle.data_graph.proofs.Tests.{is_equal, or_last}

-- triples that tie are one
one : (t u : Triple) → is_eq (triple_cmp t u) ≡ true → t ≡ u
one t u e = triple_exact t u (is_equal (triple_cmp t u) e)

tied : (t u : Triple) → t ≡ u → is_eq (triple_cmp t u) ≡ true
tied t u e = subst (λ (w : Triple). is_eq (triple_cmp t w) ≡ true) e (ap is_eq (tied_itself triple_total t))

-- whether a set has a triple
abbrev pub has_key : Triple → List Triple → Bool
has_key t ks = list_any (λ k. is_eq (triple_cmp t k)) ks

key_there : (t : Triple) (ks : List Triple) → has_key t ks ≡ true → Contains ks t
key_there t [] h = cc
key_there t (k ∷ ks) h = elim (is_eq (triple_cmp t k)) as (λ b. is_eq (triple_cmp t k) ≡ b → (b || has_key t ks) ≡ true → Contains (k ∷ ks) t) [
  | true ↦ λ e g. has_equal k ks t (sym (one t k e))
  | false ↦ λ e g. has_tail k ks t (key_there t ks g)
] refl h

there_key : (t : Triple) (ks : List Triple) → Contains ks t → has_key t ks ≡ true
there_key t [] c = absurd (omega arith)
there_key t (k ∷ ks) c = elim (has_cases k ks t c) [
  | inl e ↦ ap (λ b. b || has_key t ks) (tied t k (sym e))
  | inr d ↦ or_last (is_eq (triple_cmp t k)) (has_key t ks) (there_key t ks d)
]

-- a set with one triple more, and with one less
abbrev pub IsMore : List Triple → Triple → List Triple → Type 0
IsMore old u new = (t : Triple) → Contains new t ↔ ((u ≡ t) ⊎ Contains old t)

abbrev pub IsLess : List Triple → Triple → List Triple → Type 0
IsLess old u new = (t : Triple) → Contains new t ↔ (Contains old t × (u ≡ t → ⊥))

same_or_not : (u t : Triple) → (u ≡ t) ⊎ (u ≡ t → ⊥)
same_or_not u t = elim (is_eq (triple_cmp u t)) as (λ b. is_eq (triple_cmp u t) ≡ b → (u ≡ t) ⊎ (u ≡ t → ⊥)) [
  | true ↦ λ e. inl (one u t e)
  | false ↦ λ e. inr (λ same. let k = tied u t same in cc (e, k))
] refl

pub more : (u : Triple) (old new : List Triple) → ((t : Triple) → has_key t new ≡ cond (is_eq (triple_cmp u t)) true (has_key t old)) → IsMore old u new
more u old new is t = (
  λ c. elim (is_eq (triple_cmp u t)) as (λ b. is_eq (triple_cmp u t) ≡ b → has_key t new ≡ cond b true (has_key t old) → (u ≡ t) ⊎ Contains old t) [
    | true ↦ λ e f. inl (one u t e)
    | false ↦ λ e f. inr (key_there t old (sym f ∙ there_key t new c))
  ] refl (is t),
  λ s. key_there t new (is t ∙ elim s [
    | inl e ↦ ap (λ b. cond b true (has_key t old)) (tied u t e)
    | inr d ↦ either (is_eq (triple_cmp u t)) (has_key t old) (there_key t old d)
  ]),
)
  where
    either : (a b : Bool) → b ≡ true → cond a true b ≡ true
    either true b h = refl
    either false b h = h

pub less : (u : Triple) (old new : List Triple) → ((t : Triple) → has_key t new ≡ cond (is_eq (triple_cmp u t)) false (has_key t old)) → IsLess old u new
less u old new is t = (
  λ c. elim (is_eq (triple_cmp u t)) as (λ b. is_eq (triple_cmp u t) ≡ b → has_key t new ≡ cond b false (has_key t old) → Contains old t × (u ≡ t → ⊥)) [
    | true ↦ λ e f. let k = there_key t new c in cc (f, k)
    | false ↦ λ e f. (key_there t old (sym f ∙ there_key t new c), λ same. let k = tied u t same in cc (e, k))
  ] refl (is t),
  λ s. key_there t new (is t ∙ elim (is_eq (triple_cmp u t)) as (λ b. is_eq (triple_cmp u t) ≡ b → cond b false (has_key t old) ≡ true) [
    | true ↦ λ e. absurd (s.1 (one u t e))
    | false ↦ λ e. there_key t old s.0
  ] refl),
)

-- one change more
module _ (g h added removed added' removed' : List Triple) (u : Triple) (a : IsAscending triple_cmp h) (laid : (t : Triple) → Contains h t ↔ IsLaid g added removed t) where
  adds : IsMore added u added' → IsLess removed u removed' → (t : Triple) → Contains (with_item triple_cmp u h) t ↔ IsLaid g added' removed' t
  adds m l t = (
    λ c. elim (with_cases triple_cmp u h t c) [
      | inl e ↦ inr ((m t).1 (inl e))
      | inr d ↦ elim ((laid t).0 d) [ inl k ↦ inl (k.0, λ r. k.1 ((l t).0 r).0) | inr k ↦ inr ((m t).1 (inr k)) ]
    ],
    λ s. elim s [
      | inl k ↦ elim (same_or_not u t) [
        | inl e ↦ subst (λ (w : Triple). Contains (with_item triple_cmp u h) w) e (with_new triple_cmp triple_total triple_exact u h)
        | inr n ↦ with_old triple_cmp u h t ((laid t).1 (inl (k.0, λ r. k.1 ((l t).1 (r, n)))))
      ]
      | inr k ↦ elim ((m t).0 k) [
        | inl e ↦ subst (λ (w : Triple). Contains (with_item triple_cmp u h) w) e (with_new triple_cmp triple_total triple_exact u h)
        | inr d ↦ with_old triple_cmp u h t ((laid t).1 (inr d))
      ]
    ],
  )

  removes : IsLess added u added' → IsMore removed u removed' → (t : Triple) → Contains (without_item triple_cmp u h) t ↔ IsLaid g added' removed' t
  removes l m t = (
    λ c.
        let n : u ≡ t → ⊥ = λ e. without_gone triple_cmp triple_total triple_exact u h a (subst (λ (w : Triple). Contains (without_item triple_cmp u h) w) (sym e) c) in
        elim ((laid t).0 (without_old triple_cmp u h t c)) [
          | inl k ↦ inl (k.0, λ r. elim ((m t).0 r) [ inl e ↦ n e | inr d ↦ k.1 d ])
          | inr k ↦ inr ((l t).1 (k, n))
        ],
    λ s. elim s [
      | inl k ↦ without_new triple_cmp triple_total triple_exact u h t ((laid t).1 (inl (k.0, λ r. k.1 ((m t).1 (inr r))))) (λ e. k.1 ((m t).1 (inl e)))
      | inr k ↦ let d = (l t).0 k in without_new triple_cmp triple_total triple_exact u h t ((laid t).1 (inr d.0)) d.1
    ],
  )

after_more : (g : List Triple) (net : List Change) (c : Change) → after g (net ++ c ∷ []) ≡ changed (after g net) c
after_more g [] c = refl
after_more g (d ∷ net) c = after_more (changed g d) net c

module _ (net : List Change) (added removed added' removed' : List Triple) (u : Triple) (last : AreLast net added removed) where
  pub last_added : IsMore added u added' → IsLess removed u removed' → AreLast (net ++ Add u ∷ []) added' removed'
  last_added m l g a t = subst (λ (ts : List Triple). Contains ts t ↔ IsLaid g added' removed' t) (sym (after_more g net (Add u))) (adds g (after g net) added removed added' removed' u (IsAscending-after g net a) (last g a) m l t)

  pub last_removed : IsLess added u added' → IsMore removed u removed' → AreLast (net ++ Remove u ∷ []) added' removed'
  last_removed l m g a t = subst (λ (ts : List Triple). Contains ts t ↔ IsLaid g added' removed' t) (sym (after_more g net (Remove u))) (removes g (after g net) added removed added' removed' u (IsAscending-after g net a) (last g a) l m t)

-- what is left where the removed are taken out, with what is added
abbrev pub is_kept : List Triple → Triple → Bool
is_kept removed t = not (has_key t removed)

not_there : (t : Triple) (ks : List Triple) → not (has_key t ks) ≡ true → Contains ks t → ⊥
not_there t ks e c = let k = there_key t ks c in cc (e, ap not k)

kept_there : (t : Triple) (ks : List Triple) → (Contains ks t → ⊥) → not (has_key t ks) ≡ true
kept_there t ks n = elim (has_key t ks) as (λ b. has_key t ks ≡ b → not b ≡ true) [
  | true ↦ λ e. absurd (n (key_there t ks e))
  | false ↦ λ e. refl
] refl

pub laid_has : (ts added removed laid : List Triple) → laid ≡ filter (is_kept removed) ts ++ added → (t : Triple) → Contains laid t ↔ IsLaid ts added removed t
laid_has ts added removed laid e t = (
  λ c. elim (Contains-append_cases (filter (is_kept removed) ts) added t (subst (λ (us : List Triple). Contains us t) e c)) [
    | inl d ↦ (let k = kept_of (is_kept removed) ts t d in inl (k.0, not_there t removed k.1))
    | inr d ↦ inr d
  ],
  λ s. subst (λ (us : List Triple). Contains us t) (sym e) (elim s [
    | inl k ↦ Contains-append_left (filter (is_kept removed) ts) added t (keeps (is_kept removed) ts t k.0 (kept_there t removed k.1))
    | inr d ↦ Contains-append_right (filter (is_kept removed) ts) added t d
  ]),
)

-- one change more of those that a pattern asks for
pub asked_more : (p : Pattern) (terms : List Term) (changes : List NumberedChange) (i : ℕ) (c : NumberedChange) → i < length changes →
    changes_asked p (map (change_at terms) (take (i + 1) changes)) ≡ changes_asked p (map (change_at terms) (take i changes)) ++ changes_asked p (change_at terms (get_or changes i c) ∷ [])
asked_more p terms changes i c lt =
    let next = get_or changes i c ∷ [] in
    ap (λ (cs : List NumberedChange). changes_asked p (map (change_at terms) cs)) (take_more changes i c lt)
    ∙ (ap (changes_asked p) (map-append (change_at terms) (take i changes) next) ∙ filter-append (λ d. matches p (changed_triple d)) (map (change_at terms) (take i changes)) (map (change_at terms) next))

pub asked_one : (p : Pattern) (c d : Change) → c ≡ d → true ≡ matches p (changed_triple d) → c ∷ [] ≡ changes_asked p (d ∷ [])
asked_one p c d e m = ap (λ (b : Change). b ∷ []) e ∙ ap (λ b. cond b (d ∷ []) []) m

pub asked_none : (p : Pattern) (d : Change) → false ≡ matches p (changed_triple d) → [] ≡ changes_asked p (d ∷ [])
asked_none p d m = ap (λ b. cond b (d ∷ []) []) m

-- the triples in their order, where they stand for a graph
pub sorted_laid : (net : List Change) (added removed ts laid sorted : List Triple) → AreLast net added removed → ((t : Triple) → Contains laid t ↔ IsLaid ts added removed t) → IsListing triple_cmp (Contains laid) sorted → sorted ≡ after (with_each [] ts) net
sorted_laid net added removed ts laid sorted last has l =
    let g = listing ts in
    same_lists triple_cmp triple_total sorted (after (with_each [] ts) net) l.ascending (IsAscending-after (with_each [] ts) net g.ascending) (λ t. (
      λ c. (last (with_each [] ts) g.ascending t).1 (elim ((has t).0 ((l.members t).0 c)) [ inl k ↦ inl ((g.members t).1 k.0, k.1) | inr k ↦ inr k ]),
      λ c. (l.members t).1 ((has t).1 (elim ((last (with_each [] ts) g.ascending t).0 c) [ inl k ↦ inl ((g.members t).0 k.0, k.1) | inr k ↦ inr k ])),
    ))
