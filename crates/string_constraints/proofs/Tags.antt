-- Lengths, language tags, and lists of tags that grow.
use Rattle.std.proofs.Common.{◌≡◌, ◌∙◌, ℕ, ◌+◌, ◌<◌, ◌≤◌, true, false, List, [], ◌∷◌, length, map, get_or, Option, Some, None, refl, sym, ap, arith, subst, inl, inr}
use Rattle.std.specs.Prelude.{◌↔◌, ◌⊎◌, ◌≢◌, ℤ, pos, int_lt, chars, nat_lt, option_map}
use Rattle.std.specs.List.{Contains, list_any}
use Rattle.std.specs.Option.{unwrap_or}
use Rattle.std.specs.Ordering.{nat_cmp, is_eq, match_ordering}
use Rattle.std.specs.declared.cmp.Ordering.{Ordering}
use Rattle.std.specs.declared.cmp.Ordering.TheVariants.{Less, Equal, Greater}
use Rattle.std.specs.Cmp.Lexicographic.{slice_cmp, bytes_decides}
use Rattle.std.specs.BTreeSet.{insert_key}
use Rattle.std.proofs.lemmas.Bool.Decides.{nat_tests}
use Rattle.std.proofs.lemmas.Map.Lookups.{exact_bytes}
use Rattle.std.proofs.lemmas.Map.Text.{is_eq-slice_cmp}
use Rattle.std.proofs.lemmas.Option.{same_Some}
use Rattle.std.proofs.lemmas.List.Elements.{Contains-get_or}
use Rattle.collections.proofs.Members.{has_cases, has_equal, has_tail}
use Rattle.rdf_model.specs.declared.term.Term.{Term}
use Rattle.rdf_model.specs.declared.term.Term.TheVariants.{Blank, Iri, Literal}
use Rattle.rdf_model.specs.Numbers.{term_at, IsNumbering}
use Rattle.literal_order.specs.Texts.{lang_matches, string_value}
use Rattle.shape_model.specs.TermTests.{HasTag, IsInLanguages}
use Rattle.shape_model.specs.Triples.{IsMember}
use Rattle.component_rows.specs.Nodes.{AreNodes, HasNode}
use Rattle.component_rows.proofs.Answering.{place_in, at_one_place}
use Rattle.component_rows.proofs.Collecting.{mapped_from, mapped_to}
use Rattle.component_rows.specs.declared.bound.End.{End}
use Rattle.component_rows.specs.declared.bound.End.TheVariants.{Least, Most}
use Rattle.component_rows.specs.Bounds.{IsWrong}
use Rattle.string_constraints.specs.Lengths.{HasWrongLength}
use Rattle.string_constraints.specs.Languages.{tag_of, is_in_range, Adds, Notes, AreShared}

-- whether a length is wrong is decided
wrong_or_not : (end : End) (count : Option ℤ) (n : ℕ) → IsWrong end count n ⊎ (IsWrong end count n → ⊥)
wrong_or_not Least None n = inr (λ h. let e = h.1 in cc)
wrong_or_not Most None n = inr (λ h. let e = h.1 in cc)
wrong_or_not Least (Some k) n = elim (int_lt (pos n) k) as (λ b. int_lt (pos n) k ≡ b → IsWrong Least (Some k) n ⊎ (IsWrong Least (Some k) n → ⊥)) [
  | true ↦ λ e. inl (k, refl, e)
  | false ↦ λ e. inr (λ h. let same = same_Some k h.0 h.1 in let less = subst (λ (j : ℤ). int_lt (pos n) j ≡ true) (sym same) h.2 in cc (e, less))
] refl
wrong_or_not Most (Some k) n = elim (int_lt k (pos n)) as (λ b. int_lt k (pos n) ≡ b → IsWrong Most (Some k) n ⊎ (IsWrong Most (Some k) n → ⊥)) [
  | true ↦ λ e. inl (k, refl, e)
  | false ↦ λ e. inr (λ h. let same = same_Some k h.0 h.1 in let less = subst (λ (j : ℤ). int_lt j (pos n) ≡ true) (sym same) h.2 in cc (e, less))
] refl

of_text : (end : End) (count : Option ℤ) (v : Term) (o : Option (List ℕ)) → string_value v ≡ o → HasWrongLength end count v ⊎ (HasWrongLength end count v → ⊥)
of_text end count v None e = inl (inl e)
of_text end count v (Some text) e = elim (wrong_or_not end count (length (chars text))) [
  | inl w ↦ inl (inr (text, e, w))
  | inr not ↦ inr (λ h. elim h [
    | inl none ↦ (let same : None ≡ Some text = sym none ∙ e in cc)
    | inr p ↦ (let same = same_Some text p.0 (sym e ∙ p.1) in not (subst (λ (t : List ℕ). IsWrong end count (length (chars t))) (sym same) p.2))
  ])
]

pub stable_length : (end : End) (count : Option ℤ) (v : Term) → ((HasWrongLength end count v → ⊥) → ⊥) → HasWrongLength end count v
stable_length end count v h = elim (of_text end count v (string_value v) refl) [ inl w ↦ w | inr not ↦ absurd (h not) ]

-- the tag of a literal is the one that it has
pub has_its_tag : (v : Term) (t : List ℕ) → tag_of v ≡ Some t → HasTag t v
has_its_tag (Blank s n) t e = cc
has_its_tag (Iri i) t e = cc
has_its_tag (Literal text datatype language) t e = e

pub is_its_tag : (v : Term) (t : List ℕ) → HasTag t v → tag_of v ≡ Some t
is_its_tag (Blank s n) t h = absurd h
is_its_tag (Iri i) t h = absurd h
is_its_tag (Literal text datatype language) t h = h

-- some range that matches is a member
in_range : (tag : List ℕ) (m : Term) (o : Option (List ℕ)) → string_value m ≡ o → is_in_range tag m ≡ true → (range : List ℕ) × (string_value m ≡ Some range) × (lang_matches tag range ≡ true)
in_range tag m None e h = (let no : false ≡ true = ap (λ (o : Option (List ℕ)). unwrap_or (option_map (lang_matches tag) o) false) (sym e) ∙ h in cc)
in_range tag m (Some range) e h = (range, e, ap (λ (o : Option (List ℕ)). unwrap_or (option_map (lang_matches tag) o) false) (sym e) ∙ h)

module _ {X : Type 0} (term : X → Term) (tag : List ℕ) where
  found_range : (rs : List X) → list_any (λ r. is_in_range tag (term r)) rs ≡ true → (m : Term) × IsMember (map term rs) m × (is_in_range tag m ≡ true)
  found_range [] h = cc
  found_range (r ∷ rs) h = elim (is_in_range tag (term r)) as (λ b. is_in_range tag (term r) ≡ b → (m : Term) × IsMember (map term (r ∷ rs)) m × (is_in_range tag m ≡ true)) [
    | true ↦ λ e. (term r, inl refl, e)
    | false ↦ λ e. (let k = found_range rs (grind (arith, e, h)) in (k.0, inr k.1, k.2))
  ] refl

  has_range : (rs : List X) (m : Term) → IsMember (map term rs) m → is_in_range tag m ≡ true → list_any (λ r. is_in_range tag (term r)) rs ≡ true
  has_range [] m c h = absurd c
  has_range (r ∷ rs) m c h = elim c [
    | inl e ↦ (let first : is_in_range tag (term r) ≡ true = ap (is_in_range tag) e ∙ h in grind (arith, first))
    | inr d ↦ (let rest = has_range rs m d h in elim (is_in_range tag (term r)) as (λ b. is_in_range tag (term r) ≡ b → list_any (λ r. is_in_range tag (term r)) (r ∷ rs) ≡ true) [
      | true ↦ λ e. grind (arith, e)
      | false ↦ λ e. grind (arith, e, rest)
    ] refl)
  ]

  pub in_languages : (rs : List X) (v : Term) → tag_of v ≡ Some tag → (list_any (λ r. is_in_range tag (term r)) rs ≡ true) ↔ IsInLanguages (map term rs) v
  in_languages rs v is = (
    λ h. let k = found_range rs h in let range = in_range tag k.0 (string_value k.0) refl k.2 in (tag, k.0, range.0, has_its_tag v tag is, k.1, range.1, range.2),
    λ h. let same : h.0 ≡ tag = same_Some h.0 tag (sym (is_its_tag v h.0 h.3) ∙ is) in
        has_range rs h.1 h.4 (ap (λ (o : Option (List ℕ)). unwrap_or (option_map (lang_matches tag) o) false) h.5 ∙ subst (λ (t : List ℕ). lang_matches t h.2 ≡ true) same h.6),
  )

pub no_languages : (ranges : List Term) (v : Term) → tag_of v ≡ None → IsInLanguages ranges v → ⊥
no_languages ranges v none h = let is : None ≡ Some h.0 = sym none ∙ is_its_tag v h.0 h.3 in cc

-- a set has the keys that are in its list
equal_key : (a b : List ℕ) → is_eq (slice_cmp nat_cmp a b) ≡ true → a ≡ b
equal_key a b h = elim (slice_cmp nat_cmp a b) as (λ o. slice_cmp nat_cmp a b ≡ o → a ≡ b) [
  | Less ↦ λ e. (let no : false ≡ true = ap is_eq (sym e) ∙ h in cc)
  | Equal ↦ λ e. exact_bytes a b e
  | Greater ↦ λ e. (let no : false ≡ true = ap is_eq (sym e) ∙ h in cc)
] refl

same_key : (a b : List ℕ) → a ≡ b → is_eq (slice_cmp nat_cmp a b) ≡ true
same_key a b e = is_eq-slice_cmp a b ∙ (bytes_decides a b).1 e

pub key_from : (t : List ℕ) (ks : List (List ℕ)) → list_any (λ k. is_eq (slice_cmp nat_cmp t k)) ks ≡ true → Contains ks t
key_from t [] h = cc
key_from t (k ∷ ks) h = elim (is_eq (slice_cmp nat_cmp t k)) as (λ b. is_eq (slice_cmp nat_cmp t k) ≡ b → Contains (k ∷ ks) t) [
  | true ↦ λ e. has_equal k ks t (sym (equal_key t k e))
  | false ↦ λ e. has_tail k ks t (key_from t ks (grind (arith, e, h)))
] refl

pub key_to : (t : List ℕ) (ks : List (List ℕ)) → Contains ks t → list_any (λ k. is_eq (slice_cmp nat_cmp t k)) ks ≡ true
key_to t [] c = absurd (omega arith)
key_to t (k ∷ ks) c = elim (has_cases k ks t c) [
  | inl e ↦ (let first = same_key t k (sym e) in grind (arith, first))
  | inr d ↦ (let rest = key_to t ks d in elim (is_eq (slice_cmp nat_cmp t k)) as (λ b. is_eq (slice_cmp nat_cmp t k) ≡ b → list_any (λ j. is_eq (slice_cmp nat_cmp t j)) (k ∷ ks) ≡ true) [
    | true ↦ λ e. grind (arith, e)
    | false ↦ λ e. grind (arith, e, rest)
  ] refl)
]

-- a key that is put into its place is there, beside the others
at_place : (k : List ℕ) (ks rest : List (List ℕ)) (t : List ℕ) (o : Ordering) → slice_cmp nat_cmp t k ≡ o → Adds ks t rest → Adds (k ∷ ks) t (match_ordering o (t ∷ k ∷ ks) (k ∷ ks) (k ∷ rest))
at_place k ks rest t Less e h u = (
  λ c. elim (has_cases t (k ∷ ks) u c) [ inl same ↦ inr same | inr d ↦ inl d ],
  λ p. elim p [ inl c ↦ has_tail t (k ∷ ks) u c | inr same ↦ has_equal t (k ∷ ks) u same ],
)
at_place k ks rest t Equal e h u = (
  λ c. inl c,
  λ p. elim p [ inl c ↦ c | inr same ↦ has_equal k ks u (sym (exact_bytes t k e) ∙ same) ],
)
at_place k ks rest t Greater e h u = (
  λ c. elim (has_cases k rest u c) [
    | inl same ↦ inl (has_equal k ks u same)
    | inr d ↦ elim ((h u).0 d) [ inl old ↦ inl (has_tail k ks u old) | inr same ↦ inr same ]
  ],
  λ p. elim p [
    | inl c ↦ elim (has_cases k ks u c) [ inl same ↦ has_equal k rest u same | inr d ↦ has_tail k rest u ((h u).1 (inl d)) ]
    | inr same ↦ has_tail k rest u ((h u).1 (inr same))
  ],
)

pub key_added : (ks : List (List ℕ)) (t : List ℕ) → Adds ks t (insert_key (slice_cmp nat_cmp) ks t)
key_added [] t u = (
  λ c. elim (has_cases t [] u c) [ inl same ↦ inr same | inr never ↦ absurd (omega arith) ],
  λ p. elim p [ inl c ↦ absurd (omega arith) | inr same ↦ has_equal t [] u same ],
)
key_added (k ∷ ks) t u = at_place k ks (insert_key (slice_cmp nat_cmp) ks t) t (slice_cmp nat_cmp t k) refl (key_added ks t) u

-- a tag that was seen is shared, and stays seen
pub seen_again : (t : List ℕ) (seen shared new : List (List ℕ)) → Contains seen t → Adds shared t new → Notes (Some t) seen shared seen new
seen_again t seen shared new there adds = record {
  seen = λ u. (λ c. inl c, λ p. elim p [ inl c ↦ c | inr e ↦ subst (λ (x : List ℕ). Contains seen x) (same_Some t u e) there ]);
  shared = λ u. (
    λ c. elim ((adds u).0 c) [ inl old ↦ inl old | inr e ↦ inr (ap Some e, subst (λ (x : List ℕ). Contains seen x) e there) ],
    λ p. elim p [ inl old ↦ (adds u).1 (inl old) | inr q ↦ (adds u).1 (inr (same_Some t u q.0)) ],
  );
}

-- another is seen, and not shared
pub seen_first : (t : List ℕ) (seen shared new : List (List ℕ)) → (Contains seen t → ⊥) → Adds seen t new → Notes (Some t) seen shared new shared
seen_first t seen shared new absent adds = record {
  seen = λ u. (
    λ c. elim ((adds u).0 c) [ inl old ↦ inl old | inr e ↦ inr (ap Some e) ],
    λ p. elim p [ inl old ↦ (adds u).1 (inl old) | inr e ↦ (adds u).1 (inr (same_Some t u e)) ],
  );
  shared = λ u. (λ c. inl c, λ p. elim p [ inl old ↦ old | inr q ↦ absurd (absent (subst (λ (x : List ℕ). Contains seen x) (sym (same_Some t u q.0)) q.1)) ]);
}

pub nothing_seen : (tag : Option (List ℕ)) (seen shared : List (List ℕ)) → tag ≡ None → Notes tag seen shared seen shared
nothing_seen tag seen shared none = record {
  seen = λ u. (λ c. inl c, λ p. elim p [ inl old ↦ old | inr e ↦ (let no : None ≡ Some u = sym none ∙ e in cc) ]);
  shared = λ u. (λ c. inl c, λ p. elim p [ inl old ↦ old | inr q ↦ (let e = q.0 in let no : None ≡ Some u = sym none ∙ e in cc) ]);
}

-- the tags of the first n nodes, and those that two of them have
module _ (terms : List Term) (nodes : List ℕ) where
  abbrev tag_at : ℕ → Option (List ℕ)
  tag_at i = tag_of (term_at terms (get_or nodes i 0))

  pub record Noted (n : ℕ) (seen shared : List (List ℕ)) : Type 0 where
    pub seen_by : (t : List ℕ) → Contains seen t ↔ ((i : ℕ) × (i < n) × (tag_at i ≡ Some t))
    pub shared_by : (t : List ℕ) → Contains shared t ↔ ((i : ℕ) × (j : ℕ) × (i < j) × (j < n) × (tag_at i ≡ Some t) × (tag_at j ≡ Some t))

  pub noted_none : Noted 0 [] []
  noted_none = record {
    seen_by = λ t. (λ c. absurd (omega arith), λ h. let lt = h.1 in absurd (omega (arith, lt)));
    shared_by = λ t. (λ c. absurd (omega arith), λ h. let lt = h.3 in absurd (omega (arith, lt)));
  }

  last_or : (i n : ℕ) → i < n + 1 → (i < n) ⊎ (i ≡ n)
  last_or i n lt = elim (nat_lt i n) as (λ b. nat_lt i n ≡ b → (i < n) ⊎ (i ≡ n)) [ true ↦ λ e. inl (grind (arith, nat_tests)) | false ↦ λ e. inr (grind (arith, nat_tests)) ] refl

  pub noted_more : (n : ℕ) (seen shared new new_shared : List (List ℕ)) → Noted n seen shared → Notes (tag_at n) seen shared new new_shared → Noted (n + 1) new new_shared
  noted_more n seen shared new new_shared h k = record {
    seen_by = λ t. (
      λ c. elim ((k.seen t).0 c) [
        | inl old ↦ (let p = (h.seen_by t).0 old in let lt = p.1 in (p.0, omega (arith, lt), p.2))
        | inr e ↦ (n, omega arith, e)
      ],
      λ p. elim (last_or p.0 n p.1) [
        | inl lt ↦ (k.seen t).1 (inl ((h.seen_by t).1 (p.0, lt, p.2)))
        | inr last ↦ (k.seen t).1 (inr (subst (λ (i : ℕ). tag_at i ≡ Some t) last p.2))
      ],
    );
    shared_by = λ t. (
      λ c. elim ((k.shared t).0 c) [
        | inl old ↦ (let p = (h.shared_by t).0 old in let lt = p.3 in (p.0, p.1, p.2, omega (arith, lt), p.4, p.5))
        | inr q ↦ (let p = (h.seen_by t).0 q.1 in (p.0, n, p.1, omega arith, p.2, q.0))
      ],
      λ p. elim (last_or p.1 n p.3) [
        | inl lt ↦ (k.shared t).1 (inl ((h.shared_by t).1 (p.0, p.1, p.2, lt, p.4, p.5)))
        | inr last ↦ (let before = p.2 in (k.shared t).1 (inr (subst (λ (j : ℕ). tag_at j ≡ Some t) last p.5, (h.seen_by t).1 (p.0, omega (arith, before, last), p.4))))
      ],
    );
  }

  module _ (numbering : IsNumbering terms) (are : AreNodes terms nodes) where
    named_at : (i : ℕ) → i < length nodes → get_or nodes i 0 < length terms
    named_at i lt = are.named (get_or nodes i 0) (Contains-get_or nodes i 0 lt)

    -- two places are two terms
    apart : (i j : ℕ) → i < j → j < length nodes → term_at terms (get_or nodes i 0) ≢ term_at terms (get_or nodes j 0)
    apart i j lt in_j same =
        let in_i : i < length nodes = omega (arith, lt, in_j) in
        let number = numbering (get_or nodes i 0) (get_or nodes j 0) (named_at i in_i) (named_at j in_j) same in
        let one = at_one_place nodes are.ascending i j in_i in_j number in
        absurd (omega (arith, lt, one))

    placed : (v : Term) → HasNode terms nodes v → (i : ℕ) × (i < length nodes) × (term_at terms (get_or nodes i 0) ≡ v)
    placed v h = let m = mapped_from (term_at terms) nodes v h in let place = place_in nodes m.0 m.1 in (place.0, place.1, ap (term_at terms) place.2 ∙ m.2)

    tag_there : (v : Term) (t : List ℕ) (i : ℕ) → term_at terms (get_or nodes i 0) ≡ v → HasTag t v → tag_at i ≡ Some t
    tag_there v t i is h = ap tag_of is ∙ is_its_tag v t h

    of_node : (i : ℕ) → i < length nodes → HasNode terms nodes (term_at terms (get_or nodes i 0))
    of_node i lt = mapped_to (term_at terms) nodes (get_or nodes i 0) (Contains-get_or nodes i 0 lt)

    order_of : (i j : ℕ) → i ≢ j → (i < j) ⊎ (j < i)
    order_of i j apart = elim (nat_lt i j) as (λ b. nat_lt i j ≡ b → (i < j) ⊎ (j < i)) [
      | true ↦ λ e. inl (grind (arith, nat_tests))
      | false ↦ λ e. inr (elim (nat_lt j i) as (λ b. nat_lt j i ≡ b → j < i) [ true ↦ λ f. grind (arith, nat_tests) | false ↦ λ f. absurd (apart (grind (arith, nat_tests))) ] refl)
    ] refl

    pub all_noted : (n : ℕ) (seen shared : List (List ℕ)) → length nodes ≤ n → n ≤ length nodes → Noted n seen shared → AreShared terms nodes shared
    all_noted n seen shared le ge h t = (
      λ c. let p = (h.shared_by t).0 c in
          let before = p.2 in let last = p.3 in
          let in_j : p.1 < length nodes = omega (arith, last, ge) in
          let in_i : p.0 < length nodes = omega (arith, before, in_j) in (
            term_at terms (get_or nodes p.0 0),
            term_at terms (get_or nodes p.1 0),
            apart p.0 p.1 p.2 in_j,
            of_node p.0 in_i,
            of_node p.1 in_j,
            has_its_tag (term_at terms (get_or nodes p.0 0)) t p.4,
            has_its_tag (term_at terms (get_or nodes p.1 0)) t p.5,
          ),
      λ p. let i = placed p.0 p.3 in
          let j = placed p.1 p.4 in
          let in_i = i.1 in
          let in_j = j.1 in
          elim (order_of i.0 j.0 (λ same. p.2 (sym i.2 ∙ ap (λ (k : ℕ). term_at terms (get_or nodes k 0)) same ∙ j.2))) [
            | inl lt ↦ (h.shared_by t).1 (i.0, j.0, lt, omega (arith, in_j, le), tag_there p.0 t i.0 i.2 p.5, tag_there p.1 t j.0 j.2 p.6)
            | inr lt ↦ (h.shared_by t).1 (j.0, i.0, lt, omega (arith, in_i, le), tag_there p.1 t j.0 j.2 p.6, tag_there p.0 t i.0 i.2 p.5)
          ],
    )

pub nothing_left : (ts : List (List ℕ)) → (0 < length ts → false ≡ true) → ts ≡ []
nothing_left [] h = refl
nothing_left (t ∷ ts) h = let no : false ≡ true = h (omega arith) in cc
