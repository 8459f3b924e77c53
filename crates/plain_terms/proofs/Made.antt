-- Relations that are made of pairs.
use Rattle.std.proofs.Common.{◌≡◌, ℕ, ◌+◌, ◌<◌, ◌≤◌, length, take, get_or, ap, Bool, true, false, List, [], ◌∷◌, ◌++◌, ◌∙◌, refl, sym, subst, arith, inl, inr}
use Rattle.std.specs.Prelude.{◌⊎◌, ◌↔◌, ◌&&◌, ◌||◌, IsTrue}
use Rattle.std.specs.List.{Contains}
use Rattle.std.proofs.lemmas.List.{take_all, take_more}
use Rattle.std.proofs.lemmas.List.Elements.{Contains-append_left, Contains-append_right, Contains-push_cases}
use Rattle.rdf_model.specs.declared.term.Term.{Term}
use Rattle.rdf_model.specs.declared.triple.Triple.{Triple}
use Rattle.shape_model.specs.Triples.{Has}
use Rattle.plain_terms.specs.Finds.{Finds, WithSome}
use Rattle.plain_terms.proofs.FoundItems.{finds_at, finds_both, finds_same}
use Rattle.plain_terms.specs.declared.relation.Pair.{Pair}
use Rattle.plain_terms.specs.declared.relation.Relation.{Relation}
use Rattle.plain_terms.specs.Pairs.{EndOf, FromTriple, HasPair, Reaching, Through, Reversed}
use Rattle.plain_terms.specs.Relations.{Follows, Joins, JoinsInTurn, JoinsSomehow, Means}

never : false ≡ true → ⊥
never e = cc

-- a relation of pairs of which P holds
pub means_of : (R : Term → Term → Type 0) (P : Pair → Type 0) (pairs slice : List Pair) (flag : Bool) (made : Relation) → slice ≡ pairs → Finds P pairs → Finds (Contains slice) made.pairs → made.is_reflexive ≡ flag
    → ((x y : Term) → (P (record { from = x; to = y }) ⊎ (IsTrue flag × (x ≡ y))) ↔ R x y) → Means R made
means_of R P pairs slice flag made e h k f same =
    let there = subst (λ (xs : List Pair). Finds (Contains xs) made.pairs) e k in
    record {
      joins = λ x y. (
        λ j. (same x y).0 (elim j [
          | inl c ↦ inl ((h.members (record { from = x; to = y })).0 ((there.members (record { from = x; to = y })).0 c))
          | inr t ↦ inr (subst (λ (b : Bool). IsTrue b) f t.0, t.1)
        ]),
        λ r. elim ((same x y).1 r) [
          | inl p ↦ inl ((there.members (record { from = x; to = y })).1 ((h.members (record { from = x; to = y })).1 p))
          | inr t ↦ inr (subst (λ (b : Bool). IsTrue b) (sym f) t.0, t.1)
        ],
      );
    }

pub means_same : (R S : Term → Term → Type 0) (r : Relation) → ((x y : Term) → R x y ↔ S x y) → Means R r → Means S r
means_same R S r e h = record { joins = λ x y. (λ j. (e x y).0 ((h.joins x y).0 j), λ s. (h.joins x y).1 ((e x y).1 s)) }

pub by_predicate : (g : List Triple) (p x y : Term) → (WithSome g (FromTriple p) (record { from = x; to = y }) ⊎ (IsTrue false × (x ≡ y))) ↔ Has g x p y
by_predicate g p x y = (
  elim [
    | inl w ↦ subst (λ (t : Triple). Contains g t) (λ i. record { subject = (sym w.2.1 i).from; predicate = w.2.0 i; object = (sym w.2.1 i).to }) w.1
    | inr t ↦ absurd (never t.0)
  ],
  λ h. inl (record { subject = x; predicate = p; object = y }, h, (refl, refl)),
)

pub reversed_joins : (r : Relation) (x y : Term) → (WithSome r.pairs Reversed (record { from = x; to = y }) ⊎ (IsTrue r.is_reflexive × (x ≡ y))) ↔ Joins r y x
reversed_joins r x y = (
  elim [
    | inl w ↦ inl (subst (λ (a : Pair). Contains r.pairs a) (λ i. record { from = (sym w.2 i).to; to = (sym w.2 i).from }) w.1)
    | inr t ↦ inr (t.0, sym t.1)
  ],
  elim [ inl c ↦ inl (record { from = y; to = x }, c, refl) | inr t ↦ inr (t.0, sym t.1) ],
)

both_true : (a b : Bool) → (a && b) ≡ true → (a ≡ true) × (b ≡ true)
both_true true b e = (refl, e)
both_true false b e = absurd (never e)

true_both : (a b : Bool) → a ≡ true → b ≡ true → (a && b) ≡ true
true_both true b e k = k
true_both false b e k = absurd (never e)

one_true : (a b : Bool) → (a || b) ≡ true → (a ≡ true) ⊎ (b ≡ true)
one_true true b e = inl refl
one_true false b e = inr e

true_first : (a b : Bool) → a ≡ true → (a || b) ≡ true
true_first true b e = refl
true_first false b e = absurd (never e)

true_second : (a b : Bool) → b ≡ true → (a || b) ≡ true
true_second true b e = refl
true_second false b e = e

module _ (r s : Relation) where
  pub followed_joins : (x y : Term) → (Follows r s (record { from = x; to = y }) ⊎ (IsTrue (r.is_reflexive && s.is_reflexive) × (x ≡ y))) ↔ ((z : Term) × Joins r x z × Joins s z y)
  followed_joins x y = (
    elim [
      | inl (inl w) ↦ (
          let a = w.0 in
          let b = w.2.0 in
          let e = w.2.2.1 in (
            a.to,
            inl (subst (λ (c : Pair). Contains r.pairs c) (λ i. record { from = (sym e i).from; to = a.to }) w.1),
            inl (subst (λ (c : Pair). Contains s.pairs c) (λ i. record { from = sym w.2.2.0 i; to = (sym e i).to }) w.2.1),
          )
          )
      | inl (inr (inl w)) ↦ (y, inl w.1, inr (w.0, refl))
      | inl (inr (inr w)) ↦ (x, inr (w.0, refl), inl w.1)
      | inr t ↦ (let k = both_true r.is_reflexive s.is_reflexive t.0 in (x, inr (k.0, refl), inr (k.1, t.1)))
    ],
    λ w. elim w.1 [
      | inl c ↦ elim w.2 [
        | inl d ↦ inl (inl (record { from = x; to = w.0 }, c, (record { from = w.0; to = y }, d, (refl, refl))))
        | inr t ↦ inl (inr (inl (t.0, subst (λ (v : Term). HasPair r.pairs x v) t.1 c)))
      ]
      | inr t ↦ elim w.2 [
        | inl d ↦ inl (inr (inr (t.0, subst (λ (v : Term). HasPair s.pairs v y) (sym t.1) d)))
        | inr u ↦ inr (true_both r.is_reflexive s.is_reflexive t.0 u.0, λ i. (t.1 ∙ u.1) i)
      ]
    ],
  )

  pub either_joins : (x y : Term) → ((HasPair r.pairs x y ⊎ HasPair s.pairs x y) ⊎ (IsTrue (r.is_reflexive || s.is_reflexive) × (x ≡ y))) ↔ (Joins r x y ⊎ Joins s x y)
  either_joins x y = (
    elim [
      | inl (inl c) ↦ inl (inl c)
      | inl (inr c) ↦ inr (inl c)
      | inr t ↦ elim (one_true r.is_reflexive s.is_reflexive t.0) [ inl a ↦ inl (inr (a, t.1)) | inr b ↦ inr (inr (b, t.1)) ]
    ],
    elim [
      | inl (inl c) ↦ inl (inl c)
      | inl (inr t) ↦ inr (true_first r.is_reflexive s.is_reflexive t.0, t.1)
      | inr (inl c) ↦ inl (inr c)
      | inr (inr t) ↦ inr (true_second r.is_reflexive s.is_reflexive t.0, t.1)
    ],
  )

pub or_none_joins : (r : Relation) (x y : Term) → (HasPair r.pairs x y ⊎ (IsTrue true × (x ≡ y))) ↔ ((x ≡ y) ⊎ Joins r x y)
or_none_joins r x y = (elim [ inl c ↦ inr (inl c) | inr t ↦ inl t.1 ], elim [ inl e ↦ inr (refl, e) | inr (inl c) ↦ inl c | inr (inr t) ↦ inr (refl, t.1) ])

-- pairs where a flag is set
pub pairs_if : (pairs copy : List Pair) (flag : Bool) → flag ≡ true → Finds (Contains pairs) copy → Finds (λ c. IsTrue flag × Contains pairs c) copy
pairs_if pairs copy flag t h = finds_same (Contains pairs) (λ c. IsTrue flag × Contains pairs c) copy (λ c. (λ d. (t, d), λ d. d.1)) h

-- what is gathered in three parts, and in two
pub follows_of : (r s : Relation) (before after through alone others second found : List Pair) → before ≡ r.pairs → after ≡ s.pairs → Finds (Through before after) through → Finds (λ c. IsTrue s.is_reflexive × Contains before c) alone
    → Finds (λ c. IsTrue r.is_reflexive × Contains after c) others → second ≡ through ++ alone → found ≡ second ++ others → Finds (Follows r s) found
follows_of r s before after through alone others second found eb ea h k l e_second e_found =
    let a = subst (λ (xs : List Pair). Finds (Through xs s.pairs) through) eb (subst (λ (xs : List Pair). Finds (Through before xs) through) ea h) in
    let b = subst (λ (xs : List Pair). Finds (λ c. IsTrue s.is_reflexive × Contains xs c) alone) eb k in
    let c = subst (λ (xs : List Pair). Finds (λ c. IsTrue r.is_reflexive × Contains xs c) others) ea l in
    let both = finds_both (λ p. Through r.pairs s.pairs p ⊎ (IsTrue s.is_reflexive × Contains r.pairs p)) (λ p. IsTrue r.is_reflexive × Contains s.pairs p) second others
    (finds_at (λ p. Through r.pairs s.pairs p ⊎ (IsTrue s.is_reflexive × Contains r.pairs p)) (through ++ alone) second e_second (finds_both (Through r.pairs s.pairs) (λ p. IsTrue s.is_reflexive × Contains r.pairs p) through alone a b)) c in
    finds_at (Follows r s) (second ++ others) found e_found
    (finds_same (λ p. (Through r.pairs s.pairs p ⊎ (IsTrue s.is_reflexive × Contains r.pairs p)) ⊎ (IsTrue r.is_reflexive × Contains s.pairs p)) (Follows r s) (second ++ others) (λ p. (
      elim [ inl (inl u) ↦ inl u | inl (inr u) ↦ inr (inl u) | inr u ↦ inr (inr u) ],
      elim [ inl u ↦ inl (inl u) | inr (inl u) ↦ inl (inr u) | inr (inr u) ↦ inr u ],
    )) both)

-- relations in turn, and any of them, one more
in_turn_push : (rs : List Relation) (r : Relation) (x y : Term) → JoinsInTurn (rs ++ r ∷ []) x y ↔ ((z : Term) × JoinsInTurn rs x z × Joins r z y)
in_turn_push [] r x y = (
  λ w. (x, refl, subst (λ (v : Term). Joins r x v) w.2 w.1),
  λ w. (y, subst (λ (v : Term). Joins r v y) (sym w.1) w.2, refl),
)
in_turn_push (q ∷ rs) r x y = (
  λ w. let k = (in_turn_push rs r w.0 y).0 w.2 in (k.0, (w.0, w.1, k.1), k.2),
  λ w. (w.1.0, w.1.1, (in_turn_push rs r w.1.0 y).1 (w.0, w.1.2, w.2)),
)

pub in_turn_more : (rs : List Relation) (r found new : Relation) → Means (JoinsInTurn rs) found → Means (λ x y. (z : Term) × Joins found x z × Joins r z y) new → Means (JoinsInTurn (rs ++ r ∷ [])) new
in_turn_more rs r found new h k = means_same (λ x y. (z : Term) × Joins found x z × Joins r z y) (JoinsInTurn (rs ++ r ∷ [])) new (λ x y. (
  λ w. (in_turn_push rs r x y).1 (w.0, (h.joins x w.0).0 w.1, w.2),
  λ w. let p = (in_turn_push rs r x y).0 w in (p.0, (h.joins x p.0).1 p.1, p.2),
)) k

pub somehow_more : (rs : List Relation) (r found new : Relation) → Means (JoinsSomehow rs) found → Means (λ x y. Joins found x y ⊎ Joins r x y) new → Means (JoinsSomehow (rs ++ r ∷ [])) new
somehow_more rs r found new h k = means_same (λ x y. Joins found x y ⊎ Joins r x y) (JoinsSomehow (rs ++ r ∷ [])) new (λ x y. (
  elim [
    | inl j ↦ (let w = (h.joins x y).0 j in (w.0, Contains-append_left rs (r ∷ []) w.0 w.1, w.2))
    | inr j ↦ (r, Contains-append_right rs (r ∷ []) r (0, omega arith, refl), j)
  ],
  λ w. elim (Contains-push_cases rs r w.0 w.1) [
    | inl c ↦ inl ((h.joins x y).1 (w.0, c, w.2))
    | inr e ↦ inr (subst (λ (q : Relation). Joins q x y) (sym e) w.2)
  ],
)) k

empty_pair : (c : Pair) → Contains [] c → ⊥
empty_pair c d = absurd (omega (arith, d.1))

pub none_in_turn : (found : Relation) → found.pairs ≡ [] → found.is_reflexive ≡ true → Means (JoinsInTurn []) found
none_in_turn found e f = record {
  joins = λ x y. (
    elim [ inl c ↦ absurd (empty_pair (record { from = x; to = y }) (subst (λ (ps : List Pair). Contains ps (record { from = x; to = y })) e c)) | inr t ↦ t.1 ],
    λ k. inr (f, k),
  );
}

pub none_somehow : (found : Relation) → found.pairs ≡ [] → found.is_reflexive ≡ false → Means (JoinsSomehow []) found
none_somehow found e f = record {
  joins = λ x y. (
    elim [ inl c ↦ absurd (empty_pair (record { from = x; to = y }) (subst (λ (ps : List Pair). Contains ps (record { from = x; to = y })) e c)) | inr t ↦ absurd (never (sym f ∙ t.0)) ],
    λ w. absurd (omega (arith, w.1)),
  );
}

-- the ends of a relation
module _ (r : Relation) (x : Term) (ends : List Term) (h : Finds (WithSome r.pairs (EndOf x)) ends) where
  by_pairs : (y : Term) → Contains ends y ↔ HasPair r.pairs x y
  by_pairs y = (
    λ c. let w = (h.members y).0 c in subst (λ (a : Pair). Contains r.pairs a) (λ i. record { from = w.2.0 i; to = sym w.2.1 i }) w.1,
    λ c. (h.members y).1 (record { from = x; to = y }, c, (refl, refl)),
  )

  pub ends_without : r.is_reflexive ≡ false → Finds (Joins r x) ends
  ends_without f = record { members = λ y. (λ c. inl ((by_pairs y).0 c), elim [ inl c ↦ (by_pairs y).1 c | inr t ↦ absurd (never (sym f ∙ t.0)) ]) }

  pub ends_with : r.is_reflexive ≡ true → (new : List Term) → new ≡ ends ++ x ∷ [] → Finds (Joins r x) new
  ends_with f new e = finds_at (Joins r x) (ends ++ x ∷ []) new e (record {
    members = λ y. (
      λ c. elim (Contains-push_cases ends x y c) [ inl d ↦ inl ((by_pairs y).0 d) | inr k ↦ inr (f, k) ],
      elim [ inl c ↦ Contains-append_left ends (x ∷ []) y ((by_pairs y).1 c) | inr t ↦ Contains-append_right ends (x ∷ []) y (0, omega arith, t.1) ],
    );
  })

-- the lists that calls are handed
pub reversed_slice : (pairs slice found : List Pair) → slice ≡ pairs → Finds (WithSome slice Reversed) found → Finds (WithSome pairs Reversed) found
reversed_slice pairs slice found e h = subst (λ (xs : List Pair). Finds (WithSome xs Reversed) found) e h

pub chained_slice : (pairs slice found : List Pair) → slice ≡ pairs → Finds (WithSome slice (Reaching slice)) found → Finds (WithSome pairs (Reaching pairs)) found
chained_slice pairs slice found e h = subst (λ (xs : List Pair). Finds (WithSome xs (Reaching xs)) found) e h

pub same_pairs : (pairs : List Pair) → Finds (Contains pairs) pairs
same_pairs pairs = record { members = λ p. (λ c. c, λ c. c) }

pub either_pairs : (a b slice_a slice_b once_a once_b front back new : List Pair) → slice_a ≡ a → slice_b ≡ b → Finds (Contains slice_a) once_a → Finds (Contains slice_b) once_b → front ≡ once_a → back ≡ once_b → new ≡ front ++ back → Finds (λ p. Contains a p ⊎ Contains b p) new
either_pairs a b slice_a slice_b once_a once_b front back new ea eb h k ef ek e =
    let first = finds_at (Contains a) once_a front ef (subst (λ (xs : List Pair). Finds (Contains xs) once_a) ea h) in
    let second = finds_at (Contains b) once_b back ek (subst (λ (xs : List Pair). Finds (Contains xs) once_b) eb k) in
    finds_at (λ p. Contains a p ⊎ Contains b p) (front ++ back) new e (finds_both (Contains a) (Contains b) front back first second)

pub taken_more : {X : Type 0} → (xs : List X) (i : ℕ) (x : X) → i < length xs → x ≡ get_or xs i x → take i xs ++ x ∷ [] ≡ take (i + 1) xs
taken_more xs i x lt is = sym (take_more xs i x lt ∙ ap (λ w. take i xs ++ w ∷ []) (sym is))

pub taken_whole : {X : Type 0} → (xs : List X) (i : ℕ) → length xs ≤ i → take i xs ≡ xs
taken_whole xs i le = take_all i xs le
