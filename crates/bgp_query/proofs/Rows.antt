-- What is collected under a trail.
use Rattle.std.proofs.Common.{◌≡◌, ◌∙◌, ◌<◌, ◌≤◌, ◌+◌, ◌==◌, ◌++◌, ℕ, Bool, List, [], ◌∷◌, true, false, refl, sym, subst, ap, arith, drop, get_or, inl, inr, length, take}
use Rattle.std.proofs.lemmas.Bool.Decides.{nat_tests}
use Rattle.std.specs.Prelude.{◌⊎◌, ◌↔◌, ◌&&◌, Option, Some}
use Rattle.std.specs.List.{Contains, slice_get}
use Rattle.std.proofs.Math.ListN.{get_or-append}
use Rattle.std.proofs.Math.Seq.{get_or-append_seam}
use borrow.Author.Count.{below_more}
use Rattle.std.proofs.lemmas.List.{append-nil, append_assoc, same_lists, take-append-drop, take_all}
use Rattle.std.proofs.lemmas.List.Elements.{All-contains, Contains-append_cases, Contains-append_left, Contains-append_right, Contains-get_or}
use Rattle.std.proofs.lemmas.Option.{get_or_from_slice_get, slice_get-get_or}
use Rattle.collections.proofs.Members.{has_cases, has_equal, has_head, has_tail}
use Rattle.rdf_model.specs.declared.ids.Ids.{Ids}
use Rattle.triple_index.specs.Patterns.{AreApart, IsMatch, ListsOnce, fits_number, matches_ids}
use Rattle.bgp_query.specs.declared.pattern.JoinPattern.{JoinPattern}
use Rattle.bgp_query.specs.declared.pattern.Part.{Part}
use Rattle.bgp_query.specs.declared.pattern.Part.TheVariants.{Variable, Constant}
use Rattle.bgp_query.specs.declared.trail.BoundVariable.{BoundVariable}
use Rattle.bgp_query.specs.Bindings.{HasVariable, IsIn, Occurs, StandsFor, StandsIn}
use Rattle.bgp_query.specs.Trails.{Added, Covers, GaveTriple, GivesTriple, HasNumber, IsFree, IsFull, IsKnown, IsMet, IsRow, IsTrail, IsUnder, MayStand, Overflows, PatternsBelow, Under, bound}
use Rattle.bgp_query.proofs.Once.{apart_append, apart_before, once_as, upto_cases, upto_new, upto_old}
use Rattle.bgp_query.proofs.Trailing.{fitted, keeps_number}

contains_upto : {X : Type 0} (xs : List X) (n : ℕ) (x : X) → Contains (take n xs) x → Contains xs x
contains_upto xs n x c = subst (λ (ys : List _). Contains ys x) (take-append-drop n xs) (Contains-append_left (take n xs) (drop n xs) x c)

-- nothing stands in no pattern
no_pattern : (v : ℕ) → Occurs {T = ℕ} [] v → ⊥
no_pattern v o = let c = o.1 in absurd (omega arith)

-- each variable has its number, where no pattern is left
pub numbered : (n : ℕ) (trail : List BoundVariable) → Covers n trail [] → (v : ℕ) → v < n → HasNumber trail v
numbered n trail c v l = elim (c v l) [ inl h ↦ h | inr o ↦ absurd (no_pattern v o) ]

pub not_free : (n : ℕ) (trail : List BoundVariable) (v : ℕ) → Covers n trail [] → v < n → IsFree trail v → ⊥
not_free n trail v c l f = let h = numbered n trail c v l in All-contains (λ (b : BoundVariable). b.variable ≡ v → ⊥) trail (bound v h.0) f h.1 refl

-- one number more
pub row_more : (trail : List BoundVariable) (numbers new : List ℕ) (v number : ℕ) → new ≡ numbers ++ number ∷ [] → length numbers ≡ v → ((w : ℕ) → w < v → Contains trail (bound w (get_or numbers w 0))) → Contains trail (bound v number) → (w : ℕ) → w < v + 1 → Contains trail (bound w (get_or new w 0))
row_more trail numbers new v number e many right last = subst (λ (xs : List ℕ). (w : ℕ) → w < v + 1 → Contains trail (bound w (get_or xs w 0))) (sym e) (below_more (λ w. Contains trail (bound w (get_or (numbers ++ number ∷ []) w 0))) v
    (λ w l. subst (λ (x : ℕ). Contains trail (bound w x)) (sym (get_or-append numbers (number ∷ []) 0 w (omega (arith, l, many)))) (right w l))
    (subst (λ (u : ℕ). Contains trail (bound v (get_or (numbers ++ number ∷ []) u 0))) many (subst (λ (x : ℕ). Contains trail (bound v x)) (sym (get_or-append_seam numbers number [] 0)) last)))

-- the row of all numbers
pub row_full : (n : ℕ) (trail : List BoundVariable) (numbers : List ℕ) → IsTrail n trail → length numbers ≡ n → ((v : ℕ) → v < n → Contains trail (bound v (get_or numbers v 0))) → IsFull n trail numbers
row_full n trail numbers t e h = record {
  size = e;
  fits = λ k d l.
      let b : BoundVariable = get_or trail k d in
      let in' : Contains trail b = Contains-get_or trail k d l in
      let less : b.variable < n = t.below k d l in
      let same : get_or numbers b.variable 0 ≡ b.number = t.single b.variable (get_or numbers b.variable 0) b.number (h b.variable less) in' in
      slice_get-get_or numbers b.variable 0 (subst (λ (m : ℕ). b.variable < m) (sym e) less) ∙ ap Some same;
}

one_value : (xs ys : List ℕ) (v m : ℕ) (d : ℕ) → slice_get xs v ≡ Some m → slice_get ys v ≡ Some m → get_or xs v d ≡ get_or ys v d
one_value xs ys v m d e f = get_or_from_slice_get xs v m d e ∙ sym (get_or_from_slice_get ys v m d f)

full_same : (n : ℕ) (trail : List BoundVariable) → Covers n trail [] → (xs ys : List ℕ) → IsFull n trail xs → IsFull n trail ys → xs ≡ ys
full_same n trail c xs ys f g = same_lists xs ys (f.size ∙ sym g.size) (λ k d l.
    let h = numbered n trail c k (subst (λ (m : ℕ). k < m) f.size l) in
    one_value xs ys k h.0 d (fitted trail xs k h.0 f.fits h.1) (fitted trail ys k h.0 g.fits h.1))

pub row_listed : (n : ℕ) (trail : List BoundVariable) (row : List ℕ) → Covers n trail [] → IsFull n trail row → ListsOnce (IsFull n trail) (row ∷ [])
row_listed n trail row c f = record {
  apart = (λ k. absurd (omega arith), tt);
  members = λ x. (
    λ k. elim (has_cases row [] x k) [ inl e ↦ subst (λ (w : List ℕ). IsFull n trail w) e f | inr d ↦ absurd (omega arith) ],
    λ g. has_equal row [] x (full_same n trail c row x f g),
  );
}

-- what was added, as another says of it
pub added_as : {X : Type 0} (most : ℕ) (P Q : X → Type 0) (old new : List X) → ((x : X) → P x ↔ Q x) → Added most P old new → Added most Q old new
added_as most P Q old new e a = record { added = a.added; grown = a.grown; listed = once_as P Q a.added e a.listed; few = a.few }

pub overflows_as : {X : Type 0} (most : ℕ) (P Q : X → Type 0) (old new : List X) → ((x : X) → P x → Q x) → Overflows most P old new → Overflows most Q old new
overflows_as most P Q old new e o = record { added = o.added; grown = o.grown; apart = o.apart; members = λ x c. e x (o.members x c); more = o.more }

pub nothing_added : {X : Type 0} (most : ℕ) (P : X → Type 0) (old : List X) → ((x : X) → P x → ⊥) → length old ≤ most → Added most P old old
nothing_added most P old n l = record { added = []; grown = sym (append-nil old); listed = record { apart = tt; members = λ x. (λ c. absurd (omega arith), λ p. absurd (n x p)) }; few = l }

-- one after the other
module _ {X : Type 0} (most : ℕ) (P Q S : X → Type 0) (old mid new : List X) (either : (x : X) → S x ↔ (P x ⊎ Q x)) (apart : (x : X) → P x → Q x → ⊥) (first : Added most P old mid) where
  both_apart : (more : List X) → AreApart more → ((x : X) → Contains more x → Q x) → AreApart (first.added ++ more)
  both_apart more a m = apart_append first.added more first.listed.apart a (λ x c d. apart x ((first.listed.members x).0 c) (m x d))

  both_grown : (more : List X) → new ≡ mid ++ more → new ≡ old ++ (first.added ++ more)
  both_grown more e = e ∙ ap (λ (xs : List X). xs ++ more) first.grown ∙ append_assoc old first.added more

  pub added_then : Added most Q mid new → Added most S old new
  added_then second = record {
    added = first.added ++ second.added;
    grown = both_grown second.added second.grown;
    listed = record {
      apart = both_apart second.added second.listed.apart (λ x c. (second.listed.members x).0 c);
      members = λ x. (
        λ c. (either x).1 (elim (Contains-append_cases first.added second.added x c) [ inl d ↦ inl ((first.listed.members x).0 d) | inr d ↦ inr ((second.listed.members x).0 d) ]),
        λ s. elim ((either x).0 s) [ inl p ↦ Contains-append_left first.added second.added x ((first.listed.members x).1 p) | inr q ↦ Contains-append_right first.added second.added x ((second.listed.members x).1 q) ],
      );
    };
    few = second.few;
  }

  pub overflows_then : Overflows most Q mid new → Overflows most S old new
  overflows_then second = record {
    added = first.added ++ second.added;
    grown = both_grown second.added second.grown;
    apart = both_apart second.added second.apart second.members;
    members = λ x c. (either x).1 (elim (Contains-append_cases first.added second.added x c) [ inl d ↦ inl ((first.listed.members x).0 d) | inr d ↦ inr (second.members x d) ]);
    more = second.more;
  }

-- a pattern stands for one triple
one_part : (xs : List ℕ) (part : Part ℕ) (m n : ℕ) → StandsFor xs part m → StandsFor xs part n → m ≡ n
one_part xs (Variable v) m n e f = cc
one_part xs (Constant c) m n e f = sym e ∙ f

one_triple : (xs : List ℕ) (p : JoinPattern ℕ) (t u : Ids) → Under xs p t → Under xs p u → t ≡ u
one_triple xs p t u e f =
    let s : t.subject ≡ u.subject = one_part xs p.subject t.subject u.subject e.0 f.0 in
    let q : t.predicate ≡ u.predicate = one_part xs p.predicate t.predicate u.predicate e.1 f.1 in
    let o : t.object ≡ u.object = one_part xs p.object t.object u.object e.2 f.2 in
    λ i. record { subject = s i; predicate = q i; object = o i }

module _ (ids : List Ids) (n : ℕ) (trail : List BoundVariable) (p : JoinPattern ℕ) (rest : List (JoinPattern ℕ)) where
  -- the triples up to a place, and the next
  module _ (found : List Ids) (i : ℕ) (d : Ids) (apart : AreApart found) (l : i < length found) where
    met_either : (xs : List ℕ) → IsMet ids n trail p rest (take (i + 1) found) xs ↔ (IsMet ids n trail p rest (take i found) xs ⊎ IsUnder ids n trail p rest (get_or found i d) xs)
    met_either xs = (
      λ m. elim (upto_cases found i d m.0 l m.1) [ inl c ↦ inl (m.0, c, m.2) | inr e ↦ inr (subst (λ (t : Ids). IsUnder ids n trail p rest t xs) (sym e) m.2) ],
      elim [ inl m ↦ (m.0, upto_old found i d m.0 l m.1, m.2) | inr u ↦ (get_or found i d, upto_new found i d l, u) ],
    )

    met_apart : (xs : List ℕ) → IsMet ids n trail p rest (take i found) xs → IsUnder ids n trail p rest (get_or found i d) xs → ⊥
    met_apart xs m u = apart_before found i d apart l (subst (λ (t : Ids). Contains (take i found) t) (one_triple xs p m.0 (get_or found i d) m.2.under u.under) m.1)

    pub met_more : (most : ℕ) (old mid new : List (List ℕ)) → Added most (IsMet ids n trail p rest (take i found)) old mid → Added most (IsUnder ids n trail p rest (get_or found i d)) mid new → Added most (IsMet ids n trail p rest (take (i + 1) found)) old new
    met_more most old mid new a b = added_then most (IsMet ids n trail p rest (take i found)) (IsUnder ids n trail p rest (get_or found i d)) (IsMet ids n trail p rest (take (i + 1) found)) old mid new met_either met_apart a b

    met_some : (xs : List ℕ) → IsMet ids n trail p rest (take (i + 1) found) xs → IsMet ids n trail p rest found xs
    met_some xs m = (m.0, contains_upto found (i + 1) m.0 m.1, m.2)

    pub met_over : (most : ℕ) (old mid new : List (List ℕ)) → Added most (IsMet ids n trail p rest (take i found)) old mid → Overflows most (IsUnder ids n trail p rest (get_or found i d)) mid new → Overflows most (IsMet ids n trail p rest found) old new
    met_over most old mid new a b = overflows_as most (IsMet ids n trail p rest (take (i + 1) found)) (IsMet ids n trail p rest found) old new met_some
        (overflows_then most (IsMet ids n trail p rest (take i found)) (IsUnder ids n trail p rest (get_or found i d)) (IsMet ids n trail p rest (take (i + 1) found)) old mid new met_either met_apart a b)

  -- none of no triples
  pub met_none : (most : ℕ) (found : List Ids) (old : List (List ℕ)) → length old ≤ most → Added most (IsMet ids n trail p rest (take 0 found)) old old
  met_none most found old l = nothing_added most (IsMet ids n trail p rest (take 0 found)) old (λ xs m. let c = m.1 in absurd (omega arith)) l

  pub met_all : (most : ℕ) (found : List Ids) (i : ℕ) (old new : List (List ℕ)) → length found ≤ i → Added most (IsMet ids n trail p rest (take i found)) old new → Added most (IsMet ids n trail p rest found) old new
  met_all most found i old new l a = subst (λ (ts : List Ids). Added most (IsMet ids n trail p rest ts) old new) (take_all i found l) a

  -- what is met with the triples for which the pattern may stand is what stands with the pattern
  pub met_row : (found : List Ids) → MayStand ids trail p found → (xs : List ℕ) → IsMet ids n trail p rest found xs ↔ IsRow ids n trail (p ∷ rest) xs
  met_row found may xs = (
    λ m. let u = m.2 in record {
      full = u.row.full;
      stand = λ q c. elim (has_cases p rest q c) [
        | inl e ↦ subst (λ (w : JoinPattern ℕ). StandsIn (IsIn ids) xs w) e (m.0.subject, m.0.predicate, m.0.object, u.under.0, u.under.1, u.under.2, may.inside m.0 m.1)
        | inr d ↦ u.row.stand q d
      ];
    },
    λ r. let s = r.stand p (has_head p rest) in
        let t : Ids = record { subject = s.0; predicate = s.1; object = s.2 } in
        let under : Under xs p t = (s.3, s.4, s.5) in
        (t, may.all xs t r.full.fits under s.6, record { row = record { full = r.full; stand = λ q c. r.stand q (has_tail p rest q c) }; under = under }),
  )

  -- what is met under a trail that the triple was given to
  pub given_under : (new : List BoundVariable) (t : Ids) → GivesTriple trail new p t true → (xs : List ℕ) → IsRow ids n new rest xs ↔ IsUnder ids n trail p rest t xs
  given_under new t g xs = (
    λ r. let f = (g xs).0 r.full.fits in record { row = record { full = record { size = r.full.size; fits = f.0 }; stand = r.stand }; under = f.1 },
    λ u. record { full = record { size = u.row.full.size; fits = (g xs).1 (u.row.full.fits, u.under) }; stand = u.row.stand },
  )

  pub none_under : (new : List BoundVariable) (t : Ids) → GivesTriple trail new p t false → (xs : List ℕ) → IsUnder ids n trail p rest t xs → ⊥
  none_under new t g xs u = g xs u.row.full.fits u.under

-- rows of no patterns
pub full_row : (ids : List Ids) (n : ℕ) (trail : List BoundVariable) (xs : List ℕ) → IsFull n trail xs ↔ IsRow ids n trail [] xs
full_row ids n trail xs = (λ f. record { full = f; stand = λ p c. absurd (omega arith) }, λ r. r.full)

-- what the rest of the patterns needs
later : (p : JoinPattern ℕ) (rest : List (JoinPattern ℕ)) (v : ℕ) → Occurs rest v → Occurs (p ∷ rest) v
later p rest v o = (o.0, has_tail p rest o.0 o.1, o.2)

pub first_below : (n : ℕ) (p : JoinPattern ℕ) (rest : List (JoinPattern ℕ)) → PatternsBelow n (p ∷ rest) → (v : ℕ) → HasVariable p v → v < n
first_below n p rest b v h = b v (p, has_head p rest, h)

pub rest_below : (n : ℕ) (p : JoinPattern ℕ) (rest : List (JoinPattern ℕ)) → PatternsBelow n (p ∷ rest) → PatternsBelow n rest
rest_below n p rest b v o = b v (later p rest v o)

pub rest_covered : (n : ℕ) (old new : List BoundVariable) (p : JoinPattern ℕ) (rest : List (JoinPattern ℕ)) (t : Ids) → GaveTriple old new p t true → Covers n old (p ∷ rest) → Covers n new rest
rest_covered n old new p rest t g c v l = elim (c v l) [
  | inl h ↦ inl (keeps_number old new v g.grown h)
  | inr o ↦ elim (has_cases p rest o.0 o.1) [
    | inl e ↦ inl (g.numbers refl v (subst (λ (q : JoinPattern ℕ). HasVariable q v) (sym e) o.2))
    | inr d ↦ inr (o.0, d, o.2)
  ]
]

-- the triples that a pattern may stand for
three : (a b c : Bool) → a ≡ true → b ≡ true → c ≡ true → (a && b && c) ≡ true
three true true true e f g = refl
three true true false e f g = absurd (cc (g))
three true false c e f g = absurd (cc (f))
three false b c e f g = absurd (cc (e))

pub may_stand : (ids : List Ids) (trail : List BoundVariable) (p : JoinPattern ℕ) (s q o : Option ℕ) (found : List Ids) → IsKnown trail p.subject s → IsKnown trail p.predicate q → IsKnown trail p.object o → ListsOnce (IsMatch s q o ids) found → MayStand ids trail p found
may_stand ids trail p s q o found a b c l = record {
  apart = l.apart;
  inside = λ t i. ((l.members t).0 i).there;
  all = λ xs t f u i. (l.members t).1 (record { there = i; fits = three (fits_number s t.subject) (fits_number q t.predicate) (fits_number o t.object) (a xs t.subject f u.0) (b xs t.predicate f u.1) (c xs t.object f u.2) });
}

-- the triple of three numbers, if it is there
one_match : (t u : Ids) → matches_ids (Some t.subject) (Some t.predicate) (Some t.object) u ≡ true → t ≡ u
one_match t u e =
    let s : t.subject ≡ u.subject = grind (arith, nat_tests) in
    let q : t.predicate ≡ u.predicate = grind (arith, nat_tests) in
    let o : t.object ≡ u.object = grind (arith, nat_tests) in
    λ i. record { subject = s i; predicate = q i; object = o i }

equal_test : (n : ℕ) → (n == n) ≡ true
equal_test n = grind (arith, nat_tests)

own_match : (t : Ids) → matches_ids (Some t.subject) (Some t.predicate) (Some t.object) t ≡ true
own_match t = three (t.subject == t.subject) (t.predicate == t.predicate) (t.object == t.object) (equal_test t.subject) (equal_test t.predicate) (equal_test t.object)

pub one_there : (ids : List Ids) (t : Ids) → Contains ids t → ListsOnce (IsMatch (Some t.subject) (Some t.predicate) (Some t.object) ids) (t ∷ [])
one_there ids t c = record {
  apart = (λ k. absurd (omega arith), tt);
  members = λ u. (
    λ k. elim (has_cases t [] u k) [
      | inl e ↦ subst (λ (w : Ids). IsMatch (Some t.subject) (Some t.predicate) (Some t.object) ids w) e (record { there = c; fits = own_match t })
      | inr d ↦ absurd (omega arith)
    ],
    λ m. has_equal t [] u (one_match t u m.fits),
  );
}

pub none_there : (ids : List Ids) (t : Ids) → (Contains ids t → ⊥) → ListsOnce (IsMatch (Some t.subject) (Some t.predicate) (Some t.object) ids) []
none_there ids t n = record {
  apart = tt;
  members = λ u. (λ k. absurd (omega arith), λ m. absurd (n (subst (λ (w : Ids). Contains ids w) (sym (one_match t u m.fits)) m.there)));
}
