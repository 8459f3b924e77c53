-- A walker is made of the walkers of a path's parts.
use Rattle.std.proofs.Common.{◌≡◌, ◌∙◌, ℕ, ◌+◌, ◌<◌, ◌≤◌, List, [], ◌∷◌, ◌++◌, length, take, drop, Bool, true, false, Vec, Box, Global, refl, sym, subst, ap, arith, inl, inr}
use Rattle.std.specs.Prelude.{◌⊎◌, ◌↔◌, not}
use Rattle.std.proofs.lemmas.List.{take-append-drop}
use Rattle.rdf_model.specs.declared.ids.Ids.{Ids}
use Rattle.rdf_model.specs.declared.look.Look.{Look}
use Rattle.path_ast.specs.declared.path.Path.{Path, Predicate, Inverse, Sequence, Alternative, ZeroOrMore, OneOrMore, ZeroOrOne}
use Rattle.path_ast.proofs.Sizes.{list_size, path_size}
use Rattle.path_eval.specs.declared.walker.Walker.{Walker, Here, Edges}
use Rattle.path_eval.specs.Relations.{NumberChain, Repeated}
use Rattle.path_eval.specs.NumberedWalks.{Backward, Onward, Reaches, ReachesSome}
use Rattle.path_eval.specs.NumberedLooks.{AtRepeated, Reads, ReadsBackward, ReadsOnward, ReadsSome}
use Rattle.path_eval.specs.Walkers.{Again, Goes, IsAnyNumber, IsClosed, IsEither, IsMade, IsMore, IsNew, IsThen, OneOrOther, OneThenOther, Plan, Sees, Stay, plan_of}
use Rattle.path_eval.proofs.Closure.{no_start}
use Rattle.path_eval.proofs.Rows.{alternative_reads, alternative_reaches, sequence_reads, sequence_reaches, reversed_reads, reversed_reaches}

chain_same : (R S : ℕ → ℕ → Type 0) → ((x y : ℕ) → R x y → S x y) → (zs : List ℕ) (x y : ℕ) → NumberChain R x zs y → NumberChain S x zs y
chain_same R S e [] x y c = c
chain_same R S e (z ∷ zs) x y c = (e x z c.0, chain_same R S e zs z y c.1)

repeated_same : (R S : ℕ → ℕ → Type 0) → ((x y : ℕ) → R x y → S x y) → (x y : ℕ) → Repeated R x y → Repeated S x y
repeated_same R S e x y c = (c.0, chain_same R S e c.0 x y c.1)

pub here_is_new : IsNew Here
here_is_new ids looks x c = c

pub any_number : (once more walker : Walker) → IsMore once more → IsEither Here more walker → IsAnyNumber once walker
any_number once more walker h k = record { plan = k.plan ∙ ap (OneOrOther Stay) h.plan; fresh = λ n. k.fresh here_is_new (h.fresh n) }

-- the same by other words
pub made_as : (walker : Walker) (R S : List Ids → ℕ → ℕ → Type 0) (L M : List Ids → ℕ → Look ℕ → Type 0) → ((ids : List Ids) → R ids ≡ S ids) → ((ids : List Ids) → L ids ≡ M ids) → IsMade walker R L → IsMade walker S M
made_as walker R S L M e d h = record {
  fresh = h.fresh;
  reaches = λ ids x y. subst (λ (T : ℕ → ℕ → Type 0). Goes ids (plan_of walker) x y ↔ T x y) (e ids) (h.reaches ids x y);
  reads = λ ids x look. subst (λ (T : ℕ → Look ℕ → Type 0). Sees ids (plan_of walker) x look ↔ T x look) (d ids) (h.reads ids x look);
}

-- by what its plan is
planned : (walker : Walker) (plan : Plan) (R : List Ids → ℕ → ℕ → Type 0) (L : List Ids → ℕ → Look ℕ → Type 0) → IsNew walker → plan_of walker ≡ plan → ((ids : List Ids) (x y : ℕ) → Goes ids plan x y ↔ R ids x y)
    → ((ids : List Ids) (x : ℕ) (look : Look ℕ) → Sees ids plan x look ↔ L ids x look) → IsMade walker R L
planned walker plan R L n e h k = record {
  fresh = n;
  reaches = λ ids x y. subst (λ (p : Plan). Goes ids p x y ↔ R ids x y) (sym e) (h ids x y);
  reads = λ ids x look. subst (λ (p : Plan). Sees ids p x look ↔ L ids x look) (sym e) (k ids x look);
}

module _ (a b walker : Walker) (R S : List Ids → ℕ → ℕ → Type 0) (L M : List Ids → ℕ → Look ℕ → Type 0) (h : IsMade a R L) (k : IsMade b S M) where
  pub made_then : IsThen a b walker → IsMade walker (λ ids x y. (z : ℕ) × R ids x z × S ids z y) (λ ids x look. L ids x look ⊎ ((z : ℕ) × R ids x z × M ids z look))
  made_then j = planned walker (OneThenOther (plan_of a) (plan_of b)) (λ ids x y. (z : ℕ) × R ids x z × S ids z y) (λ ids x look. L ids x look ⊎ ((z : ℕ) × R ids x z × M ids z look)) (j.fresh h.fresh k.fresh) j.plan
      (λ ids x y. (λ r. (r.0, (h.reaches ids x r.0).0 r.1, (k.reaches ids r.0 y).0 r.2), λ r. (r.0, (h.reaches ids x r.0).1 r.1, (k.reaches ids r.0 y).1 r.2)))
      (λ ids x look. (
        elim [ inl s ↦ inl ((h.reads ids x look).0 s) | inr s ↦ inr (s.0, (h.reaches ids x s.0).0 s.1, (k.reads ids s.0 look).0 s.2) ],
        elim [ inl s ↦ inl ((h.reads ids x look).1 s) | inr s ↦ inr (s.0, (h.reaches ids x s.0).1 s.1, (k.reads ids s.0 look).1 s.2) ],
      ))

  pub made_either : IsEither a b walker → IsMade walker (λ ids x y. R ids x y ⊎ S ids x y) (λ ids x look. L ids x look ⊎ M ids x look)
  made_either j = planned walker (OneOrOther (plan_of a) (plan_of b)) (λ ids x y. R ids x y ⊎ S ids x y) (λ ids x look. L ids x look ⊎ M ids x look) (j.fresh h.fresh k.fresh) j.plan
      (λ ids x y. (
        elim [ inl r ↦ inl ((h.reaches ids x y).0 r) | inr r ↦ inr ((k.reaches ids x y).0 r) ],
        elim [ inl r ↦ inl ((h.reaches ids x y).1 r) | inr r ↦ inr ((k.reaches ids x y).1 r) ],
      ))
      (λ ids x look. (
        elim [ inl r ↦ inl ((h.reads ids x look).0 r) | inr r ↦ inr ((k.reads ids x look).0 r) ],
        elim [ inl r ↦ inl ((h.reads ids x look).1 r) | inr r ↦ inr ((k.reads ids x look).1 r) ],
      ))

module _ (a walker : Walker) (R : List Ids → ℕ → ℕ → Type 0) (L : List Ids → ℕ → Look ℕ → Type 0) (h : IsMade a R L) where
  there : (ids : List Ids) (x y : ℕ) → Goes ids (plan_of a) x y → R ids x y
  there ids x y = (h.reaches ids x y).0

  from_there : (ids : List Ids) (x y : ℕ) → R ids x y → Goes ids (plan_of a) x y
  from_there ids x y = (h.reaches ids x y).1

  often : (ids : List Ids) (x y : ℕ) → Repeated (Goes ids (plan_of a)) x y ↔ Repeated (R ids) x y
  often ids x y = (repeated_same (Goes ids (plan_of a)) (R ids) (there ids) x y, repeated_same (R ids) (Goes ids (plan_of a)) (from_there ids) x y)

  again : (ids : List Ids) (x y : ℕ) → Goes ids (Again (plan_of a)) x y ↔ ((z : ℕ) × R ids x z × Repeated (R ids) z y)
  again ids x y = (λ r. (r.0, there ids x r.0 r.1, (often ids r.0 y).0 r.2), λ r. (r.0, from_there ids x r.0 r.1, (often ids r.0 y).1 r.2))

  sees_again : (ids : List Ids) (x : ℕ) (look : Look ℕ) → Sees ids (Again (plan_of a)) x look ↔ AtRepeated (R ids) (L ids) x look
  sees_again ids x look = (λ s. (s.0, (often ids x s.0).0 s.1, (h.reads ids s.0 look).0 s.2), λ s. (s.0, (often ids x s.0).1 s.1, (h.reads ids s.0 look).1 s.2))

  pub made_more : IsMore a walker → IsMade walker (λ ids x y. (z : ℕ) × R ids x z × Repeated (R ids) z y) (λ ids. AtRepeated (R ids) (L ids))
  made_more j = planned walker (Again (plan_of a)) (λ ids x y. (z : ℕ) × R ids x z × Repeated (R ids) z y) (λ ids. AtRepeated (R ids) (L ids)) (j.fresh h.fresh) j.plan again sees_again

  -- none, or once and more often
  none_or_more : (ids : List Ids) (x y : ℕ) → ((x ≡ y) ⊎ ((z : ℕ) × R ids x z × Repeated (R ids) z y)) ↔ Repeated (R ids) x y
  none_or_more ids x y = (elim [ inl e ↦ ([], e) | inr r ↦ (r.0 ∷ r.2.0, (r.1, r.2.1)) ], λ r. first r.0 r.1)
    where
      first : (zs : List ℕ) → NumberChain (R ids) x zs y → (x ≡ y) ⊎ ((z : ℕ) × R ids x z × Repeated (R ids) z y)
      first [] c = inl c
      first (z ∷ zs) c = inr (z, c.0, (zs, c.1))

  pub made_any_number : IsAnyNumber a walker → IsMade walker (λ ids. Repeated (R ids)) (λ ids. AtRepeated (R ids) (L ids))
  made_any_number j = planned walker (OneOrOther Stay (Again (plan_of a))) (λ ids. Repeated (R ids)) (λ ids. AtRepeated (R ids) (L ids)) (j.fresh h.fresh) j.plan
      (λ ids x y. (
        λ r. (none_or_more ids x y).0 (elim r [ inl e ↦ inl e | inr m ↦ inr ((again ids x y).0 m) ]),
        λ r. elim ((none_or_more ids x y).1 r) [ inl e ↦ inl e | inr m ↦ inr ((again ids x y).1 m) ],
      ))
      (λ ids x look. (elim [ inl n ↦ absurd n | inr s ↦ (sees_again ids x look).0 s ], λ s. inr ((sees_again ids x look).1 s)))

  pub made_optional : IsEither Here a walker → IsMade walker (λ ids x y. (x ≡ y) ⊎ R ids x y) L
  made_optional j = planned walker (OneOrOther Stay (plan_of a)) (λ ids x y. (x ≡ y) ⊎ R ids x y) L (j.fresh here_is_new h.fresh) j.plan
      (λ ids x y. (elim [ inl e ↦ inl e | inr r ↦ inr (there ids x y r) ], elim [ inl e ↦ inl e | inr r ↦ inr (from_there ids x y r) ]))
      (λ ids x look. (elim [ inl n ↦ absurd n | inr s ↦ (h.reads ids x look).0 s ], λ s. inr ((h.reads ids x look).1 s)))

-- the walker of a path, by its kind
module _ (path : Path ℕ) (reversed : Bool) where
  abbrev pub IsMadeFor : Walker → Type 0
  IsMadeFor walker = IsMade walker (λ ids. Reaches ids reversed path) (λ ids. Reads ids reversed path)

  made_for : (walker : Walker) (q : Path ℕ) → path ≡ q → IsMade walker (λ ids. Reaches ids reversed q) (λ ids. Reads ids reversed q) → IsMadeFor walker
  made_for walker q e h = subst (λ (p : Path ℕ). IsMade walker (λ ids. Reaches ids reversed p) (λ ids. Reads ids reversed p)) (sym e) h

  pub predicate_made : (p : ℕ) (seen : List ℕ) → path ≡ Predicate p → seen ≡ [] → IsMadeFor (Edges p reversed seen)
  predicate_made p seen e none = made_for (Edges p reversed seen) (Predicate p) e (record {
    fresh = λ ids looks. subst (λ (l : List ℕ). IsClosed ids (Edges p reversed l) [] [] looks) (sym none) (λ x c. c, λ x c. absurd (no_start x c));
    reaches = λ ids x y. (λ r. r, λ r. r);
    reads = λ ids x look. (λ s. s, λ s. s);
  })

  module _ (inner : Box (Path ℕ) Global) (f : Path ℕ) (is : f ≡ inner.value) (once walker : Walker) where
    pub inverse_made : path ≡ Inverse inner → IsMade once (λ ids. Reaches ids (not reversed) f) (λ ids. Reads ids (not reversed) f) → IsMadeFor once
    inverse_made e h = made_for once (Inverse inner) e (subst (λ (q : Path ℕ). IsMade once (λ ids. Reaches ids (not reversed) q) (λ ids. Reads ids (not reversed) q)) is h)

    inside : IsMade once (λ ids. Reaches ids reversed f) (λ ids. Reads ids reversed f) → IsMade once (λ ids. Reaches ids reversed inner.value) (λ ids. Reads ids reversed inner.value)
    inside h = subst (λ (q : Path ℕ). IsMade once (λ ids. Reaches ids reversed q) (λ ids. Reads ids reversed q)) is h

    pub many_made : path ≡ ZeroOrMore inner → IsMade once (λ ids. Reaches ids reversed f) (λ ids. Reads ids reversed f) → IsAnyNumber once walker → IsMadeFor walker
    many_made e h j = made_for walker (ZeroOrMore inner) e (made_any_number once walker (λ ids. Reaches ids reversed inner.value) (λ ids. Reads ids reversed inner.value) (inside h) j)

    pub more_made : path ≡ OneOrMore inner → IsMade once (λ ids. Reaches ids reversed f) (λ ids. Reads ids reversed f) → IsMore once walker → IsMadeFor walker
    more_made e h j = made_for walker (OneOrMore inner) e (made_more once walker (λ ids. Reaches ids reversed inner.value) (λ ids. Reads ids reversed inner.value) (inside h) j)

    pub optional_made : path ≡ ZeroOrOne inner → IsMade once (λ ids. Reaches ids reversed f) (λ ids. Reads ids reversed f) → IsEither Here once walker → IsMadeFor walker
    optional_made e h j = made_for walker (ZeroOrOne inner) e (made_optional once walker (λ ids. Reaches ids reversed inner.value) (λ ids. Reads ids reversed inner.value) (inside h) j)

  module _ (first : Box (Path ℕ) Global) (others : Vec (Path ℕ) Global) (f : Path ℕ) (ps : List (Path ℕ)) (is_first : f ≡ first.value) (are_others : ps ≡ others.items) (one rest walker : Walker) where
    pub sequence_made : path ≡ Sequence first others → reversed ≡ false → IsMade one (λ ids. Reaches ids reversed f) (λ ids. Reads ids reversed f) → IsMade rest (λ ids. Onward ids ps) (λ ids. ReadsOnward ids ps) → IsThen one rest walker → IsMadeFor walker
    sequence_made e t h k j =
        let once = subst (λ (b : Bool). IsMade one (λ ids. Reaches ids b f) (λ ids. Reads ids b f)) t h in
        made_as walker (λ ids x y. (z : ℕ) × Reaches ids false f x z × Onward ids ps z y) (λ ids. Reaches ids reversed path)
        (λ ids x look. Reads ids false f x look ⊎ ((z : ℕ) × Reaches ids false f x z × ReadsOnward ids ps z look)) (λ ids. Reads ids reversed path)
        (λ ids. (λ i x y. (z : ℕ) × Reaches ids false (is_first i) x z × Onward ids (are_others i) z y) ∙ sym (sequence_reaches ids first others) ∙ (λ i. Reaches ids (sym t i) (sym e i)))
        (λ ids. (λ i x look. Reads ids false (is_first i) x look ⊎ ((z : ℕ) × Reaches ids false (is_first i) x z × ReadsOnward ids (are_others i) z look)) ∙ sym (sequence_reads ids first others) ∙ (λ i. Reads ids (sym t i) (sym e i)))
        (made_then one rest walker (λ ids. Reaches ids false f) (λ ids. Onward ids ps) (λ ids. Reads ids false f) (λ ids. ReadsOnward ids ps) once k j)

    pub reversed_made : path ≡ Sequence first others → reversed ≡ true → IsMade one (λ ids. Reaches ids reversed f) (λ ids. Reads ids reversed f) → IsMade rest (λ ids. Backward ids ps) (λ ids. ReadsBackward ids ps) → IsThen rest one walker → IsMadeFor walker
    reversed_made e t h k j =
        let once = subst (λ (b : Bool). IsMade one (λ ids. Reaches ids b f) (λ ids. Reads ids b f)) t h in
        made_as walker (λ ids x y. (z : ℕ) × Backward ids ps x z × Reaches ids true f z y) (λ ids. Reaches ids reversed path)
        (λ ids x look. ReadsBackward ids ps x look ⊎ ((z : ℕ) × Backward ids ps x z × Reads ids true f z look)) (λ ids. Reads ids reversed path)
        (λ ids. (λ i x y. (z : ℕ) × Backward ids (are_others i) x z × Reaches ids true (is_first i) z y) ∙ sym (reversed_reaches ids first others) ∙ (λ i. Reaches ids (sym t i) (sym e i)))
        (λ ids. (λ i x look. ReadsBackward ids (are_others i) x look ⊎ ((z : ℕ) × Backward ids (are_others i) x z × Reads ids true (is_first i) z look)) ∙ sym (reversed_reads ids first others) ∙ (λ i. Reads ids (sym t i) (sym e i)))
        (made_then rest one walker (λ ids. Backward ids ps) (λ ids. Reaches ids true f) (λ ids. ReadsBackward ids ps) (λ ids. Reads ids true f) k once j)

    pub alternative_made : path ≡ Alternative first others → IsMade one (λ ids. Reaches ids reversed f) (λ ids. Reads ids reversed f) → IsMade rest (λ ids. ReachesSome ids reversed ps) (λ ids. ReadsSome ids reversed ps) → IsEither one rest walker → IsMadeFor walker
    alternative_made e h k j =
        made_as walker (λ ids x y. Reaches ids reversed f x y ⊎ ReachesSome ids reversed ps x y) (λ ids. Reaches ids reversed path)
        (λ ids x look. Reads ids reversed f x look ⊎ ReadsSome ids reversed ps x look) (λ ids. Reads ids reversed path)
        (λ ids. (λ i x y. Reaches ids reversed (is_first i) x y ⊎ ReachesSome ids reversed (are_others i) x y) ∙ sym (alternative_reaches ids first others reversed) ∙ (λ i. Reaches ids reversed (sym e i)))
        (λ ids. (λ i x look. Reads ids reversed (is_first i) x look ⊎ ReadsSome ids reversed (are_others i) x look) ∙ sym (alternative_reads ids first others reversed) ∙ (λ i. Reads ids reversed (sym e i)))
        (made_either one rest walker (λ ids. Reaches ids reversed f) (λ ids. ReachesSome ids reversed ps) (λ ids. Reads ids reversed f) (λ ids. ReadsSome ids reversed ps) h k j)

-- how many parts a list of paths has, by two parts of it; a part has fewer
size_append : (ps qs : List (Path ℕ)) → list_size (ps ++ qs) ≡ list_size ps + list_size qs
size_append [] qs = omega arith
size_append (p ∷ ps) qs = omega (arith, size_append ps qs)

size_some : (ps : List (Path ℕ)) → length ps ≤ list_size ps
size_some [] = omega arith
size_some (p ∷ ps) = omega (arith, size_some ps)

pub halves : (paths before after : List (Path ℕ)) (m : ℕ) → before ≡ take m paths → after ≡ drop m paths → before ++ after ≡ paths
halves paths before after m e d = subst (λ (l : List (Path ℕ)). l ++ after ≡ paths) (sym e) (subst (λ (l : List (Path ℕ)). take m paths ++ l ≡ paths) (sym d) (take-append-drop m paths))

module _ (paths before after : List (Path ℕ)) (is : before ++ after ≡ paths) where
  both : list_size paths ≡ list_size before + list_size after
  both = ap list_size (sym is) ∙ size_append before after

  pub before_less : 0 < length after → list_size before < list_size paths
  before_less some = omega (arith, both, size_some after, some)

  pub after_less : 0 < length before → list_size after < list_size paths
  after_less some = omega (arith, both, size_some before, some)

pub inner_less : (path : Path ℕ) (f : Path ℕ) (inner : Box (Path ℕ) Global) → f ≡ inner.value → path_size path ≡ path_size inner.value + 1 → path_size f < path_size path
inner_less path f inner is e = omega (arith, ap path_size is, e)

pub first_less : (path f : Path ℕ) (first : Box (Path ℕ) Global) (others : Vec (Path ℕ) Global) → f ≡ first.value → path_size path ≡ path_size first.value + list_size others.items + 1 → path_size f < path_size path
first_less path f first others is e = omega (arith, ap path_size is, e)

-- along a list of paths, by two parts of it
module _ (ids : List Ids) where
  onward_append : (ps qs : List (Path ℕ)) (x y : ℕ) → ((z : ℕ) × Onward ids ps x z × Onward ids qs z y) ↔ Onward ids (ps ++ qs) x y
  onward_append [] qs x y = (λ h. subst (λ (z : ℕ). Onward ids qs z y) (sym h.1) h.2, λ h. (x, refl, h))
  onward_append (p ∷ ps) qs x y = (
    λ h. (h.1.0, h.1.1, (onward_append ps qs h.1.0 y).0 (h.0, h.1.2, h.2)),
    λ h. let k = (onward_append ps qs h.0 y).1 h.2 in (k.0, (h.0, h.1, k.1), k.2),
  )

  reads_onward_append : (ps qs : List (Path ℕ)) (x : ℕ) (look : Look ℕ) → (ReadsOnward ids ps x look ⊎ ((z : ℕ) × Onward ids ps x z × ReadsOnward ids qs z look)) ↔ ReadsOnward ids (ps ++ qs) x look
  reads_onward_append [] qs x look = (elim [ inl n ↦ absurd n | inr h ↦ subst (λ (z : ℕ). ReadsOnward ids qs z look) (sym h.1) h.2 ], λ h. inr (x, refl, h))
  reads_onward_append (p ∷ ps) qs x look = (
    elim [
      | inl (inl s) ↦ inl s
      | inl (inr s) ↦ inr (s.0, s.1, (reads_onward_append ps qs s.0 look).0 (inl s.2))
      | inr h ↦ inr (h.1.0, h.1.1, (reads_onward_append ps qs h.1.0 look).0 (inr (h.0, h.1.2, h.2)))
    ],
    elim [
      | inl s ↦ inl (inl s)
      | inr h ↦ elim ((reads_onward_append ps qs h.0 look).1 h.2) [ inl s ↦ inl (inr (h.0, h.1, s)) | inr k ↦ inr (k.0, (h.0, h.1, k.1), k.2) ]
    ],
  )

  backward_append : (ps qs : List (Path ℕ)) (x y : ℕ) → ((z : ℕ) × Backward ids qs x z × Backward ids ps z y) ↔ Backward ids (ps ++ qs) x y
  backward_append [] qs x y = (λ h. subst (λ (z : ℕ). Backward ids qs x z) h.2 h.1, λ h. (y, h, refl))
  backward_append (p ∷ ps) qs x y = (
    λ h. (h.2.0, (backward_append ps qs x h.2.0).0 (h.0, h.1, h.2.1), h.2.2),
    λ h. let k = (backward_append ps qs x h.0).1 h.1 in (k.0, k.1, (h.0, k.2, h.2)),
  )

  reads_backward_append : (ps qs : List (Path ℕ)) (x : ℕ) (look : Look ℕ) → (ReadsBackward ids qs x look ⊎ ((z : ℕ) × Backward ids qs x z × ReadsBackward ids ps z look)) ↔ ReadsBackward ids (ps ++ qs) x look
  reads_backward_append [] qs x look = (elim [ inl s ↦ s | inr h ↦ absurd h.2 ], λ s. inl s)
  reads_backward_append (p ∷ ps) qs x look = (
    elim [
      | inl s ↦ inl ((reads_backward_append ps qs x look).0 (inl s))
      | inr k ↦ elim k.2 [
        | inl s ↦ inl ((reads_backward_append ps qs x look).0 (inr (k.0, k.1, s)))
        | inr s ↦ inr (s.0, (backward_append ps qs x s.0).0 (k.0, k.1, s.1), s.2)
      ]
    ],
    elim [
      | inl m ↦ elim ((reads_backward_append ps qs x look).1 m) [ inl s ↦ inl s | inr h ↦ inr (h.0, h.1, inl h.2) ]
      | inr h ↦ let k = (backward_append ps qs x h.0).1 h.1 in inr (k.0, k.1, inr (h.0, k.2, h.2))
    ],
  )

  some_append : (reversed : Bool) (ps qs : List (Path ℕ)) (x y : ℕ) → (ReachesSome ids reversed ps x y ⊎ ReachesSome ids reversed qs x y) ↔ ReachesSome ids reversed (ps ++ qs) x y
  some_append reversed [] qs x y = (elim [ inl n ↦ absurd n | inr h ↦ h ], λ h. inr h)
  some_append reversed (p ∷ ps) qs x y = (
    elim [ inl (inl r) ↦ inl r | inl (inr r) ↦ inr ((some_append reversed ps qs x y).0 (inl r)) | inr r ↦ inr ((some_append reversed ps qs x y).0 (inr r)) ],
    elim [ inl r ↦ inl (inl r) | inr h ↦ elim ((some_append reversed ps qs x y).1 h) [ inl r ↦ inl (inr r) | inr r ↦ inr r ] ],
  )

  reads_some_append : (reversed : Bool) (ps qs : List (Path ℕ)) (x : ℕ) (look : Look ℕ) → (ReadsSome ids reversed ps x look ⊎ ReadsSome ids reversed qs x look) ↔ ReadsSome ids reversed (ps ++ qs) x look
  reads_some_append reversed [] qs x look = (elim [ inl n ↦ absurd n | inr h ↦ h ], λ h. inr h)
  reads_some_append reversed (p ∷ ps) qs x look = (
    elim [ inl (inl r) ↦ inl r | inl (inr r) ↦ inr ((reads_some_append reversed ps qs x look).0 (inl r)) | inr r ↦ inr ((reads_some_append reversed ps qs x look).0 (inr r)) ],
    elim [ inl r ↦ inl (inl r) | inr h ↦ elim ((reads_some_append reversed ps qs x look).1 h) [ inl r ↦ inl (inr r) | inr r ↦ inr r ] ],
  )

-- the same by facts that hold together
made_where : (walker : Walker) (R S : List Ids → ℕ → ℕ → Type 0) (L M : List Ids → ℕ → Look ℕ → Type 0) → ((ids : List Ids) (x y : ℕ) → R ids x y ↔ S ids x y) → ((ids : List Ids) (x : ℕ) (look : Look ℕ) → L ids x look ↔ M ids x look)
    → IsMade walker R L → IsMade walker S M
made_where walker R S L M e d h = record {
  fresh = h.fresh;
  reaches = λ ids x y. (λ g. (e ids x y).0 ((h.reaches ids x y).0 g), λ s. (h.reaches ids x y).1 ((e ids x y).1 s));
  reads = λ ids x look. (λ g. (d ids x look).0 ((h.reads ids x look).0 g), λ s. (h.reads ids x look).1 ((d ids x look).1 s));
}

-- the walker of two parts of a list
module _ (walker : Walker) (reversed : Bool) (paths : List (Path ℕ)) where
  abbrev pub GoesOnward : Type 0
  GoesOnward = IsMade walker (λ ids. Onward ids paths) (λ ids. ReadsOnward ids paths)

  abbrev pub GoesBackward : Type 0
  GoesBackward = IsMade walker (λ ids. Backward ids paths) (λ ids. ReadsBackward ids paths)

  abbrev pub GoesSome : Type 0
  GoesSome = IsMade walker (λ ids. ReachesSome ids reversed paths) (λ ids. ReadsSome ids reversed paths)

module _ (paths : List (Path ℕ)) where
  module _ (before after : List (Path ℕ)) (is : before ++ after ≡ paths) (one other walker : Walker) where
    pub onward_parts : GoesOnward one false before → GoesOnward other false after → IsThen one other walker → GoesOnward walker false paths
    onward_parts h k j = subst (GoesOnward walker false) is
        (made_where walker (λ ids x y. (z : ℕ) × Onward ids before x z × Onward ids after z y) (λ ids. Onward ids (before ++ after))
        (λ ids x look. ReadsOnward ids before x look ⊎ ((z : ℕ) × Onward ids before x z × ReadsOnward ids after z look)) (λ ids. ReadsOnward ids (before ++ after))
        (λ ids. onward_append ids before after) (λ ids. reads_onward_append ids before after)
        (made_then one other walker (λ ids. Onward ids before) (λ ids. Onward ids after) (λ ids. ReadsOnward ids before) (λ ids. ReadsOnward ids after) h k j))

    pub backward_parts : GoesBackward one true after → GoesBackward other true before → IsThen one other walker → GoesBackward walker true paths
    backward_parts h k j = subst (GoesBackward walker true) is
        (made_where walker (λ ids x y. (z : ℕ) × Backward ids after x z × Backward ids before z y) (λ ids. Backward ids (before ++ after))
        (λ ids x look. ReadsBackward ids after x look ⊎ ((z : ℕ) × Backward ids after x z × ReadsBackward ids before z look)) (λ ids. ReadsBackward ids (before ++ after))
        (λ ids. backward_append ids before after) (λ ids. reads_backward_append ids before after)
        (made_then one other walker (λ ids. Backward ids after) (λ ids. Backward ids before) (λ ids. ReadsBackward ids after) (λ ids. ReadsBackward ids before) h k j))

    pub some_parts : (reversed : Bool) → GoesSome one reversed before → GoesSome other reversed after → IsEither one other walker → GoesSome walker reversed paths
    some_parts reversed h k j = subst (GoesSome walker reversed) is
        (made_where walker (λ ids x y. ReachesSome ids reversed before x y ⊎ ReachesSome ids reversed after x y) (λ ids. ReachesSome ids reversed (before ++ after))
        (λ ids x look. ReadsSome ids reversed before x look ⊎ ReadsSome ids reversed after x look) (λ ids. ReadsSome ids reversed (before ++ after))
        (λ ids. some_append ids reversed before after) (λ ids. reads_some_append ids reversed before after)
        (made_either one other walker (λ ids. ReachesSome ids reversed before) (λ ids. ReachesSome ids reversed after) (λ ids. ReadsSome ids reversed before) (λ ids. ReadsSome ids reversed after) h k j))
