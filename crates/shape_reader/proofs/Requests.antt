-- What the maker is asked for, shape by shape.
use Rattle.std.proofs.Common.{◌≡◌, ◌∙◌, ℕ, zero, suc, ◌+◌, ◌<◌, ◌≤◌, List, [], ◌∷◌, ◌++◌, Some, Err, length, take, get_or, refl, sym, ap, subst, arith, inl, inr, append_assoc}
use Rattle.std.specs.List.{Contains}
use Rattle.std.specs.declared.cmp.Ordering.TheVariants.{Less}
use Rattle.std.proofs.lemmas.List.{append-nil, take_all, take_more}
use Rattle.std.proofs.lemmas.List.Elements.{Contains-append_left, Contains-push, Contains-push_cases}
use Rattle.collections.specs.Listings.{IsListing}
use Rattle.collections.specs.Ordered.{IsAscending}
use Rattle.collections.proofs.Members.{below, has_cases, has_equal, has_tail}
use Rattle.literal_order.specs.Texts.{string_value}
use Rattle.outside.specs.Faults.{NotesBuild, Request}
use Rattle.outside.specs.declared.maker.MakeFault.{MakeFault}
use Rattle.outside.specs.declared.maker.MakeFault.TheVariants as make
use Rattle.rdf_model.specs.declared.term.Term.{Term}
use Rattle.rdf_model.specs.declared.triple.Triple.{Triple}
use Rattle.rdf_model.specs.Terms.{term_cmp}
use Rattle.regex.specs.declared.string.regex.Regex.{Regex}
use Rattle.shape_model.specs.ShapeSyntax.{IsShape}
use Rattle.shape_model.specs.Vocabulary.{ShPattern}
use Rattle.shape_properties.specs.declared.property.ShapeProperty.TheVariants as vocabulary
use Rattle.shape_properties.specs.Syntax.{HasProperty}
use Rattle.shape_reader.specs.declared.fault.CompileFault.{CompileFault}
use Rattle.shape_reader.specs.declared.fault.CompileFault.TheVariants as compile_faults
use Rattle.shape_reader.specs.Asked.{AreFirst, AreRequests, AsksAll, AsksAmong, AsksAt, AsksBefore, AsksBeforeFault, AsksIfAny, AsksInVain, AsksMaybe, AsksSome, AsksThat, AsksUpTo, HasPattern, IsRequest}
use Rattle.shape_reader.specs.Faults.{shape_fault}
use Rattle.shape_reader.specs.Parts.{IsFlagsText, IsPatternFault}
use Rattle.shape_properties.proofs.Defined.{has_same}
use Rattle.shape_reader.proofs.Rising.{ascending_push, not_both, passed_below}

-- the shapes of a front of an ascending list are the first of it
pub front : (xs : List Term) → IsAscending term_cmp xs → (i : ℕ) (x m : Term) → Contains xs x → Contains (take i xs) m → term_cmp x m ≡ Less → Contains (take i xs) x
front [] a i x m c d l = absurd (let k = c.1 in omega arith)
front (z ∷ xs) a zero x m c d l = absurd (let k = d.1 in omega arith)
front (z ∷ xs) a (suc i) x m c d l = elim (has_cases z xs x c) [
  | inl e ↦ has_equal z (take i xs) x e
  | inr later ↦ elim (has_cases z (take i xs) m d) [
    | inl e ↦ absurd (not_both x m l (subst (λ (w : Term). term_cmp w x ≡ Less) e (below term_cmp z xs x a.0 later)))
    | inr deeper ↦ has_tail z (take i xs) x (front xs a.1 i x m later deeper l)
  ]
]

module _ (s : List Triple) where
  -- a node with a pattern is a shape
  patterned : (n : Term) → HasPattern s n → IsShape s n
  patterned n h = inr (inr (inl (ShPattern, h.0, refl, (has_same s n ShPattern h.0).0 h.1)))

  none_first : AreFirst s []
  none_first = record {
    ascending = tt;
    members = λ n c. absurd (let k = c.1 in omega arith);
    before = λ n m h c l. absurd (let k = c.1 in omega arith);
  }

  pub asks_same : (old new : List Request) → new ≡ old → AsksSome s old new
  asks_same old new e = ([], (none_first, [], tt, e ∙ sym (append-nil old)))

  pub asks_nothing : (xs : List Request) → AsksSome s xs xs
  asks_nothing xs = asks_same xs xs refl

  -- all are some, and so are those up to one
  pub all_some : (old new : List Request) → AsksAll s old new → AsksSome s old new
  all_some old new h = (h.0, h.1)

  pub upto_some : (n : Term) (old new : List Request) → AsksUpTo s n old new → AsksSome s old new
  upto_some n old new h = (h.0 ++ n ∷ [], h.1)

  -- the answer of the maker
  pub asked_built : (n v : Term) (pattern flags : List ℕ) (old new : List Request) → HasProperty s n vocabulary.Pattern v → string_value v ≡ Some pattern → IsFlagsText s n flags → new ≡ old ++ (pattern, flags) ∷ [] → AsksThat s n old new
  asked_built n v pattern flags old new has text is_flags e = ((pattern, flags), (v, has, text, is_flags), e)

  pub asked_vain : (n v : Term) (pattern flags : List ℕ) (f : MakeFault) (old new : List Request) → HasProperty s n vocabulary.Pattern v → string_value v ≡ Some pattern → IsFlagsText s n flags → NotesBuild {X = Regex} (Err f) old (pattern, flags) new → AsksInVain s n f old new
  asked_vain n v pattern flags make.Refused old new has text is_flags e = asked_built n v pattern flags old new has text is_flags e
  asked_vain n v pattern flags make.Memory old new has text is_flags e = elim e [ inl k ↦ inl k | inr k ↦ inr (asked_built n v pattern flags old new has text is_flags k) ]

  pub any_maybe : (n : Term) (old new : List Request) → AsksIfAny s n old new → AsksMaybe s n old new
  any_maybe n old new = elim [ inl h ↦ inl h.1 | inr h ↦ inr h ]

  -- as the fault of the node's shape tells it
  pub asked_cause : (n own : Term) (old new : List Request) (f : MakeFault) (r : CompileFault) → own ≡ n → AsksInVain s n f old new → IsPatternFault own f r → AsksAt s n r old new
  asked_cause n own old new make.Refused r e h k = subst (λ (x : CompileFault). AsksAt s n x old new) (sym k) (e, h)
  asked_cause n own old new make.Memory r e h k = subst (λ (x : CompileFault). AsksAt s n x old new) (sym k) h

  requests_push : (ns : List Term) (rs : List Request) (n : Term) (r : Request) → AreRequests s ns rs → IsRequest s n r → AreRequests s (ns ++ n ∷ []) (rs ++ r ∷ [])
  requests_push [] [] n r h k = (k, tt)
  requests_push [] (q ∷ rs) n r h k = absurd h
  requests_push (m ∷ ns) [] n r h k = absurd h
  requests_push (m ∷ ns) (q ∷ rs) n r h k = (h.0, requests_push ns rs n r h.1 k)

  -- the patterns of the passed nodes and of the next one, which has one
  abbrev UpTo : List Term → Term → List Request → List Request → Type 0
  UpTo passed n old new = (nodes : List Term) × IsListing term_cmp (λ m. HasPattern s m × Contains (passed ++ n ∷ []) m) (nodes ++ n ∷ [])
      × (requests : List Request) × AreRequests s (nodes ++ n ∷ []) requests × (new ≡ old ++ requests)

  that_next : (passed : List Term) (n : Term) (old mid new : List Request) → ((x : Term) → Contains passed x → term_cmp x n ≡ Less) → AsksAmong s passed old mid → AsksThat s n mid new → UpTo passed n old new
  that_next passed n old mid new above h that =
      let ns = h.0 in
      let r = that.0 in (
        ns,
        record {
          ascending = ascending_push term_cmp ns n h.1.ascending (λ x c. above x ((h.1.members x).0 c).1);
          members = λ x. (
            λ c. elim (Contains-push_cases ns n x c) [
              | inl d ↦ (let k = (h.1.members x).0 d in (k.0, Contains-append_left passed (n ∷ []) x k.1))
              | inr e ↦ subst (λ (m : Term). HasPattern s m × Contains (passed ++ n ∷ []) m) e ((that.1.0, that.1.1), Contains-push passed n)
            ],
            λ k. elim (Contains-push_cases passed n x k.1) [
              | inl d ↦ Contains-append_left ns (n ∷ []) x ((h.1.members x).1 (k.0, d))
              | inr e ↦ subst (λ (m : Term). Contains (ns ++ n ∷ []) m) e (Contains-push ns n)
            ],
          );
        },
        h.2 ++ r ∷ [],
        requests_push ns h.2 n r h.3 that.1,
        that.2 ∙ (ap (λ (xs : List Request). xs ++ r ∷ []) h.4 ∙ append_assoc old h.2 (r ∷ [])),
      )

  -- the passed nodes and the next one
  among_next : (passed : List Term) (n : Term) (old mid new : List Request) → ((x : Term) → Contains passed x → term_cmp x n ≡ Less) → AsksAmong s passed old mid → AsksIfAny s n mid new → AsksAmong s (passed ++ n ∷ []) old new
  among_next passed n old mid new above h = elim [
    | inl none ↦ (
      h.0,
      record {
        ascending = h.1.ascending;
        members = λ x. (
          λ c. let k = (h.1.members x).0 c in (k.0, Contains-append_left passed (n ∷ []) x k.1),
          λ k. elim (Contains-push_cases passed n x k.1) [
            | inl d ↦ (h.1.members x).1 (k.0, d)
            | inr e ↦ absurd (none.0 (subst (HasPattern s) (sym e) k.0))
          ],
        );
      },
      h.2,
      h.3,
      none.1 ∙ h.4,
    )
    | inr that ↦ (let k = that_next passed n old mid new above h that in (k.0 ++ n ∷ [], k.1, k.2, k.3, k.4))
  ]

  pub none_among : (nodes : List Term) (xs : List Request) → AsksAmong s (take 0 nodes) xs xs
  none_among nodes xs = (
    [],
    record {
      ascending = tt;
      members = λ x. (λ c. absurd (let k = c.1 in omega arith), λ h. absurd (let k = h.1.1 in omega arith));
    },
    [],
    tt,
    sym (append-nil xs),
  )

  -- among all shapes of the graph
  module _ (nodes : List Term) (listing : IsListing term_cmp (IsShape s) nodes) where
    listed : (n : Term) → HasPattern s n → Contains nodes n
    listed n h = (listing.members n).1 (patterned n h)

    first_of : (i : ℕ) (ns : List Term) → IsListing term_cmp (λ m. HasPattern s m × Contains (take i nodes) m) ns → AreFirst s ns
    first_of i ns h = record {
      ascending = h.ascending;
      members = λ n c. ((h.members n).0 c).0;
      before = λ n m has c l. (h.members n).1 (has, front nodes listing.ascending i n m (listed n has) ((h.members m).0 c).1 l);
    }

    some_among : (i : ℕ) (old new : List Request) → AsksAmong s (take i nodes) old new → AsksSome s old new
    some_among i old new h = (h.0, (first_of i h.0 h.1, h.2, h.3, h.4))

    whole : (i : ℕ) (n : Term) → i < length nodes → n ≡ get_or nodes i n → take (i + 1) nodes ≡ take i nodes ++ n ∷ []
    whole i n l e = take_more nodes i n l ∙ ap (λ (z : Term). take i nodes ++ z ∷ []) (sym e)

    pub among_more : (i : ℕ) (n : Term) (old mid new : List Request) → i < length nodes → n ≡ get_or nodes i n → AsksAmong s (take i nodes) old mid → AsksIfAny s n mid new → AsksAmong s (take (i + 1) nodes) old new
    among_more i n old mid new l e h k = subst (λ (passed : List Term). AsksAmong s passed old new) (sym (whole i n l e))
        (among_next (take i nodes) n old mid new (λ x c. passed_below term_cmp nodes listing.ascending i n x l e c) h k)

    upto : (i : ℕ) (n : Term) (old mid new : List Request) → i < length nodes → n ≡ get_or nodes i n → AsksAmong s (take i nodes) old mid → AsksThat s n mid new → AsksUpTo s n old new
    upto i n old mid new l e h that =
        let k = that_next (take i nodes) n old mid new (λ x c. passed_below term_cmp nodes listing.ascending i n x l e c) h that in
        let same = subst (λ (passed : List Term). IsListing term_cmp (λ m. HasPattern s m × Contains passed m) (k.0 ++ n ∷ [])) (sym (whole i n l e)) k.1 in
        (k.0, (first_of (i + 1) (k.0 ++ n ∷ []) same, k.2, k.3, k.4))

    -- where the next shape was not compiled
    pub stopped_at : (i : ℕ) (n : Term) (f : CompileFault) (old mid new : List Request) → i < length nodes → n ≡ get_or nodes i n → AsksAmong s (take i nodes) old mid → AsksAt s n f mid new → AsksBefore s f old new
    stopped_at i n (compile_faults.Pattern m) old mid new l e h k = subst (λ (x : Term). AsksUpTo s x old new) (sym k.0) (upto i n old mid new l e h k.1)
    stopped_at i n compile_faults.Memory old mid new l e h k = elim k [
      | inl same ↦ subst (λ (xs : List Request). AsksSome s old xs) (sym same) (some_among i old mid h)
      | inr that ↦ upto_some n old new (upto i n old mid new l e h that)
    ]

    -- where there is no memory to keep it
    pub stopped_after : (i : ℕ) (n : Term) (old mid new : List Request) → i < length nodes → n ≡ get_or nodes i n → AsksAmong s (take i nodes) old mid → AsksIfAny s n mid new → AsksSome s old new
    stopped_after i n old mid new l e h k = some_among (i + 1) old new (among_more i n old mid new l e h k)

    pub all_among : (i : ℕ) (old new : List Request) → length nodes ≤ i → AsksAmong s (take i nodes) old new → AsksAll s old new
    all_among i old new l h = (h.0, (first_of i h.0 h.1, h.2, h.3, h.4), λ n has. (h.1.members n).1 (has, subst (λ (xs : List Term). Contains xs n) (sym (take_all i nodes l)) (listed n has)))

-- as the reader of shapes tells it
pub before_told : (s : List Triple) (f : CompileFault) (old new : List Request) → AsksBefore s f old new → AsksBeforeFault s (shape_fault f) old new
before_told s (compile_faults.Pattern n) old new h = h
before_told s compile_faults.Memory old new h = h
