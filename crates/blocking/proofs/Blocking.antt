-- Whether a result blocks after changes, by the pairs that they touch.
use Rattle.std.proofs.Common.{◌≡◌, ◌∙◌, Bool, true, false, ◌||◌, List, [], ◌∷◌, map, refl, sym, ap, subst, arith, inl, inr}
use Rattle.std.specs.Prelude.{◌⊎◌}
use Rattle.std.specs.List.{Contains, list_any}
use Rattle.collections.proofs.Members.{has_cases, has_head, has_tail}
use Rattle.rdf_model.specs.declared.change.Change.{Change}
use Rattle.rdf_model.specs.declared.term.Term.{Term}
use Rattle.rdf_model.specs.declared.triple.Triple.{Triple}
use Rattle.rdf_model.specs.Graphs.{after}
use Rattle.shape_model.specs.declared.result_row.ResultRow.{ResultRow}
use Rattle.shape_model.specs.Validation.{IsResult}
use Rattle.change_laws.specs.Checks.{AreChecked, CheckedPair, HasPair}
use Rattle.change_laws.specs.Pairs.{PairRow}
use Rattle.change_laws.proofs.Checked.{mapped_from, mapped_to}
use Rattle.change_laws.proofs.Merging.{in_or_not}
use Rattle.change_laws.proofs.Untouched.{untouched_law}
use Rattle.store_model.specs.declared.event.BlockMode.{BlockMode}
use Rattle.store_model.specs.Blocking.{has_blocking, row_blocks}
use Rattle.kept_rows.specs.declared.pair_rows.PairRows.{PairRows}
use Rattle.kept_rows.specs.Laws.{ChecksPairs, read_pair, read_pairs}
use Rattle.blocking.specs.Laws.{NothingBlocksLaw, SomethingBlocksLaw}
use Rattle.blocking.proofs.Sources.{source_shape}

-- tests of some item
or_true : (a b : Bool) → (a || b) ≡ true → (a ≡ true) ⊎ (b ≡ true)
or_true true b h = inl refl
or_true false b h = inr h

or_false : (a b : Bool) → (a || b) ≡ false → (a ≡ false) × (b ≡ false)
or_false true b h = cc
or_false false b h = (refl, h)

or_last : (a b : Bool) → b ≡ true → (a || b) ≡ true
or_last true b h = refl
or_last false b h = h

pub some_passes : {X : Type 0} → (test : X → Bool) (xs : List X) → list_any test xs ≡ true → (x : X) × Contains xs x × (test x ≡ true)
some_passes test [] h = cc
some_passes test (x ∷ xs) h = elim (or_true (test x) (list_any test xs) h) [
  | inl e ↦ (x, has_head x xs, e)
  | inr e ↦ let k = some_passes test xs e in (k.0, has_tail x xs k.0 k.1, k.2)
]

pub passes_some : {X : Type 0} → (test : X → Bool) (xs : List X) (x : X) → Contains xs x → test x ≡ true → list_any test xs ≡ true
passes_some test [] x c h = absurd (omega (arith, c.1))
passes_some {X} test (y ∷ ys) x c h = elim (has_cases y ys x c) [
  | inl e ↦ ap (λ b. b || list_any test ys) (subst (λ (w : X). test w ≡ true) (sym e) h)
  | inr d ↦ or_last (test y) (list_any test ys) (passes_some test ys x d h)
]

pub none_passes : {X : Type 0} → (test : X → Bool) (xs : List X) (x : X) → list_any test xs ≡ false → Contains xs x → test x ≡ false
none_passes test [] x h c = absurd (omega (arith, c.1))
none_passes {X} test (y ∷ ys) x h c =
    let both = or_false (test y) (list_any test ys) h in
    elim (has_cases y ys x c) [
      | inl e ↦ subst (λ (w : X). test w ≡ false) e both.0
      | inr d ↦ none_passes test ys x both.1 d
    ]

abbrev named_pair : CheckedPair → Term × Term
named_pair c = (c.shape, c.focus)

-- a pair is among them or not
checked_or_not : (checked : List CheckedPair) (shape f : Term) → HasPair checked shape f ⊎ (HasPair checked shape f → ⊥)
checked_or_not checked shape f = elim (in_or_not (map named_pair checked) (shape, f)) [
  | inl c ↦ let k = mapped_from named_pair checked (shape, f) c in let e = k.2 in inl (k.0, k.1, λ i. (e i).0, λ i. (e i).1)
  | inr n ↦ inr (λ h. let same : named_pair h.0 ≡ (shape, f) = λ i. (h.2 i, h.3 i) in n (subst (λ (x : Term × Term). Contains (map named_pair checked) x) same (mapped_to named_pair checked h.0 h.1)))
]

module _ (mode : BlockMode) (terms : List Term) (g s : List Triple) (net : List Change) (pairs : List PairRows) (checks : ChecksPairs terms g s net pairs) where
  are : AreChecked g s net (read_pairs terms pairs)
  are = checks.checked

  -- a result of a touched pair is one of the graph after the changes
  result_of : (p : PairRows) → Contains pairs p → (row : ResultRow) → Contains p.rows row → IsResult (after g net) s row
  result_of p i row c =
      let q = read_pair terms p in
      let r : PairRow (after g net) s q.shape q.focus row = ((are.rows q (mapped_to (read_pair terms) pairs p i)).members row).0 c in
      (q.shape, q.focus, r.0, r.1)

  -- and a result of the graph is one of a touched pair, or was there before
  from_pairs : (row : ResultRow) → IsResult (after g net) s row → ((p : PairRows) × Contains pairs p × Contains p.rows row) ⊎ IsResult g s row
  from_pairs row i = elim (checked_or_not (read_pairs terms pairs) i.0 i.1) [
    | inl h ↦
        let k = mapped_from (read_pair terms) pairs h.0 h.1 in
        let shape : term_of k.0 ≡ i.0 = ap (λ (w : CheckedPair). w.shape) k.2 ∙ h.2 in
        let focus : focus_of k.0 ≡ i.1 = ap (λ (w : CheckedPair). w.focus) k.2 ∙ h.3 in
        let q = read_pair terms k.0 in
        let own : PairRow (after g net) s q.shape q.focus row =
        subst (λ (t : Term). PairRow (after g net) s t q.focus row) (sym shape) (subst (λ (t : Term). PairRow (after g net) s i.0 t row) (sym focus) (i.2, i.3)) in
        inl (k.0, k.1, ((are.rows q (mapped_to (read_pair terms) pairs k.0 k.1)).members row).1 own)
    | inr n ↦
        let p = ((untouched_law g s net i.0 i.1 (λ t. n ((are.pairs i.0 i.1).1 t))).1 row).1 (i.2, i.3) in
        inr (i.0, i.1, p.0, p.1)
  ]
    where
      term_of : PairRows → Term
      term_of p = (read_pair terms p).shape

      focus_of : PairRows → Term
      focus_of p = (read_pair terms p).focus

pub nothing_blocks : NothingBlocksLaw
nothing_blocks mode terms g s net pairs none checks h row i = elim (from_pairs mode terms g s net pairs checks row i) [
  | inl k ↦
      none_passes (λ (r : ResultRow). row_blocks mode s r) k.0.rows row (none_passes (λ (p : PairRows). has_blocking mode s p.rows) pairs k.0 h k.1) k.2
  | inr k ↦ none row k
]

pub something_blocks : SomethingBlocksLaw
something_blocks mode terms g s net pairs checks = (
  λ rows l h.
      let p = some_passes (λ (q : PairRows). has_blocking mode s q.rows) pairs h in
      let r = some_passes (λ (row : ResultRow). row_blocks mode s row) p.0.rows p.2 in
      passes_some (λ (row : ResultRow). row_blocks mode s row) rows r.0 ((l.members r.0).1 (result_of mode terms g s net pairs checks p.0 p.1 r.0 r.1)) r.2,
  λ p i row c. source_shape (after g net) s row (result_of mode terms g s net pairs checks p i row c),
)
