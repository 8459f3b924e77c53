-- Rows of looks and their ways by number.
use Rattle.std.proofs.Common.{◌≡◌, ◌∙◌, ℕ, zero, suc, ◌+◌, ◌<◌, ◌≤◌, Vec, Box, Global, Some, List, [], ◌∷◌, ◌++◌, length, map, take, get_or, refl, sym, ap, subst, arith, inl, inr}
use Rattle.std.specs.Prelude.{◌⊎◌, ◌↔◌}
use Rattle.std.specs.List.{All, AllByRecursion, Contains}
use Rattle.std.proofs.lemmas.List.{map-append, take_all, take_more}
use Rattle.std.proofs.lemmas.List.Elements.{All-append, All-cons, All-nil, Contains-append_left, Contains-push, Contains-push_cases}
use Rattle.rdf_model.specs.declared.term.Term.{Term}
use Rattle.rdf_model.specs.Numbers.{term_at}
use Rattle.shape_model.specs.Looks.{LookRow}
use Rattle.shape_model.specs.Paths as defined
use Rattle.path_ast.specs.declared.path.Path.{Path, Sequence, Predicate, Inverse', Sequence', Alternative', ZeroOrMore', OneOrMore', ZeroOrOne'}
use Rattle.path_ast.specs.PathReadings.{HasEach, HoldsOfEach, IsBoundOptional, IsBoundPath, defined_path, members, path_of, read_row}
use Rattle.path_ast.proofs.Names.{each_named}
use Rattle.path_ast.proofs.Rows.{sequence_each, sequence_read}
use Rattle.read_plans.specs.declared.look.PlannedLook.{PlannedLook}
use Rattle.read_plans.specs.Rows.{read_kind, read_look, read_looks}
use Rattle.focus_affected.specs.declared.plan.NumberedLook.{NumberedLook}
use Rattle.focus_affected.specs.Plans.{AreBoundRows, IsBoundLookRow, kind_of, row_of, way_of}

-- the members of a sequence, as a list
abbrev listed : defined.Paths → List defined.Path
listed (defined.Last p) = p ∷ []
listed (defined.Also p ps) = p ∷ listed ps

listed_members : (p : defined.Path) (ps : List defined.Path) → listed (members p ps) ≡ p ∷ ps
listed_members p [] = refl
listed_members p (q ∷ qs) = ap (λ (l : List defined.Path). p ∷ l) (listed_members q qs)

abbrev parts : defined.Path → List defined.Path
parts (defined.Sequence ps) = listed ps
parts p = p ∷ []

module _ (terms : List Term) (first : Box (Path ℕ) Global) (others : Vec (Path ℕ) Global) where
  way_parts : way_of terms (Some (Sequence first others)) ≡ parts (path_of terms (Sequence first others))
  way_parts = sym (listed_members _ _)

  pub way_same : (p : Path Term) (ps : List (Path Term)) → path_of terms first.value ≡ defined_path p → map (path_of terms) others.items ≡ map defined_path ps
      → way_of terms (Some (Sequence first others)) ≡ map defined_path (p ∷ ps)
  way_same p ps e es =
      way_parts ∙ (ap parts (sequence_read first others (term_at terms)) ∙ (listed_members (path_of terms first.value) (map (path_of terms) others.items) ∙ (λ i. e i ∷ es i)))

  pub way_bound : IsBoundPath (length terms) first.value → All (IsBoundPath (length terms)) others.items → IsBoundOptional (length terms) (Some (Sequence first others))
  way_bound b bs = (sequence_each first others (λ p. p < length terms)).1 (b, bs)

pub way_is : (terms : List Term) (p : Path ℕ) → way_of terms (Some p) ≡ parts (path_of terms p)
way_is terms (Sequence' b p c ps) = sym (listed_members (path_of terms p) (read_row (term_at terms) ps))
way_is terms (Predicate p) = refl
way_is terms (Inverse' b p) = refl
way_is terms (Alternative' b p c ps) = refl
way_is terms (ZeroOrMore' b p) = refl
way_is terms (OneOrMore' b p) = refl
way_is terms (ZeroOrOne' b p) = refl

-- paths that read the same are the same way
pub ways_same : (p q : Path ℕ) → ((terms : List Term) → path_of terms p ≡ path_of terms q) → (terms : List Term) → way_of terms (Some p) ≡ way_of terms (Some q)
ways_same p q e terms = way_is terms p ∙ (ap parts (e terms) ∙ sym (way_is terms q))

-- the terms of a way that is read
pub ways_named : (Q : Term → Type 0) (ps : List (Path Term)) → AllByRecursion (HoldsOfEach Q) (map defined_path ps) → All (HasEach Q) ps
ways_named Q [] h = All-nil (HasEach Q)
ways_named Q (p ∷ ps) h = All-cons (HasEach Q) p ps (each_named Q p h.0) (ways_named Q ps h.1)

pub held_at : {X Y : Type 0} → (P : Y → Type 0) (f : X → Y) (xs : List X) (i : ℕ) (x : X) → AllByRecursion P (map f xs) → i < length xs → x ≡ get_or xs i x → P (f x)
held_at P f [] i x h lt e = absurd (omega (arith, lt))
held_at P f (y ∷ ys) zero x h lt e = subst (λ z. P (f z)) (sym e) h.0
held_at P f (y ∷ ys) (suc i) x h lt e = held_at P f ys i x h.1 (omega (arith, lt)) e

pub row_same : (terms : List Term) (numbered : NumberedLook) (look : PlannedLook) → way_of terms numbered.way ≡ map defined_path look.way → kind_of terms numbered.kind ≡ read_kind look.kind → row_of terms numbered ≡ read_look look
row_same terms numbered look w k = λ i. record { way = w i; kind = k i }

-- one row more at the end
pub pushed_rows : (old new : List NumberedLook) (look : NumberedLook) → new ≡ old ++ look ∷ [] → (terms : List Term) (row : LookRow) → Contains (map (row_of terms) new) row ↔ (Contains (map (row_of terms) old) row ⊎ (row_of terms look ≡ row))
pushed_rows old new look e terms row =
    let f = row_of terms in
    let all : map f new ≡ map f old ++ f look ∷ [] = ap (map f) e ∙ map-append f old (look ∷ []) in (
      λ c. Contains-push_cases (map f old) (f look) row (subst (λ (rows : List LookRow). Contains rows row) all c),
      λ h. subst (λ (rows : List LookRow). Contains rows row) (sym all) (elim h [ inl c ↦ Contains-append_left (map f old) (f look ∷ []) row c | inr q ↦ subst (λ (r : LookRow). Contains (map f old ++ f look ∷ []) r) q (Contains-push (map f old) (f look)) ]),
    )

-- a row that is there already
pub found_rows : (looks : List NumberedLook) (look : NumberedLook) → ((terms : List Term) → Contains (map (row_of terms) looks) (row_of terms look))
    → (terms : List Term) (row : LookRow) → Contains (map (row_of terms) looks) row ↔ (Contains (map (row_of terms) looks) row ⊎ (row_of terms look ≡ row))
found_rows looks look there terms row = (λ c. inl c, elim [ inl c ↦ c | inr q ↦ subst (λ (r : LookRow). Contains (map (row_of terms) looks) r) q (there terms) ])

pub pushed_bound : (old new : List NumberedLook) (look : NumberedLook) → new ≡ old ++ look ∷ [] → (n : ℕ) → IsBoundLookRow n look → AreBoundRows n old → AreBoundRows n new
pushed_bound old new look e n bound before =
    subst (λ (ls : List NumberedLook). AreBoundRows n ls) (sym e) (All-append (IsBoundLookRow n) old (look ∷ []) before (All-cons (IsBoundLookRow n) look [] bound (All-nil (IsBoundLookRow n))))

-- the rows by number are those of the looks so far
abbrev pub RowsAre : List Term → List NumberedLook → List PlannedLook → Type 0
RowsAre terms numbered looks = (row : LookRow) → Contains (map (row_of terms) numbered) row ↔ Contains (read_looks looks) row

module _ (terms : List Term) (looks : List PlannedLook) where
  pub no_rows : (numbered : List NumberedLook) → numbered ≡ [] → RowsAre terms numbered []
  no_rows numbered e row = (
    λ c. absurd (omega (arith, (subst (λ (ls : List NumberedLook). Contains (map (row_of terms) ls) row) e c).1)),
    λ c. absurd (omega (arith, c.1)),
  )

  pub next_rows : (i : ℕ) (x : PlannedLook) (look : NumberedLook) (old new : List NumberedLook) → i < length looks → x ≡ get_or looks i x → row_of terms look ≡ read_look x → RowsAre terms old (take i looks)
      → ((row : LookRow) → Contains (map (row_of terms) new) row ↔ (Contains (map (row_of terms) old) row ⊎ (row_of terms look ≡ row))) → RowsAre terms new (take (i + 1) looks)
  next_rows i x look old new lt is same before grown row =
      let xs = read_looks (take i looks) in
      let all : read_looks (take (i + 1) looks) ≡ xs ++ read_look x ∷ [] =
      ap read_looks (take_more looks i x lt) ∙ (map-append read_look (take i looks) (get_or looks i x ∷ []) ∙ ap (λ (y : PlannedLook). xs ++ read_look y ∷ []) (sym is)) in (
        λ c. subst (λ (rows : List LookRow). Contains rows row) (sym all) (elim ((grown row).0 c) [
          | inl d ↦ Contains-append_left xs (read_look x ∷ []) row ((before row).0 d)
          | inr q ↦ subst (λ (r : LookRow). Contains (xs ++ read_look x ∷ []) r) (sym same ∙ q) (Contains-push xs (read_look x))
        ]),
        λ c. elim (Contains-push_cases xs (read_look x) row (subst (λ (rows : List LookRow). Contains rows row) all c)) [
          | inl d ↦ (grown row).1 (inl ((before row).1 d))
          | inr q ↦ (grown row).1 (inr (same ∙ q))
        ],
      )

  pub all_rows : (i : ℕ) (numbered : List NumberedLook) → length looks ≤ i → RowsAre terms numbered (take i looks) → RowsAre terms numbered looks
  all_rows i numbered le rows = subst (λ (ls : List PlannedLook). RowsAre terms numbered ls) (take_all i looks le) rows
