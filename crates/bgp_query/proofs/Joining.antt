-- The steps of the walk through the patterns.
use Rattle.std.proofs.Common.{◌≡◌, ◌∙◌, ◌<◌, ◌≤◌, ◌-◌, ℕ, Bool, List, [], ◌∷◌, true, false, refl, sym, subst, ap, arith, get_or, length, drop, take, Err}
use Rattle.std.specs.Prelude.{◌↔◌, Result, MatchResult}
use Rattle.std.proofs.lemmas.List.{take_all}
use Rattle.rdf_model.specs.declared.ids.Ids.{Ids}
use Rattle.bgp_query.specs.declared.fault.JoinFault.{JoinFault}
use Rattle.bgp_query.specs.declared.fault.JoinFault.TheVariants.{TooMany}
use Rattle.bgp_query.specs.declared.pattern.JoinPattern.{JoinPattern}
use Rattle.bgp_query.specs.declared.trail.BoundVariable.{BoundVariable}
use Rattle.bgp_query.specs.Bindings.{most_bindings}
use Rattle.bgp_query.specs.Trails.{Added, Covers, GaveTriple, IsFull, IsMet, IsRow, IsUnder, MayStand, Overflows}
use Rattle.bgp_query.proofs.Rows.{added_as, full_row, given_under, met_row, none_under, nothing_added, overflows_as}

-- an error that is handed on
pub rows_stopped : (P : List ℕ → Type 0) (old new : List (List ℕ)) (r : Result (Unit {0}) JoinFault) (e f : JoinFault) → r ≡ Err e → e ≡ f → (f ≡ TooMany → Overflows most_bindings P old new) →
    MatchResult r (λ _. Added most_bindings P old new) (λ x. x ≡ TooMany → Overflows most_bindings P old new)
rows_stopped P old new r e f is same over = subst (λ (q : Result (Unit {0}) JoinFault). MatchResult q (λ _. Added most_bindings P old new) (λ x. x ≡ TooMany → Overflows most_bindings P old new)) (sym is) (λ many. over (sym same ∙ many))

pub nothing_left : {X : Type 0} (xs : List X) → length xs < 1 → xs ≡ []
nothing_left [] l = refl
nothing_left (x ∷ xs) l = absurd (omega arith)

-- a list as its first and the others
pub parted : {X : Type 0} (xs : List X) (d : X) → 1 ≤ length xs → get_or xs 0 d ∷ take (length xs - 1) (drop 1 xs) ≡ xs
parted [] d l = absurd (omega arith)
parted (x ∷ xs) d l = ap (λ ys. x ∷ ys) (take_all (length (x ∷ xs) - 1) xs (omega arith))

pub covers_none : (n : ℕ) (trail ts : List BoundVariable) (left : List (JoinPattern ℕ)) → ts ≡ trail → left ≡ [] → Covers n trail left → Covers n ts []
covers_none n trail ts left e f c = subst (λ (bs : List BoundVariable). Covers n bs []) (sym e) (subst (λ (ps : List (JoinPattern ℕ)). Covers n trail ps) f c)

-- no pattern is left
module _ (ids : List Ids) (n : ℕ) (trail ts : List BoundVariable) (left : List (JoinPattern ℕ)) (e : ts ≡ trail) (f : left ≡ []) where
  at_end : (xs : List ℕ) → IsFull n ts xs ↔ IsRow ids n trail left xs
  at_end xs = subst (λ (ps : List (JoinPattern ℕ)). IsFull n ts xs ↔ IsRow ids n trail ps xs) (sym f) (subst (λ (bs : List BoundVariable). IsFull n bs xs ↔ IsRow ids n trail [] xs) (sym e) (full_row ids n trail xs))

  pub end_added : (old new : List (List ℕ)) → Added most_bindings (IsFull n ts) old new → Added most_bindings (IsRow ids n trail left) old new
  end_added old new a = added_as most_bindings (IsFull n ts) (IsRow ids n trail left) old new at_end a

  pub end_over : (old new : List (List ℕ)) → Overflows most_bindings (IsFull n ts) old new → Overflows most_bindings (IsRow ids n trail left) old new
  end_over old new o = overflows_as most_bindings (IsFull n ts) (IsRow ids n trail left) old new (λ xs p. (at_end xs).0 p) o

-- a pattern, and those after it
module _ (ids : List Ids) (n : ℕ) (trail ts : List BoundVariable) (left : List (JoinPattern ℕ)) (p : JoinPattern ℕ) (rest : List (JoinPattern ℕ)) (found fs : List Ids) (e : ts ≡ trail) (f : p ∷ rest ≡ left) (g : fs ≡ found) (may : MayStand ids ts p found) where
  at_pattern : (xs : List ℕ) → IsMet ids n trail p rest fs xs ↔ IsRow ids n trail left xs
  at_pattern xs = subst (λ (ps : List (JoinPattern ℕ)). IsMet ids n trail p rest fs xs ↔ IsRow ids n trail ps xs) f
      (subst (λ (us : List Ids). IsMet ids n trail p rest us xs ↔ IsRow ids n trail (p ∷ rest) xs) (sym g) (met_row ids n trail p rest found (subst (λ (bs : List BoundVariable). MayStand ids bs p found) e may) xs))

  pub pattern_added : (old new : List (List ℕ)) → Added most_bindings (IsMet ids n trail p rest fs) old new → Added most_bindings (IsRow ids n trail left) old new
  pattern_added old new a = added_as most_bindings (IsMet ids n trail p rest fs) (IsRow ids n trail left) old new at_pattern a

  pub pattern_over : (old new : List (List ℕ)) → Overflows most_bindings (IsMet ids n trail p rest fs) old new → Overflows most_bindings (IsRow ids n trail left) old new
  pattern_over old new o = overflows_as most_bindings (IsMet ids n trail p rest fs) (IsRow ids n trail left) old new (λ xs m. (at_pattern xs).0 m) o

-- one triple
module _ (ids : List Ids) (n : ℕ) (trail new : List BoundVariable) (p : JoinPattern ℕ) (rest : List (JoinPattern ℕ)) (t : Ids) (b : Bool) (gave : GaveTriple trail new p t b) where
  pub can_give : b ≡ true → GaveTriple trail new p t true
  can_give e = subst (λ (c : Bool). GaveTriple trail new p t c) e gave

  pub given_added : b ≡ true → (old rows : List (List ℕ)) → Added most_bindings (IsRow ids n new rest) old rows → Added most_bindings (IsUnder ids n trail p rest t) old rows
  given_added e old rows a = added_as most_bindings (IsRow ids n new rest) (IsUnder ids n trail p rest t) old rows (given_under ids n trail p rest new t (can_give e).gives) a

  pub given_over : b ≡ true → (old rows : List (List ℕ)) → Overflows most_bindings (IsRow ids n new rest) old rows → Overflows most_bindings (IsUnder ids n trail p rest t) old rows
  given_over e old rows o = overflows_as most_bindings (IsRow ids n new rest) (IsUnder ids n trail p rest t) old rows (λ xs r. (given_under ids n trail p rest new t (can_give e).gives xs).0 r) o

  pub not_given : b ≡ false → (old : List (List ℕ)) → length old ≤ most_bindings → Added most_bindings (IsUnder ids n trail p rest t) old old
  not_given e old l =
      let cannot : GaveTriple trail new p t false = subst (λ (c : Bool). GaveTriple trail new p t c) e gave in
      nothing_added most_bindings (IsUnder ids n trail p rest t) old (none_under ids n trail p rest new t cannot.gives) l
