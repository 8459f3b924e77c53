-- Shapes that were bound one after another.
use Rattle.std.proofs.Common.{◌≡◌, ◌∙◌, ◌<◌, ℕ, suc, ◌+◌, List, [], ◌∷◌, ◌++◌, length, map, take, get_or, refl, ap, sym, subst}
use Rattle.std.specs.Prelude.{IfOk, Option, Some, None, MatchOption, Result, Ok}
use Rattle.std.specs.Arc.{arc_value}
use Rattle.std.specs.List.{All}
use Rattle.std.proofs.lemmas.List.{take_more}
use Rattle.std.proofs.lemmas.List.Elements.{All-cons, All-head, All-nil, All-tail}
use Rattle.regex.specs.declared.string.regex.Regex.{Regex}
use Rattle.rdf_model.specs.declared.term.Term.{Term}
use Rattle.rdf_model.specs.Numbers.{term_at}
use Rattle.shape_model.specs.Patterns.{IsPatternOf}
use Rattle.shape_ast.specs.declared.pattern.CompiledPattern.{CompiledPattern}
use Rattle.shape_ast.specs.declared.shape.Shape.{Shape}
use Rattle.shape_ast.specs.Readings.{AreBound, HoldsOfShape, ReadShape, read_optional, read_pattern, read_shape}
use Rattle.shape_ast.specs.Standing.{AreBuilt, HasFlagsText, IsBuilt}
use Rattle.shape_ast.specs.Binding.{AreBoundFrom, IsBoundPattern, IsBoundShape}

module _ (terms : List Term) (n : ℕ) where
  bound_push : (ss : List (Shape Term)) (bs : List (Shape ℕ)) (s : Shape Term) (b : Shape ℕ) → AreBoundFrom terms n ss bs → IsBoundShape terms n s b → AreBoundFrom terms n (ss ++ s ∷ []) (bs ++ b ∷ [])
  bound_push [] [] s b a h = (h, tt)
  bound_push [] (c ∷ bs) s b a h = absurd a
  bound_push (r ∷ ss) [] s b a h = absurd a
  bound_push (r ∷ ss) (c ∷ bs) s b a h = (a.0, bound_push ss bs s b a.1 h)

  pub bound_more : (ss : List (Shape Term)) (i : ℕ) (bs : List (Shape ℕ)) (s : Shape Term) (b : Shape ℕ) → i < length ss → s ≡ get_or ss i s → AreBoundFrom terms n (take i ss) bs → IsBoundShape terms n s b → AreBoundFrom terms n (take (i + 1) ss) (bs ++ b ∷ [])
  bound_more ss i bs s b lt is a h =
      subst (λ (xs : List (Shape Term)). AreBoundFrom terms n xs (bs ++ b ∷ [])) (ap (λ (x : Shape Term). take i ss ++ x ∷ []) is ∙ sym (take_more ss i s lt)) (bound_push (take i ss) bs s b a h)

  same_length : (ss : List (Shape Term)) (bs : List (Shape ℕ)) → AreBoundFrom terms n ss bs → length bs ≡ length ss
  same_length [] [] a = refl
  same_length [] (b ∷ bs) a = absurd a
  same_length (s ∷ ss) [] a = absurd a
  same_length (s ∷ ss) (b ∷ bs) a = ap suc (same_length ss bs a.1)

  in_range : (ss : List (Shape Term)) (bs : List (Shape ℕ)) → AreBoundFrom terms n ss bs → All (HoldsOfShape (λ k. k < length terms) n) bs
  in_range [] [] a = All-nil (HoldsOfShape (λ k. k < length terms) n)
  in_range [] (b ∷ bs) a = absurd a
  in_range (s ∷ ss) [] a = absurd a
  in_range (s ∷ ss) (b ∷ bs) a = All-cons (HoldsOfShape (λ k. k < length terms) n) b bs a.0.in_range (in_range ss bs a.1)

  pub all_same : (ss : List (Shape Term)) (bs : List (Shape ℕ)) → AreBoundFrom terms n ss bs → map (read_shape (term_at terms)) bs ≡ map (read_shape (λ (t : Term). t)) ss
  all_same [] [] a = refl
  all_same [] (b ∷ bs) a = absurd a
  all_same (s ∷ ss) [] a = absurd a
  all_same (s ∷ ss) (b ∷ bs) a = λ i. a.0.same i ∷ all_same ss bs a.1 i

  -- the pattern was built of the same text under the same flags
  pattern_built : (f : Option Term) (p : Option (CompiledPattern Term)) (b : Option (CompiledPattern ℕ)) → IsBoundPattern terms p b
      → MatchOption p (Unit {0}) (λ q. (text : List ℕ) × HasFlagsText f text × IsPatternOf q.parameter text (arc_value q.regex))
      → MatchOption b (Unit {0}) (λ q. (text : List ℕ) × HasFlagsText f text × IsPatternOf (term_at terms q.parameter) text (arc_value q.regex))
  pattern_built f None None e h = tt
  pattern_built f None (Some b) e h = absurd e
  pattern_built f (Some p) None e h = absurd e
  pattern_built f (Some p) (Some b) e h = (
    h.0,
    h.1,
    subst (λ (q : Term). IsPatternOf q h.0 (arc_value b.regex)) (sym e.1) (subst (λ (r : Regex). IsPatternOf p.parameter h.0 r) (sym e.2) h.2),
  )

  built : (s : Shape Term) (b : Shape ℕ) → IsBoundShape terms n s b → IsBuilt (λ (t : Term). t) s → IsBuilt (term_at terms) b
  built s b e h =
      pattern_built (read_optional (term_at terms) b.flags) s.pattern b.pattern e.pattern
      (subst (λ (f : Option Term). MatchOption s.pattern (Unit {0}) (λ q. (text : List ℕ) × HasFlagsText f text × IsPatternOf q.parameter text (arc_value q.regex))) (sym (ap (λ (r : ReadShape). r.flags) e.same)) h)

  pub all_built : (ss : List (Shape Term)) (bs : List (Shape ℕ)) → AreBoundFrom terms n ss bs → AreBuilt (λ (t : Term). t) ss → AreBuilt (term_at terms) bs
  all_built [] [] a h = All-nil (IsBuilt (term_at terms))
  all_built [] (b ∷ bs) a h = absurd a
  all_built (s ∷ ss) [] a h = absurd a
  all_built (s ∷ ss) (b ∷ bs) a h = All-cons (IsBuilt (term_at terms)) b bs (built s b a.0 (All-head (IsBuilt (λ (t : Term). t)) s ss h)) (all_built ss bs a.1 (All-tail (IsBuilt (λ (t : Term). t)) s ss h))

pub are_bound : (terms : List Term) (ss : List (Shape Term)) (bs : List (Shape ℕ)) → AreBoundFrom terms (length ss) ss bs → AreBound terms bs
are_bound terms ss bs a = subst (λ (k : ℕ). All (HoldsOfShape (λ m. m < length terms) k) bs) (sym (same_length terms (length ss) ss bs a)) (in_range terms (length ss) ss bs a)

-- what holds of the value of an answer holds of it once it is taken out
pub ok_of : {A E : Type 0} → (r : Result A E) (x : A) (P : A → Type 0) → r ≡ Ok x → IfOk r P → P x
ok_of r x P e h = subst (λ q. IfOk q P) e h

pub pattern_range : (terms : List Term) (p : Option (CompiledPattern Term)) (b : Option (CompiledPattern ℕ)) → IsBoundPattern terms p b → MatchOption b (Unit {0}) (λ q. q.parameter < length terms)
pattern_range terms None None e = tt
pattern_range terms None (Some b) e = absurd e
pattern_range terms (Some p) None e = absurd e
pattern_range terms (Some p) (Some b) e = e.0

pub pattern_same : (terms : List Term) (p : Option (CompiledPattern Term)) (b : Option (CompiledPattern ℕ)) → IsBoundPattern terms p b → read_pattern (term_at terms) b ≡ read_pattern (λ (t : Term). t) p
pattern_same terms None None e = refl
pattern_same terms None (Some b) e = absurd e
pattern_same terms (Some p) None e = absurd e
pattern_same terms (Some p) (Some b) e = ap Some e.1
