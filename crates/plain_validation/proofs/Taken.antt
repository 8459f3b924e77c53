-- The patterns that compiled shapes have are those of their shapes graph.
use Rattle.std.proofs.Common.{◌≡◌, ◌∙◌, ◌+◌, ◌<◌, ℕ, List, [], ◌∷◌, ◌++◌, Option, Some, None, length, take, get_or, refl, sym, ap, arith, subst, inl, inr}
use Rattle.std.specs.Prelude.{MatchOption}
use Rattle.std.specs.Arc.{arc_value}
use Rattle.std.specs.List.{All, Contains}
use Rattle.std.proofs.lemmas.List.Elements.{All-contains, Contains-append_cases, Contains-append_left, Contains-append_right}
use Rattle.std.proofs.lemmas.Option.{same_Some}
use Rattle.collections.proofs.Members.{has_cases, has_head, has_tail}
use Rattle.rdf_model.specs.declared.term.Term.{Term}
use Rattle.rdf_model.specs.declared.triple.Triple.{Triple}
use Rattle.regex.specs.declared.string.regex.Regex.{Regex}
use Rattle.shape_model.specs.Patterns.{IsPatternOf}
use Rattle.shape_model.specs.Readings.{HasFlags, reading}
use Rattle.shape_model.specs.ShapeSyntax.{HasProperty, IsShape}
use Rattle.shape_model.specs.Vocabulary.{ShFlags, ShPattern}
use Rattle.shape_ast.specs.Readings.{ReadShape, read_optional, read_pattern, read_shape, read_shapes}
use Rattle.shape_ast.specs.Standing.{AreCompiled, HasFlagsText, IsBuilt as IsCompiled, SameShape, shape_reading}
use Rattle.shape_ast.specs.declared.pattern.CompiledPattern.{CompiledPattern}
use Rattle.shape_ast.specs.declared.shape.Shape.{Shape}
use Rattle.shape_syntax.proofs.Scans.{cases_more, read_in}
use Rattle.plain_values.specs.Built.{ArePatternsOf, IsBuilt}
use Rattle.plain_values.specs.declared.built.BuiltPattern.{BuiltPattern}
use Rattle.plain_validation.specs.Patterns.{Adds, AreTaken, IsTaken, IsTakenOf}

never : {X : Type 0} → (x : X) → None ≡ Some x → ⊥
never x e = cc

-- the pattern of a shape is added
pub adds_one : (s : Shape Term) (q : CompiledPattern Term) (p : BuiltPattern) (old new : List BuiltPattern) → s.pattern ≡ Some q → IsTakenOf q s.flags p → new ≡ old ++ p ∷ [] → Adds s old new
adds_one s q p old new has taken e = subst (λ (o : Option (CompiledPattern Term)). MatchOption o (new ≡ old) (λ k. (x : BuiltPattern) × IsTakenOf k s.flags x × (new ≡ old ++ x ∷ []))) (sym has) (p, taken, e)

-- the steps of a walk over the shapes
module _ (all : List (Shape Term)) where
  pub none_taken : AreTaken all (take 0 all) []
  none_taken = record { each = (λ p c. absurd (omega (arith, c.1))); one = (λ s q c e. absurd (omega (arith, c.1))) }

  taken_more : (i : ℕ) (s : Shape Term) (q : CompiledPattern Term) (patterns new : List BuiltPattern) (p : BuiltPattern) → i < length all → s ≡ get_or all i s → s.pattern ≡ Some q → IsTakenOf q s.flags p → new ≡ patterns ++ p ∷ []
      → AreTaken all (take i all) patterns → AreTaken all (take (i + 1) all) new
  taken_more i s q patterns new p l is has taken e h =
      subst (λ (ps : List BuiltPattern). AreTaken all (take (i + 1) all) ps) (sym e) (record {
        each = λ x c. elim (Contains-append_cases patterns (p ∷ []) x c) [
          | inl k ↦ h.each x k
          | inr k ↦ elim (has_cases p [] x k) [
            | inl same ↦ (s, read_in all i s l is, subst (λ (y : BuiltPattern). IsTaken s y) same (q, has, taken))
            | inr k ↦ absurd (omega (arith, k.1))
          ]
        ];
        one = λ x r c e_x. elim (cases_more all i s l is x c) [
          | inl k ↦ (let w = h.one x r k e_x in (w.0, Contains-append_left patterns (p ∷ []) w.0 w.1, w.2))
          | inr same ↦ (p, Contains-append_right patterns (p ∷ []) p (has_head p []), subst (λ (y : Shape Term). IsTaken y p) same (q, has, taken))
        ];
      })

  taken_skip : (i : ℕ) (s : Shape Term) (patterns new : List BuiltPattern) → i < length all → s ≡ get_or all i s → s.pattern ≡ None → new ≡ patterns → AreTaken all (take i all) patterns → AreTaken all (take (i + 1) all) new
  taken_skip i s patterns new l is has e h = subst (λ (ps : List BuiltPattern). AreTaken all (take (i + 1) all) ps) (sym e) (record {
    each = h.each;
    one = λ x r c e_x. elim (cases_more all i s l is x c) [
      | inl k ↦ h.one x r k e_x
      | inr same ↦ absurd (never r (sym has ∙ ap (λ (y : Shape Term). y.pattern) same ∙ e_x))
    ];
  })

  -- a step
  pub taken_on : (i : ℕ) (s : Shape Term) (patterns new : List BuiltPattern) → i < length all → s ≡ get_or all i s → Adds s patterns new → AreTaken all (take i all) patterns → AreTaken all (take (i + 1) all) new
  taken_on i s patterns new l is adds h =
      elim s.pattern as (λ o. s.pattern ≡ o → MatchOption o (new ≡ patterns) (λ q. (p : BuiltPattern) × IsTakenOf q s.flags p × (new ≡ patterns ++ p ∷ [])) → AreTaken all (take (i + 1) all) new) [
        | None ↦ (λ has e. taken_skip i s patterns new l is has e h)
        | Some q ↦ (λ has a. taken_more i s q patterns new a.0 l is has a.1 a.2 h)
      ] refl adds

-- terms are read as they are
read_itself : (o : Option Term) → read_optional (λ (t : Term). t) o ≡ o
read_itself None = refl
read_itself (Some t) = refl

read_back : (o : Option (CompiledPattern Term)) (q : Term) → read_pattern (λ (t : Term). t) o ≡ Some q → (k : CompiledPattern Term) × (o ≡ Some k) × (k.parameter ≡ q)
read_back None q e = absurd (never q e)
read_back (Some k) q e = (k, refl, same_Some k.parameter q e)

no_flags : (o : Option Term) (flags : List ℕ) → ((f : Term) → o ≡ Some f → ⊥) → flags ≡ [] → HasFlagsText o flags
no_flags None flags none e = e
no_flags (Some f) flags none e = absurd (none f refl)

-- a shape that is read
was_read : (shapes : List (Shape Term)) (c : ReadShape) → Contains (read_shapes shapes) c → (d : Shape Term) × Contains shapes d × (read_shape (λ (t : Term). t) d ≡ c)
was_read [] c h = absurd (omega (arith, h.1))
was_read (d ∷ ds) c h = elim (has_cases (read_shape (λ (t : Term). t) d) (read_shapes ds) c h) [
  | inl e ↦ (d, has_head d ds, e)
  | inr k ↦ (let w = was_read ds c k in (w.0, has_tail d ds w.0 w.1, w.2))
]

module _ (s : List Triple) (shapes : List (Shape Term)) (patterns : List BuiltPattern) (are : AreCompiled shapes s) (taken : AreTaken shapes shapes patterns) where
  built_of : (p : BuiltPattern) (d : Shape Term) (q : CompiledPattern Term) → Contains shapes d → d.pattern ≡ Some q → IsTakenOf q d.flags p → IsBuilt p
  built_of p d q c e t =
      let all = All-contains (IsCompiled (λ (t : Term). t)) shapes d are.built c in
      let at = subst (λ (o : Option (CompiledPattern Term)). MatchOption o (Unit {0}) (λ k. (text : List ℕ) × HasFlagsText (read_optional (λ (t : Term). t) d.flags) text × IsPatternOf k.parameter text (arc_value k.regex))) e all in
      let text : p.flags ≡ at.0 = t.flags_text at.0 (subst (λ (o : Option Term). HasFlagsText o at.0) (read_itself d.flags) at.1) in
      subst (λ (flags : List ℕ). IsPatternOf p.parameter flags (arc_value p.regex)) (sym text) (subst (λ (x : Term). IsPatternOf x at.0 (arc_value p.regex)) (sym t.parameter) (subst (λ (r : Regex). IsPatternOf q.parameter at.0 r) (sym t.regex) at.2))

  module _ (shape q : Term) (flags : List ℕ) (has : HasProperty s shape ShPattern q) (under : HasFlags (reading s shape) flags) where
    is_shape : IsShape s shape
    is_shape = inr (inr (inl (ShPattern, q, refl, has)))

    compiled : (c : ReadShape) × Contains (read_shapes shapes) c × (c.node ≡ shape)
    compiled = are.stand.all shape is_shape

    same : SameShape (reading s shape) (shape_reading (read_shapes shapes) compiled.0)
    same = subst (λ (n : Term). SameShape (reading s n) (shape_reading (read_shapes shapes) compiled.0)) compiled.2 (are.stand.each compiled.0 compiled.1)

    read : (d : Shape Term) × Contains shapes d × (read_shape (λ (t : Term). t) d ≡ compiled.0)
    read = was_read shapes compiled.0 compiled.1

    pattern : (k : CompiledPattern Term) × (read.0.pattern ≡ Some k) × (k.parameter ≡ q)
    pattern = read_back read.0.pattern q (ap (λ (c : ReadShape). c.pattern) read.2 ∙ (same.has ShPattern q tt).0 has)

    own_flags : (f : Term) → compiled.0.flags ≡ Some f → read.0.flags ≡ Some f
    own_flags f e = sym (read_itself read.0.flags) ∙ ap (λ (c : ReadShape). c.flags) read.2 ∙ e

    flags_of : (f : Term) → read.0.flags ≡ Some f → compiled.0.flags ≡ Some f
    flags_of f e = sym (ap (λ (c : ReadShape). c.flags) read.2) ∙ read_itself read.0.flags ∙ e

    flags_text : HasFlagsText read.0.flags flags
    flags_text = elim under [
      | inl w ↦ subst (λ (o : Option Term). HasFlagsText o flags) (sym (own_flags w.0 ((same.has ShFlags w.0 tt).0 w.1))) w.2
      | inr w ↦ no_flags read.0.flags flags (λ f e. w.0 f ((same.has ShFlags f tt).1 (flags_of f e))) w.1
    ]

    found : (p : BuiltPattern) × Contains patterns p × (p.parameter ≡ q) × (p.flags ≡ flags)
    found =
        let w = taken.one read.0 pattern.0 read.1 pattern.1 in
        let t = w.2.2 in
        let k : w.2.0 ≡ pattern.0 = same_Some w.2.0 pattern.0 (sym w.2.1 ∙ pattern.1) in
        (w.0, w.1, t.parameter ∙ ap (λ (x : CompiledPattern Term). x.parameter) k ∙ pattern.2, t.flags_text flags flags_text)

  pub are_patterns : ArePatternsOf s patterns
  are_patterns = record {
    built = λ p c. (let w = taken.each p c in built_of p w.0 w.2.0 w.1 w.2.1 w.2.2);
    each = λ shape q flags has under. found shape q flags has under;
  }
