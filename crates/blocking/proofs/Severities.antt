-- Which severities block, where not all do.
use Rattle.std.proofs.Common.{◌≡◌, ◌∙◌, Bool, true, false, not, ◌||◌, codes, refl, sym, ap, subst, inl, inr}
use Rattle.std.specs.Prelude.{◌⊎◌, ◌↔◌, IsTrue, List, Option, Some, None}
use Rattle.std.specs.List.{Contains}
use Rattle.std.specs.Option.{unwrap_or}
use Rattle.rdf_model.specs.declared.term.Term.{Term}
use Rattle.rdf_model.specs.declared.triple.Triple.{Triple}
use Rattle.rdf_model.specs.Matching.{same_term}
use Rattle.rdf_model.proofs.SameTerms.{equal_same, same_equal}
use Rattle.shape_model.specs.Declarations.{severity_of}
use Rattle.shape_model.specs.ShapeSyntax.{IsShape}
use Rattle.shape_model.specs.Vocabulary.{sh}
use Rattle.shape_ast.specs.declared.shape.Shape.{Shape}
use Rattle.shape_ast.specs.Readings.{ReadShape, read_optional, read_shape, read_shapes}
use Rattle.shape_ast.specs.Standing.{StandFor}
use Rattle.change_laws.proofs.Checked.{mapped_from, mapped_to}
use Rattle.store_model.specs.declared.event.BlockMode.TheVariants.{Violation}
use Rattle.store_model.specs.Blocking.{severity_blocks}

-- sh:Violation blocks
pub default_blocks : severity_blocks Violation (sh (codes "Violation")) ≡ true
unfolding sh
default_blocks = refl

weak : (t : Term) → (same_term t (sh (codes "Warning")) || same_term t (sh (codes "Info"))) ≡ true → (t ≡ sh (codes "Warning")) ⊎ (t ≡ sh (codes "Info"))
weak t h = elim (same_term t (sh (codes "Warning"))) as (λ b. same_term t (sh (codes "Warning")) ≡ b → (b || same_term t (sh (codes "Info"))) ≡ true → (t ≡ sh (codes "Warning")) ⊎ (t ≡ sh (codes "Info"))) [
  | true ↦ λ e k. inl (same_equal t (sh (codes "Warning")) e)
  | false ↦ λ e k. inr (same_equal t (sh (codes "Info")) k)
] refl h

or_first : (a b : Bool) → a ≡ true → (a || b) ≡ true
or_first true b h = refl
or_first false b h = cc

or_last : (a b : Bool) → b ≡ true → (a || b) ≡ true
or_last true b h = refl
or_last false b h = h

to_weak : (t : Term) → (t ≡ sh (codes "Warning")) ⊎ (t ≡ sh (codes "Info")) → (same_term t (sh (codes "Warning")) || same_term t (sh (codes "Info"))) ≡ true
to_weak t h = elim h [
  | inl e ↦ or_first (same_term t (sh (codes "Warning"))) (same_term t (sh (codes "Info"))) (equal_same t (sh (codes "Warning")) e)
  | inr e ↦ or_last (same_term t (sh (codes "Warning"))) (same_term t (sh (codes "Info"))) (equal_same t (sh (codes "Info")) e)
]

same_bool : (a b : Bool) → ((a ≡ true) ↔ (b ≡ true)) → a ≡ b
same_bool true b h = sym (h.0 refl)
same_bool false true h = h.1 refl
same_bool false false h = refl

-- a test for the two others tells
pub told_blocks : (t : Term) (b : Bool) → (IsTrue b ↔ ((t ≡ sh (codes "Warning")) ⊎ (t ≡ sh (codes "Info")))) → not b ≡ severity_blocks Violation t
told_blocks t b h = ap not (same_bool b (same_term t (sh (codes "Warning")) || same_term t (sh (codes "Info"))) (λ e. to_weak t (h.0 e), λ e. h.1 (weak t e)))

-- read as it is
pub read_same : (o : Option Term) → read_optional (λ (t : Term). t) o ≡ o
read_same None = refl
read_same (Some t) = refl

-- terms that a test told apart are different
pub different : (a b : Term) (told : Bool) → told ≡ same_term a b → told ≡ false → a ≡ b → ⊥
different a b told e h same = let k = equal_same a b same in cc (e, h, k)

-- and those that it didn't are one
pub alike : (a b : Term) (told : Bool) → told ≡ same_term a b → told ≡ true → a ≡ b
alike a b told e h = same_equal a b (sym e ∙ h)

abbrev as_read : Shape Term → ReadShape
as_read c = read_shape (λ (t : Term). t) c

-- what the compiled shape of a node declares is the severity of its results
pub said_at : (shapes items : List (Shape Term)) (s : List Triple) → StandFor (read_shapes shapes) s → items ≡ shapes → (c : Shape Term) → Contains items c → (n : Term) → c.node ≡ n
    → unwrap_or c.severity (sh (codes "Violation")) ≡ severity_of s n
said_at shapes items s stand e c i n at =
    let there : Contains shapes c = subst (λ (cs : List (Shape Term)). Contains cs c) e i in
    let said = stand.severity (as_read c) (mapped_to as_read shapes c there) in
    ap (λ (o : Option Term). unwrap_or o (sh (codes "Violation"))) (sym (read_same c.severity)) ∙ said ∙ ap (λ (t : Term). severity_of s t) at

-- and each shape is compiled
pub compiled : (shapes items : List (Shape Term)) (s : List Triple) → StandFor (read_shapes shapes) s → items ≡ shapes → (n : Term) → IsShape s n → ((c : Shape Term) → Contains items c → c.node ≡ n → ⊥) → ⊥
compiled shapes items s stand e n is none =
    let k = stand.all n is in
    let m = mapped_from as_read shapes k.0 k.1 in
    none m.0 (subst (λ (cs : List (Shape Term)). Contains cs m.0) (sym e) m.1) (ap (λ (r : ReadShape). r.node) m.2 ∙ k.2)
