use Rattle.std.proofs.Common.{◌≡◌, ◌∙◌, ℕ, ◌<◌, List, false, length, get_or, sym, arith, below_more}
use Rattle.std.proofs.lemmas.List.{get_or_default}
use Rattle.rdf_model.specs.declared.term.Term.{Term}
use Rattle.rdf_model.specs.declared.term.Term.TheVariants.{Blank}
use Rattle.rdf_model.specs.Matching.{same_term}
use Rattle.rdf_model.specs.Numbers.{term_at}
use Rattle.rdf_model.proofs.SameTerms.{equal_same}
use Rattle.constraint_tests.proofs.checks.is_new.Goals as goal

-- what was read at a place is the term there
read : (terms : List Term) (n : ℕ) (t : Term) → n < length terms → t ≡ get_or terms n t → term_at terms n ≡ t
read terms n t lt e = get_or_default terms n (Blank 0 0) t lt ∙ sym e

differ : (a b : Term) → same_term a b ≡ false → a ≡ b → ⊥
differ a b e same = let k = equal_same a b same in cc (e, k)

pub loop-other-preserved : goal.loop-other-preserved
loop-other-preserved c =
    let terms = c.args.terms.now in
    let other : c.loop-other.other < length terms = omega arith in
    below_more (λ k. term_at terms k ≡ term_at terms c.args.place → ⊥) c.loop-other.other c.loop-other.invariant
    (λ e. differ c.index-terms-other.result c.index-terms-place.result (sym c.eq.ensures ∙ c.if-eq.false)
    (sym (read terms c.loop-other.other c.index-terms-other.result other c.index-terms-other.is) ∙ e ∙ read terms c.args.place c.index-terms-place.result c.requires c.index-terms-place.is))
