use Rattle.std.proofs.Common.{ℕ, List, [], ◌∷◌, IsTrue, sym, subst, inl, inr}
use Rattle.std.specs.Prelude.{◌↔◌}
use Rattle.std.specs.List.{Contains}
use Rattle.std.proofs.lemmas.List.Elements.{Contains-append_left}
use Rattle.rdf_model.specs.declared.look.Look.{Look}
use Rattle.path_eval.proofs.Closure.{no_start}
use Rattle.target_nodes.proofs.testing.finds.Goals as goal

pub returns-clause-answer : goal.returns-clause-answer
returns-clause-answer g c =
    let any = subst (λ (l : List ℕ). IsTrue c.has_any.result ↔ ((n : ℕ) × Contains l n)) c.deref.ensures.value c.has_any.ensures in
    let found = c.in_ok-add_found.ensures.found in (
      λ t. let k = any.0 t in elim ((found k.0).0 k.1) [ inl d ↦ absurd (no_start k.0 (subst (λ (l : List ℕ). Contains l k.0) c.new-found.ensures.items d)) | inr f ↦ (k.0, f) ],
      λ f. any.1 (f.0, (found f.0).1 (inr f.1)),
    )

pub returns-clause-kept : goal.returns-clause-kept
returns-clause-kept g c = λ look h. subst (λ (l : List (Look ℕ)). Contains l look) (sym c.in_ok-add.ensures.ok) (Contains-append_left c.args.footprint.now (c.args.look ∷ []) look h)
