use Rattle.std.proofs.Common.{◌≡◌, ◌∙◌, List, [], ◌∷◌, ◌++◌, ap, map, refl, inl, inr}
use Rattle.std.proofs.lemmas.List.{map-append}
use Rattle.rdf_model.specs.declared.term.Term.{Term}
use Rattle.shape_syntax.proofs.Loops.{gave, gave_none}
use Rattle.shape_properties.specs.Params.{SaysParam, param_triple}
use Rattle.shape_properties.proofs.nodes.push_param.Goals as goal

pub returns-then-has_param-clause-said : goal.returns-then-has_param-clause-said
returns-then-has_param-clause-said c =
    let t = c.args.triple.now in
    gave (λ (x : Term × Term). SaysParam t x) c.args.params.now.items c.push.new.self.items (t.predicate, t.object)
    (rw (c.in_ok-clone.ensures.cases, c.in_ok-clone-2.ensures.cases) at c.in_ok-push.ensures.items) (c.has_param.ensures.0 c.if-has_param.true, refl) (λ x h. h.1)

pub returns-then-has_param-clause-by : goal.returns-then-has_param-clause-by
returns-then-has_param-clause-by c =
    let t = c.args.triple.now in
    let e : c.push.new.self.items ≡ c.args.params.now.items ++ (t.predicate, t.object) ∷ [] = rw (c.in_ok-clone.ensures.cases, c.in_ok-clone-2.ensures.cases) at c.in_ok-push.ensures.items in
    inr (ap (λ (xs : List (Term × Term)). map (param_triple t.subject) xs) e ∙ map-append (param_triple t.subject) c.args.params.now.items ((t.predicate, t.object) ∷ []))

pub returns-clause-said : goal.returns-clause-said
returns-clause-said c = gave_none (λ (x : Term × Term). SaysParam c.args.triple.now x) c.args.params.now.items (λ x h. let k = c.has_param.ensures.1 h.0 in cc)

pub returns-clause-by : goal.returns-clause-by
returns-clause-by c = inl refl
