use Rattle.std.proofs.Common.{◌≡◌, ◌∙◌, ℕ, ◌+◌, ◌<◌, ◌^◌, List, [], ◌∷◌, ◌++◌, Some, length, nat_eq, ap, arith, rules, subst}
use Rattle.std.specs.Prelude.{Option}
use Rattle.std.specs.List.{Contains}
use Rattle.std.specs.HashMap.{get}
use Rattle.rdf_model.specs.declared.term.Term.{Term}
use Rattle.triple_table.proofs.Found.{one_more}
use Rattle.triple_table.proofs.numbered.NumberedTerms.append.Goals as goal

pub invariant_of-self-2 : goal.invariant_of-self-2
invariant_of-self-2 c =
    let us = c.self.inside.terms.items in
    let os = c.self.inside.older.items in
    let same : length us ≡ length c.args.self.now = ap length c.self.view_is in
    let at : c.in_ok-number.number ≡ length us = (let e = c.in_ok-number.ensures.0 in omega arith) in
    let fits : length us + 1 < 2 ^ 32 = (let e = c.in_ok-number.ensures.1 in omega arith) in
    let terms : c.push-2.new.self.items ≡ us ++ c.args.term ∷ [] = search rules in
    let older : c.push.new.self.items ≡ os ++ c.in_ok-older.older ∷ [] = search rules in
    one_more us c.push-2.new.self.items c.args.term c.args.hash (λ (q : ℕ). get nat_eq c.self.inside.newest q) (λ (q : ℕ). get nat_eq c.insert.new.self q) os c.push.new.self.items
    c.self.invariant c.requires.hash fits (λ d. c.requires.new (subst (λ (ts : List Term). Contains ts c.args.term) c.self.view_is d))
    terms
    (older ∙ ap (λ (o : Option ℕ). os ++ o ∷ []) c.in_ok-older.ensures.old)
    (c.in_ok-older.ensures.updates.1 ∙ ap (λ (n : ℕ). Some n) at)
    c.in_ok-older.ensures.updates.2
