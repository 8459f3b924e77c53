use Rattle.std.proofs.Common.{◌≡◌, ◌∙◌, ◌<◌, ◌≤◌, ◌^◌, ℕ, List, length, ap, sym, subst, arith}
use Rattle.std.specs.List.{AllByRecursion}
use Rattle.rdf_model.specs.declared.term.Term.{Term}
use Rattle.term_dict.specs.Names.{with_terms}
use Rattle.term_dict.proofs.Growing.{longer, numbers_below}
use Rattle.term_dict.proofs.dict.Dict.name_all.Goals as goal

pub overflow_sub-count : goal.overflow_sub-count
overflow_sub-count c =
    let is : c.in_ok-table.table ≡ with_terms c.self.inside.table c.args.terms.now = c.in_ok-table.ensures.table ∙ ap (λ (us : List Term). with_terms us c.args.terms.now) c.in_ok-share.ensures in
    let more = longer c.self.inside.table c.args.terms.now in
    let same : length c.in_ok-table.table ≡ length (with_terms c.self.inside.table c.args.terms.now) = ap length is in
    let two = c.self.invariant.0 in
    let count = c.len-count.ensures in
    omega arith

pub narrowed-requires : goal.narrowed-requires
narrowed-requires c =
    let is : c.in_ok-table.table ≡ with_terms c.self.inside.table c.args.terms.now = c.in_ok-table.ensures.table ∙ ap (λ (us : List Term). with_terms us c.args.terms.now) c.in_ok-share.ensures in
    let more = longer c.self.inside.table c.args.terms.now in
    let same : length c.in_ok-table.table ≡ length (with_terms c.self.inside.table c.args.terms.now) = ap length is in
    let two = c.self.invariant.0 in
    let count = c.len-count.ensures in
    let few = c.if-count-self.false in
    let within = c.self.invariant.2 in
    let below : length c.in_ok-table.table ≤ 2 ^ 32 = omega arith in
    subst (λ (ns : List ℕ). AllByRecursion (λ (n : ℕ). n < 2 ^ 32) ns) (sym c.deref.ensures.value) (numbers_below c.in_ok-table.table c.args.terms.now c.in_ok-table.numbers.items (2 ^ 32) below c.in_ok-table.ensures.numbers)

pub invariant_of-self : goal.invariant_of-self
invariant_of-self c =
    let is : c.in_ok-table.table ≡ with_terms c.self.inside.table c.args.terms.now = c.in_ok-table.ensures.table ∙ ap (λ (us : List Term). with_terms us c.args.terms.now) c.in_ok-share.ensures in
    let more = longer c.self.inside.table c.args.terms.now in
    let same : length c.in_ok-table.table ≡ length (with_terms c.self.inside.table c.args.terms.now) = ap length is in
    let two = c.self.invariant.0 in
    let count = c.len-count.ensures in
    let few = c.if-count-self.false in
    (omega arith, omega arith, c.self.invariant.2)
