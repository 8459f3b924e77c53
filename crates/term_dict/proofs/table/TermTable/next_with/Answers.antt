use Rattle.std.proofs.Common.{List, length, subst, rules}
use Rattle.std.proofs.lemmas.Fn.{always_returns_same}
use Rattle.rdf_model.specs.declared.term.Term.{Term}
use Rattle.term_dict.specs.Entries.{entry_cmp}
use Rattle.term_dict.specs.Orders.{entry_total}
use Rattle.term_dict.specs.Tables.{IsNext, NoneHashed}
use Rattle.term_dict.proofs.Places.{next_there, none_hashed, other_hash, place_down, rising, to_place}
use Rattle.term_dict.proofs.table.TermTable.next_with.Goals as goal

pub returns-then-entry-hash : goal.returns-then-entry-hash
returns-then-entry-hash c =
    let found = c.in-Some.ensures (to_place c.args.hash c.args.from) (always_returns_same _ _ _ (λ a r f k. search rules)) (rising entry_cmp entry_total (to_place c.args.hash c.args.from) (place_down c.args.hash c.args.from) c.self.inside.by_hash c.self.invariant.ascending) in
    subst (λ (ts : List Term). IsNext ts c.args.hash c.args.from c.in-Some.entry.now.number) c.self.view_is (next_there c.args.hash c.args.from c.self.inside.terms c.self.inside.by_hash c.self.invariant c.in-Some.entry.now found c.if-entry-hash.true)

pub returns-else-entry-hash : goal.returns-else-entry-hash
returns-else-entry-hash c =
    let found = c.in-Some.ensures (to_place c.args.hash c.args.from) (always_returns_same _ _ _ (λ a r f k. search rules)) (rising entry_cmp entry_total (to_place c.args.hash c.args.from) (place_down c.args.hash c.args.from) c.self.inside.by_hash c.self.invariant.ascending) in
    subst (λ (ts : List Term). NoneHashed ts c.args.hash c.args.from (length ts)) c.self.view_is (other_hash c.args.hash c.args.from c.self.inside.terms c.self.inside.by_hash c.self.invariant c.in-Some.entry.now found c.if-entry-hash.false)

pub returns-in-None : goal.returns-in-None
returns-in-None c =
    let none = c.in-None.ensures (to_place c.args.hash c.args.from) (always_returns_same _ _ _ (λ a r f k. search rules)) (rising entry_cmp entry_total (to_place c.args.hash c.args.from) (place_down c.args.hash c.args.from) c.self.inside.by_hash c.self.invariant.ascending) in
    subst (λ (ts : List Term). NoneHashed ts c.args.hash c.args.from (length ts)) c.self.view_is (none_hashed c.args.hash c.args.from c.self.inside.terms c.self.inside.by_hash c.self.invariant none)
