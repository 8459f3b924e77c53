use Rattle.std.proofs.Common.{ℕ, sym, subst}
use Rattle.std.specs.Ordering.{nat_cmp}
use Rattle.collections.specs.Listings.{IsListing}
use Rattle.rdf_model.specs.declared.look.Look.{Look}
use Rattle.rdf_model.specs.Numbers.{IsFound}
use Rattle.triple_index.proofs.Looked.{out_listed, in_listed}
use Rattle.triple_index.proofs.find.IndexTriples.find.Goals as goal

pub returns-in_ok-thirds_with-in-Out : goal.returns-in_ok-thirds_with-in-Out
returns-in_ok-thirds_with-in-Out c = subst (λ (l : Look ℕ). IsListing nat_cmp (IsFound l c.args.self.now) c.in_ok-thirds_with-in-Out.field-0.items) (sym c.in-Out.is)
    (out_listed c.self.inside.subjects c.self.inside.predicates c.self.inside.objects c.self.invariant c.args.self.now c.self.view_is c.in-Out.subject c.in-Out.predicate c.in_ok-thirds_with-in-Out.field-0.items c.in_ok-thirds_with-in-Out.ensures)

pub returns-in_ok-thirds_with-in-In : goal.returns-in_ok-thirds_with-in-In
returns-in_ok-thirds_with-in-In c = subst (λ (l : Look ℕ). IsListing nat_cmp (IsFound l c.args.self.now) c.in_ok-thirds_with-in-In.field-0.items) (sym c.in-In.is)
    (in_listed c.self.inside.subjects c.self.inside.predicates c.self.inside.objects c.self.invariant c.args.self.now c.self.view_is c.in-In.predicate c.in-In.object c.in_ok-thirds_with-in-In.field-0.items c.in_ok-thirds_with-in-In.ensures)
