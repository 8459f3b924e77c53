use Rattle.std.proofs.Common.{List, sym, subst, inl, inr}
use Rattle.std.specs.List.{Contains}
use Rattle.rdf_model.specs.declared.term.Term.{Term}
use Rattle.shape_syntax.specs.Gathering.{Gives}
use Rattle.shape_syntax.proofs.Loops.{gave_both}
use Rattle.shape_references.specs.Bundles.{IsInto, IsOutOf}
use Rattle.shape_references.proofs.edges.push_edges.Goals as goal

pub push_into-requires-clause-from : goal.push_into-requires-clause-from
push_into-requires-clause-from c = subst (λ (xs : List Term). (n : Term) → Contains xs n → Contains c.args.nodes.now n) (sym c.as_slice.ensures) (λ n k. c.requires.bundle n (inl k))

pub push_out_of-requires-clause-to : goal.push_out_of-requires-clause-to
push_out_of-requires-clause-to c = subst (λ (xs : List Term). (n : Term) → Contains xs n → Contains c.args.nodes.now n) (sym c.as_slice-2.ensures) (λ n k. c.requires.bundle n (inr k))

pub returns : goal.returns
returns c = gave_both (Gives (IsInto c.args.nodes.now c.args.place) c.args.bundle.now.from) (Gives (IsOutOf c.args.nodes.now c.args.place) c.args.bundle.now.to) c.args.edges.now c.push_into.new.edges c.push_out_of.new.edges
    (rw c.as_slice.ensures at c.in_ok-push_into.ensures) (rw c.as_slice-2.ensures at c.in_ok-push_out_of.ensures)
