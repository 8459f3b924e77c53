use Rattle.std.proofs.Common.{List, refl, sym, subst}
use Rattle.collections.specs.Listings.{IsListing}
use Rattle.rdf_model.specs.declared.term.Term.{Term}
use Rattle.rdf_model.specs.Terms.{term_cmp}
use Rattle.shape_references.specs.Siblings.{IsQualifiedUnder}
use Rattle.shape_sizes.proofs.stand_ins.stand_in.Goals as goal

pub returns : goal.returns
returns c = (c.in_ok-name_at.ensures, refl, subst (λ (xs : List Term). IsListing term_cmp (IsQualifiedUnder c.args.graph.now c.args.parent.now) xs) (sym c.from_vec.ensures) c.in_ok-to.ensures)
