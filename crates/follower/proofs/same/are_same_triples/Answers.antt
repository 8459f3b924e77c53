use Rattle.std.proofs.Common.{◌≡◌, ◌∙◌, true, List, sym, subst}
use lib.Pointwise.{pointwise}
use Rattle.std.specs.Ordering.{eq_by_cmp}
use Rattle.rdf_model.specs.declared.triple.Triple.{Triple}
use Rattle.rdf_model.specs.Terms.{triple_cmp}
use Rattle.follower.proofs.Tests.{same_triples, triples_themselves}
use Rattle.follower.proofs.same.are_same_triples.Goals as goal

pub returns : goal.returns
returns c = (
  λ same. same_triples c.args.first.now c.args.second.now (sym c.eq.ensures ∙ same),
  λ e. c.eq.ensures ∙ subst (λ (ts : List Triple). pointwise (eq_by_cmp triple_cmp) c.args.first.now ts ≡ true) e (triples_themselves c.args.first.now),
)
