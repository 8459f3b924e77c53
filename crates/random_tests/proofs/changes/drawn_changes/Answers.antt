use Rattle.std.proofs.Common.{List, [], subst, sym}
use Rattle.rdf_model.specs.declared.triple.Triple.{Triple}
use Rattle.rdf_model.specs.declared.ids.Ids.{Ids}
use Rattle.rdf_model.specs.Numbers.{AreNumbered}
use Rattle.parallel_validate.specs.Named.{IsNamedTriple}
use Rattle.random_tests.proofs.changes.drawn_changes.Goals as goal

pub loop-triple-init : goal.loop-triple-init
loop-triple-init c = record {
  before = subst (λ (ids : List Ids). AreNumbered c.args.names.now ids) (sym c.new-before.ensures) tt;
  later = subst (λ (ids : List Ids). AreNumbered c.args.names.now ids) (sym c.new-later.ensures) tt;
  changed = subst (λ (ids : List Ids). AreNumbered c.args.names.now ids) (sym c.new-changed.ensures) tt;
}

pub number_triple-ids-requires : goal.number_triple-ids-requires
number_triple-ids-requires c = subst (λ (t : Triple). IsNamedTriple c.args.names.now t) (sym c.triple-item.is) (c.requires c.loop-triple.triple-index c.triple-item.result c.loop-triple-test.true)

pub loop-triple-preserved : goal.loop-triple-preserved
loop-triple-preserved c =
    let terms = c.args.names.now in
    let bound = c.number_triple-ids.ensures.bound in
    record {
      before = c.in_ok-push_if.ensures terms bound c.loop-triple.invariant.before;
      later = c.in_ok-push_if-2.ensures terms bound c.loop-triple.invariant.later;
      changed = c.in_ok-push_if-3.ensures terms bound c.loop-triple.invariant.changed;
    }
