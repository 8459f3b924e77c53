use Rattle.std.proofs.Common.{ℕ, List, subst}
use Rattle.component_rows.specs.Nodes.{AreNodes}
use Rattle.constraint_tests.proofs.case.is_sound.Goals as goal

pub returns : goal.returns
returns c = λ t.
    let terms = c.args.terms.now in
    let are = c.have_terms.ensures in
    let have = c.if-not-have_terms.false in
    record {
      numbering = c.are_distinct.ensures c.if-not-are_distinct.false;
      graph_numbered = c.are_numbered.ensures c.if-not-are_numbered.false;
      focus_named = are.focus have;
      parameter_named = are.parameter have;
      nodes = subst (λ (ns : List ℕ). AreNodes terms ns) c.deref.ensures.value (c.are_nodes.ensures c.if-not-are_nodes.false);
      others_named = are.others have;
      member_nodes = subst (λ (ns : List ℕ). AreNodes terms ns) c.deref-2.ensures.value (c.are_nodes-2.ensures t);
    }
