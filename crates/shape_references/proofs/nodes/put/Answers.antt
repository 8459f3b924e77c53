use Rattle.std.proofs.Common.{◌∙◌, List, sym, ap, subst}
use Rattle.std.specs.BTreeSet.{insert_key}
use Rattle.rdf_model.specs.declared.term.Term.{Term}
use Rattle.rdf_model.specs.Terms.{term_cmp}
use Rattle.shape_syntax.specs.PathSteps.{Adds}
use Rattle.shape_syntax.proofs.Keys.{key_added}
use Rattle.shape_references.proofs.nodes.put.Goals as goal

pub returns : goal.returns
returns c =
    let old = c.args.nodes.now.keys in
    subst (λ (keys : List Term). Adds old c.args.node.now keys) (sym (c.in_ok-insert.ensures.keys ∙ ap (insert_key term_cmp old) c.in_ok-clone.ensures.cases))
    (key_added old c.args.node.now)
