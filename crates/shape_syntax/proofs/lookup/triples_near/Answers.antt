use Rattle.rdf_model.specs.Terms.{triple_cmp}
use Rattle.shape_syntax.proofs.Places.{key, subject_cmp, subject_total, subject_agrees, term_tied}
use Rattle.rdf_model.specs.Orders.{term_exact}
use Rattle.shape_syntax.proofs.Ranges.{in_behind, behind_ascending, take_ascending}
use Rattle.shape_syntax.proofs.lookup.triples_near.Goals as goal

pub count_upto_subject-requires : goal.count_upto_subject-requires
count_upto_subject-requires c = behind_ascending triple_cmp subject_cmp subject_total subject_agrees c.count_before_subject-first.result c.args.triples.now c.requires

pub returns-clause-members : goal.returns-clause-members
returns-clause-members c = λ t.
    let xs = c.args.triples.now in
    let k = key c.args.node.now c.args.node.now in
    let h = in_behind triple_cmp subject_cmp subject_total subject_agrees k xs c.count_before_subject-first.result c.count_upto_subject.result c.count_before_subject-first.ensures.bound c.count_upto_subject.ensures.bound
    c.count_before_subject-first.ensures.point
    c.count_upto_subject.ensures.point t in (
      λ d. let g = h.0 d in (g.0, term_exact t.subject c.args.node.now g.1),
      λ g. h.1 (g.0, term_tied t.subject c.args.node.now g.1),
    )

pub returns-clause-ascending : goal.returns-clause-ascending
returns-clause-ascending c =
    take_ascending triple_cmp c.count_upto_subject.result _ (behind_ascending triple_cmp subject_cmp subject_total subject_agrees c.count_before_subject-first.result c.args.triples.now c.requires)
