use Rattle.std.proofs.Common.{subst, arith, inl, inr}
use Rattle.rdf_model.specs.declared.term.Term.{Term}
use Rattle.shape_model.specs.Triples.{IsMember}
use Rattle.shape_syntax.proofs.Scans.{contains_member, member_contains, read_in, in_all, cases_more}
use Rattle.shape_model.specs.Triples.{Has}
use Rattle.shape_model.specs.Vocabulary.{sub_class_of}
use Rattle.shape_syntax.proofs.instance.next_super.Goals as goal

pub returns-in-Some : goal.returns-in-Some
returns-in-Some c = ((c.class-item.result, contains_member c.args.classes.now c.class-item.result (read_in c.args.classes.now c.loop-class.class-index c.class-item.result (omega arith) c.class-item.is), c.in-Some.ensures.0), c.in-Some.ensures.1)

pub loop-class-preserved : goal.loop-class-preserved
loop-class-preserved c = λ a d. elim (cases_more c.args.classes.now c.loop-class.class-index c.class-item.result (omega arith) c.class-item.is a d) [
  | inl k ↦ c.loop-class.invariant a k
  | inr e ↦ subst (λ (z : Term). (x : Term) → Has c.args.graph.now z sub_class_of x → IsMember c.args.classes.now x) e c.in_default.ensures
]

pub returns : goal.returns
returns c = λ class h. c.loop-class.invariant h.0 (in_all c.args.classes.now c.loop-class.class-index (omega arith) h.0 (member_contains c.args.classes.now h.0 h.1)) class h.2
