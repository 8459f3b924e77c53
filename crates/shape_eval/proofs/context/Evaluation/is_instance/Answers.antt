use Rattle.std.proofs.Common.{◌↔◌, IfOk, IsTrue, OnOk, false, subst}
use Rattle.std.proofs.lemmas.Result.{IfOk-weaker, on_ok_weaker}
use Rattle.rdf_model.specs.Numbers.{graph_of, term_at}
use Rattle.shape_model.specs.Instances.{Instance}
use Rattle.path_eval.specs.Instances.{ClassReads, Classed, IsInstanceAnswer}
use Rattle.shape_eval.specs.Settings.{IsSetting, Setting}
use Rattle.shape_eval.proofs.context.Evaluation.is_instance.Goals as goal

pub returns-clause-answer : goal.returns-clause-answer
returns-clause-answer g c =
    let e = c.args.self.now in
    let known : IsSetting e = subst (λ (s : Setting). IsSetting s) c.self.view_is c.self.invariant in
    IfOk-weaker c.is_instance.result (λ answer. IsInstanceAnswer e.ids e.words c.args.node c.args.class answer)
    (λ answer. IsTrue answer ↔ Instance (graph_of e.terms e.ids) (term_at e.terms c.args.node) (term_at e.terms c.args.class))
    (λ answer h. h e.terms known.numbering known.numbered known.class_words c.requires.node c.requires.class)
    (subst (λ (s : Setting). IfOk c.is_instance.result (λ answer. IsInstanceAnswer s.ids s.words c.args.node c.args.class answer)) c.self.view_is c.is_instance.ensures.answer)

pub returns-clause-looks : goal.returns-clause-looks
returns-clause-looks g c =
    let e = c.args.self.now in
    let known : IsSetting e = subst (λ (s : Setting). IsSetting s) c.self.view_is c.self.invariant in
    let old = c.args.footprint.now in
    let new = c.is_instance.new.footprint in
    on_ok_weaker c.is_instance.result (λ h. h e.terms known.numbering known.numbered known.class_words c.requires.node)
    (subst (λ (s : Setting). OnOk c.is_instance.result (Classed s.ids s.words c.args.node (λ terms. ClassReads terms s.ids false c.args.node old new))) c.self.view_is c.is_instance.ensures.looks)
