use Rattle.plain_validation.proofs.Declared.{class_declared, node_declared, none_declared, objects_declared, subjects_declared}
use Rattle.plain_validation.proofs.targets.declared_targets.Goals as goal

pub returns-then-branch : goal.returns-then-branch
returns-then-branch c = node_declared c.args.graph.now c.args.triple.now (c.in_ok-is_word.ensures.0 c.if-branch.true) c.in_ok-alone.field-0 c.in_ok-alone.ensures

pub returns-then-branch-2 : goal.returns-then-branch-2
returns-then-branch-2 c =
    class_declared c.args.graph.now c.args.triple.now (λ e. let t = c.in_ok-is_word.ensures.1 e in cc (t, c.if-branch.false)) (c.in_ok-is_word-2.ensures.0 c.if-branch-2.true) c.in_ok-instances_of.field-0 c.in_ok-instances_of.ensures

pub returns-then-branch-3 : goal.returns-then-branch-3
returns-then-branch-3 c =
    subjects_declared c.args.graph.now c.args.triple.now (λ e. let t = c.in_ok-is_word.ensures.1 e in cc (t, c.if-branch.false)) (λ e. let t = c.in_ok-is_word-2.ensures.1 e in cc (t, c.if-branch-2.false))
    (c.in_ok-is_word-3.ensures.0 c.if-branch-3.true) c.in_ok-subjects.field-0 c.in_ok-subjects.ensures

pub returns-then-branch-4 : goal.returns-then-branch-4
returns-then-branch-4 c =
    objects_declared c.args.graph.now c.args.triple.now (λ e. let t = c.in_ok-is_word.ensures.1 e in cc (t, c.if-branch.false)) (λ e. let t = c.in_ok-is_word-2.ensures.1 e in cc (t, c.if-branch-2.false))
    (λ e. let t = c.in_ok-is_word-3.ensures.1 e in cc (t, c.if-branch-3.false)) (c.in_ok-is_word-4.ensures.0 c.if-branch-4.true) c.in_ok-values_of.field-0 c.in_ok-values_of.ensures

pub returns : goal.returns
returns c =
    none_declared c.args.graph.now c.args.triple.now (λ e. let t = c.in_ok-is_word.ensures.1 e in cc (t, c.if-branch.false)) (λ e. let t = c.in_ok-is_word-2.ensures.1 e in cc (t, c.if-branch-2.false))
    (λ e. let t = c.in_ok-is_word-3.ensures.1 e in cc (t, c.if-branch-3.false)) (λ e. let t = c.in_ok-is_word-4.ensures.1 e in cc (t, c.if-branch-4.false)) c.new.result c.new.ensures
