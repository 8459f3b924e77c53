use Rattle.std.proofs.Common.{ℕ, List, [], ◌∷◌, true, subst}
use Rattle.path_ast.specs.declared.path.Path.{Predicate}
use Rattle.path_eval.specs.Relations.{IsFollowed, Repeated}
use Rattle.path_eval.specs.NumberedWalks.{Reaches}
use Rattle.path_eval.specs.NumberedLooks.{AtRepeated, Reads}
use Rattle.path_eval.proofs.Follow.{followed_then}
use Rattle.path_eval.proofs.instances.found_instances.Goals as goal

pub returns-clause-followed : goal.returns-clause-followed
returns-clause-followed g c =
    let ids = g.R.Triples.triples c.args.graph.now in
    let R = Reaches ids true (Predicate c.args.words.sub_class_of) in
    let S = Reaches ids true (Predicate c.args.words.rdf_type) in
    let L = Reads ids true (Predicate c.args.words.sub_class_of) in
    let M = Reads ids true (Predicate c.args.words.rdf_type) in
    let ends = c.in_ok-edges.field-0.items in
    followed_then (c.args.class ∷ []) (Repeated R) S (AtRepeated R L) M c.args.footprint.now c.repeated.new.footprint c.edges.new.footprint c.in_ok-classes.classes.items ends c.in_ok-classes.ensures.followed
    (subst (λ (l : List ℕ). IsFollowed l S M c.repeated.new.footprint c.edges.new.footprint ends) c.deref.ensures.value c.in_ok-edges.ensures.followed)

pub returns-clause-kept : goal.returns-clause-kept
returns-clause-kept g c = λ look h. c.edges.ensures.kept look (c.repeated.ensures.kept look h)

pub returns-in_err-edges-clause-kept : goal.returns-in_err-edges-clause-kept
returns-in_err-edges-clause-kept g c = λ look h. c.edges.ensures.kept look (c.repeated.ensures.kept look h)
