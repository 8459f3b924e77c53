use Rattle.std.proofs.Common.{◌≡◌, ◌∙◌, ℕ, List, length, map, sym, subst}
use Rattle.std.specs.List.{All, Contains}
use Rattle.std.proofs.lemmas.Result.{IfOk-weaker}
use Rattle.collections.specs.Listings.{IsListing}
use Rattle.rdf_model.specs.declared.term.Term.{Term}
use Rattle.rdf_model.specs.declared.look.Look.{Look}
use Rattle.rdf_model.specs.Numbers.{graph_of, term_at}
use Rattle.shape_model.specs.NodeLooks.{IsLook}
use Rattle.shape_model.specs.ShapeLooks.{Looks}
use Rattle.path_eval.specs.Naming.{IsBoundLook, look_of}
use Rattle.evidence_blocks.specs.LookOrder.{look_cmp}
use Rattle.result_evidence.specs.Standing.{ForShape, HasNumbers}
use Rattle.result_evidence.proofs.Looked.{bound_looks, in_order, numbers_listed}
use Rattle.result_evidence.proofs.looks.looks_of.Goals as goal

pub listed_looks-requires : goal.listed_looks-requires
listed_looks-requires g c =
    let e = c.args.evaluation.now in
    subst (λ (terms : List Term). All (IsBoundLook (length terms)) c.looks-2.result.now) (sym c.requires.names)
    (subst (λ (ls : List (Look ℕ)). All (IsBoundLook (length e.terms)) ls) (sym c.looks-2.ensures)
    (bound_looks e.terms e.ids e.shapes c.args.place c.args.focus c.in_ok-looks.looks c.in_ok-looks.ensures c.requires.graph c.requires.place))

pub returns-clause-looks : goal.returns-clause-looks
returns-clause-looks g c =
    let e = c.args.evaluation.now in
    let is : c.in_ok-listed.listed.items ≡ map (look_of e.terms) c.in_ok-looks.looks = c.in_ok-listed.ensures ∙ (λ i. map (look_of (c.requires.names i)) (c.looks-2.ensures i)) in
    IfOk-weaker c.sorted_once.result (λ sorted. IsListing look_cmp (Contains c.in_ok-listed.listed.items) sorted.items)
    (λ sorted. ForShape e.terms e.shapes c.args.place (λ s shape. IsListing look_cmp (IsLook (graph_of e.terms e.ids) (Looks s shape) (term_at e.terms c.args.focus)) sorted.items))
    (λ sorted l. in_order e.terms e.ids e.shapes c.args.place c.args.focus c.in_ok-looks.looks c.in_ok-looks.ensures c.in_ok-listed.listed.items sorted.items is l) c.sorted_once.ensures

pub returns-clause-numbers : goal.returns-clause-numbers
returns-clause-numbers g c =
    let e = c.args.evaluation.now in
    let is : c.in_ok-listed.listed.items ≡ map (look_of e.terms) c.in_ok-looks.looks = c.in_ok-listed.ensures ∙ (λ i. map (look_of (c.requires.names i)) (c.looks-2.ensures i)) in
    IfOk-weaker c.sorted_once.result (λ sorted. IsListing look_cmp (Contains c.in_ok-listed.listed.items) sorted.items) (λ sorted. All (HasNumbers e.terms) sorted.items)
    (λ sorted l. numbers_listed e.terms c.in_ok-looks.looks c.in_ok-listed.listed.items sorted.items
    (bound_looks e.terms e.ids e.shapes c.args.place c.args.focus c.in_ok-looks.looks c.in_ok-looks.ensures c.requires.graph c.requires.place) is l) c.sorted_once.ensures
