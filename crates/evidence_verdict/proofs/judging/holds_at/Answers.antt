use Rattle.std.proofs.Common.{◌≡◌, ◌∙◌, ◌&&◌, ℕ, List, length, map, ap, sym, subst}
use Rattle.std.specs.Prelude.{◌↔◌, IsTrue}
use Rattle.std.specs.List.{All, Contains}
use Rattle.rdf_model.specs.declared.look.Look.{Look}
use Rattle.rdf_model.specs.declared.term.Term.{Term}
use Rattle.rdf_model.specs.Numbers.{graph_of, term_at}
use Rattle.shape_model.specs.NodeLooks.{IsLook}
use Rattle.shape_model.specs.ShapeLooks.{Looks}
use Rattle.path_eval.specs.Naming.{AddsLooks, IsBoundLook, look_of}
use Rattle.evidence_blocks.specs.declared.block.ShownLook.{ShownLook}
use Rattle.evidence_blocks.specs.Blocks.{Gives, looks_in}
use Rattle.result_evidence.specs.Standing.{ForShape}
use Rattle.result_evidence.proofs.Looked.{bound_looks}
use Rattle.evidence_verdict.specs.Judging.{HoldsIn}
use Rattle.evidence_verdict.proofs.Judged.{all_listed, both_tests, so_where}
use Rattle.evidence_verdict.proofs.judging.holds_at.Goals.{then-is_given, else-is_given}
use Rattle.evidence_verdict.proofs.judging.holds_at.Goals as goal

pub listed_looks-requires : goal.listed_looks-requires
listed_looks-requires g c =
    let e = c.args.evaluation.now in
    let looks = c.gives.new.looks in
    let adds = subst (λ (old : List (Look ℕ)). ForShape e.terms e.shapes c.args.place (λ s shape. AddsLooks e.terms (IsLook (graph_of e.terms e.ids) (Looks s shape) (term_at e.terms c.args.focus)) old looks))
    c.new-looks.ensures c.in_ok-is_given.ensures.looks in
    subst (λ (p : List Term × List (Look ℕ)). All (IsBoundLook (length p.0)) p.1) (λ i. (sym c.requires.names i, sym c.looks-2.ensures i))
    (bound_looks e.terms e.ids e.shapes c.args.place c.args.focus looks adds c.requires.shapes c.requires.place)

pub returns : goal.returns
returns g c s own of at =
    let e = c.args.evaluation.now in
    let block = c.args.block.now in
    let graph = graph_of e.terms e.ids in
    let focus = term_at e.terms c.args.focus in
    let looks = c.gives.new.looks in
    let known = looks_in block.looks in
    let P = IsLook graph (Looks s own.node) focus in
    let items = c.in_ok-listed.listed.items in
    let every = c.are_listed-all_listed.result in
    let adds = subst (λ (old : List (Look ℕ)). ForShape e.terms e.shapes c.args.place (λ s shape. AddsLooks e.terms (IsLook (graph_of e.terms e.ids) (Looks s shape) (term_at e.terms c.args.focus)) old looks))
    c.new-looks.ensures c.in_ok-is_given.ensures.looks in
    let is : items ≡ map (look_of e.terms) looks = c.in_ok-listed.ensures ∙ (λ i. map (look_of (c.requires.names i)) (c.looks-2.ensures i)) in
    let told = subst (λ (p : List ShownLook × List (Look Term)). IsTrue every ↔ All (Contains (looks_in p.0)) p.1) (λ i. (c.as_slice.ensures i, c.as_slice-2.ensures.value i)) c.are_listed-all_listed.ensures in
    let listed = so_where (IsTrue every) (All (Contains known) items) ((look : Look Term) → P look → Contains known look) told (all_listed e.terms P looks items known (adds s own of at) is) in
    let both : c.if-is_given.result ≡ (c.in_ok-is_given.is_given && every) = elim c.if-is_given.branch [
      | then-is_given w ↦ w.result-is ∙ sym (ap (λ b. b && every) w.if-is_given.true)
      | else-is_given w ↦ w.result-is ∙ w.if-is_given.false ∙ sym (ap (λ b. b && every) w.if-is_given.false)
    ] in
    subst (λ b. IsTrue b ↔ HoldsIn graph s own.node focus block) (sym both)
    (both_tests (Gives graph s block.row own.node focus) ((look : Look Term) → P look → Contains known look) c.in_ok-is_given.is_given every (c.in_ok-is_given.ensures.gives s own of at) listed)
