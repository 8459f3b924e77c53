use Rattle.std.proofs.Common.{List, ◌∙◌, ap, refl, sym, subst, inl, inr}
use Rattle.std.proofs.lemmas.Result.{err_from_is_err_and}
use Rattle.rdf_model.specs.declared.term.Term.{Term}
use Rattle.rdf_model.specs.declared.triple.Triple.{Triple}
use Rattle.record_text.specs.Records.{IsReadableGraph}
use Rattle.session_model.specs.declared.command.Command.TheVariants as commands
use Rattle.shape_reader.specs.Asked.{AsksAll, AsksUpTo}
use Rattle.shape_reader.specs.Parts.{IsRefused}
use Rattle.shape_reader.proofs.Requests.{all_some, asks_same}
use Rattle.shape_rules.specs.Broken.{IsLeast, IsWellFormed}
use Rattle.session_reader.proofs.checking.check_graph.Goals as goal

pub new-requires-clause-well_formed : goal.new-requires-clause-well_formed
new-requires-clause-well_formed g c = subst (λ (ts : List Triple). IsWellFormed ts) c.as_slice.ensures c.in-Ok.ensures.answer.0

pub new-requires-clause-once : goal.new-requires-clause-once
new-requires-clause-once g c = c.in-Ok.ensures.once

pub new-requires-in-Ok : goal.new-requires-in-Ok
new-requires-in-Ok g c = subst IsReadableGraph (sym c.in_ok-graph-in-Ok.ensures) c.into_triples-triples.ensures.readable

pub returns-in-Ok-clause-command : goal.returns-in-Ok-clause-command
returns-in-Ok-clause-command g c =
    inl (subst (λ (ts : List Triple). IsWellFormed ts) (c.as_slice.ensures ∙ c.into_triples-triples.ensures.triples) c.in-Ok.ensures.answer.0, ap commands.Shapes (c.new-in-Ok.ensures ∙ c.in_ok-graph-in-Ok.ensures ∙ c.into_triples-triples.ensures.triples), c.in-Ok.ensures.refused)

pub returns-in-Err-Rule-clause-command : goal.returns-in-Err-Rule-clause-command
returns-in-Err-Rule-clause-command g c =
    let h = rw c.in-Err-Rule.field-0-is at c.in-Err-Rule.ensures.answer in
    rw c.in-Err-Rule.field-0-is
    (inr (inl (c.in-Err-Rule.row, subst (λ (ts : List Triple). IsLeast ts c.in-Err-Rule.row) (c.as_slice.ensures ∙ c.into_triples-triples.ensures.triples) h.0, ap (λ (n : Term). commands.BrokenShapes c.in-Err-Rule.row.rule n) (rw c.in-Err-Rule.field-0-is at c.in_ok-clone-in-Err-Rule.ensures.cases), h.1)))

pub returns-in-Err-Pattern-clause-command : goal.returns-in-Err-Pattern-clause-command
returns-in-Err-Pattern-clause-command g c =
    let h = rw c.in-Err-Pattern.field-0-is at c.in-Err-Pattern.ensures.answer in
    rw c.in-Err-Pattern.field-0-is
    (inr (inr (c.in-Err-Pattern.node, subst (λ (ts : List Triple). IsWellFormed ts) (c.as_slice.ensures ∙ c.into_triples-triples.ensures.triples) h.0, subst (λ (ts : List Triple). IsRefused ts c.in-Err-Pattern.node (g.M.Maker.refused c.args.maker.now) (g.M.Maker.refused c.read_shapes.new.maker)) (c.as_slice.ensures ∙ c.into_triples-triples.ensures.triples) h.1, refl)))

pub returns-in-Ok-clause-asked : goal.returns-in-Ok-clause-asked
returns-in-Ok-clause-asked g c = subst (λ (ts : List Triple). AsksAll ts (g.M.Maker.asked c.args.maker.now) (g.M.Maker.asked c.read_shapes.new.maker)) (c.as_slice.ensures ∙ c.into_triples-triples.ensures.triples) c.in-Ok.ensures.asked

pub returns-in_err-graph-in-Ok-clause-asked : goal.returns-in_err-graph-in-Ok-clause-asked
returns-in_err-graph-in-Ok-clause-asked g c =
    let p = err_from_is_err_and c.from_residual.result c.from_residual.ensures.1 in
    let asked = subst (λ (ts : List Triple). AsksAll ts (g.M.Maker.asked c.args.maker.now) (g.M.Maker.asked c.read_shapes.new.maker)) (c.as_slice.ensures ∙ c.into_triples-triples.ensures.triples) c.in-Ok.ensures.asked in
    rw p.1 (c.in-Ok.ensures.refused, all_some _ _ _ asked)

pub returns-in-Err-Rule-clause-asked : goal.returns-in-Err-Rule-clause-asked
returns-in-Err-Rule-clause-asked g c = rw c.in-Err-Rule.field-0-is at c.in-Err-Rule.ensures.asked

pub returns-in_err-clone-in-Err-Rule-clause-asked : goal.returns-in_err-clone-in-Err-Rule-clause-asked
returns-in_err-clone-in-Err-Rule-clause-asked g c =
    let p = err_from_is_err_and c.from_residual-in_err-clone-in-Err-Rule.result c.from_residual-in_err-clone-in-Err-Rule.ensures.1 in
    let h = rw c.in-Err-Rule.field-0-is at c.in-Err-Rule.ensures.answer in
    rw p.1 (h.1, asks_same _ _ _ (rw c.in-Err-Rule.field-0-is at c.in-Err-Rule.ensures.asked))

pub returns-in-Err-Pattern-clause-asked : goal.returns-in-Err-Pattern-clause-asked
returns-in-Err-Pattern-clause-asked g c =
    let h = rw c.in-Err-Pattern.field-0-is at c.in-Err-Pattern.ensures.asked in
    rw c.in-Err-Pattern.field-0-is (subst (λ (ts : List Triple). AsksUpTo ts c.in-Err-Pattern.node (g.M.Maker.asked c.args.maker.now) (g.M.Maker.asked c.read_shapes.new.maker)) (c.as_slice.ensures ∙ c.into_triples-triples.ensures.triples) h)
