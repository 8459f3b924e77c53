use Rattle.std.proofs.Common.{ℕ, Bor, List}
use Rattle.shape_model.specs.Vocabulary.{sh}
use Rattle.plain_terms.proofs.FoundItems.{some_all}
use Rattle.plain_validation.specs.References.{NamedReference}
use Rattle.plain_validation.proofs.Referring.{named_all, some_step_or}
use Rattle.plain_validation.proofs.references.all_named.Goals as goal

pub loop-name-preserved : goal.loop-name-preserved
loop-name-preserved c =
    some_step_or (λ (name : Bor (List ℕ)). NamedReference c.args.shapes.now c.args.shape.now (sh name.now)) c.args.names.now c.loop-name.name-index _ c.loop-name.found.items c.in_ok-more.more.items c.append.new.self.items c.loop-name-test.true
    c.in_ok-append.ensures.items c.loop-name.invariant c.in_ok-more.ensures

pub returns : goal.returns
returns c =
    let Q = NamedReference c.args.shapes.now c.args.shape.now in
    named_all c.args.names.now Q c.loop-name.found.items (some_all (λ (name : Bor (List ℕ)). Q (sh name.now)) c.args.names.now c.loop-name.name-index c.loop-name.found.items c.loop-name-test.false c.loop-name.invariant)
