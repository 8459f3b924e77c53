use Rattle.std.proofs.Common.{◌≡◌, refl, arith, Bool, subst, Some}
use Rattle.std.specs.Prelude.{slice_get}
use Rattle.std.proofs.lemmas.Option.{slice_get_read}
use Rattle.shape_syntax.proofs.Scans.{none_more, in_all}
use Rattle.shape_references.specs.Chains.{LeadsBack, TellsLoop}
use Rattle.shape_references.proofs.LeastLoop.{first_is_least, none_on_loop}
use Rattle.shape_references.proofs.loops.first_on_loop.Goals as goal

pub returns-then-found : goal.returns-then-found
returns-then-found c =
    let t = c.index-graph-index.result in
    let got : slice_get c.args.graph.now c.loop-index.index ≡ Some t = slice_get_read c.args.graph.now _ c.loop-index.index t refl (omega arith) c.index-graph-index.is in
    let loop = subst (λ (b : Bool). TellsLoop c.args.graph.now t b) c.if-found.true (c.in_ok-found.ensures t got) in
    first_is_least c.args.graph.now c.loop-index.index t c.requires.graph (omega arith) c.index-graph-index.is c.loop-index.invariant loop

pub loop-index-preserved : goal.loop-index-preserved
loop-index-preserved c =
    let t = c.index-graph-index.result in
    let got : slice_get c.args.graph.now c.loop-index.index ≡ Some t = slice_get_read c.args.graph.now _ c.loop-index.index t refl (omega arith) c.index-graph-index.is in
    none_more (LeadsBack c.args.graph.now) c.args.graph.now c.loop-index.index t (omega arith) c.index-graph-index.is c.loop-index.invariant
    (subst (λ (b : Bool). TellsLoop c.args.graph.now t b) c.if-found.false (c.in_ok-found.ensures t got))

pub returns : goal.returns
returns c = none_on_loop c.args.graph.now (λ t there. c.loop-index.invariant t (in_all c.args.graph.now c.loop-index.index (omega arith) t there))
