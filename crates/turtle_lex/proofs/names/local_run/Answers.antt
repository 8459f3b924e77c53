use Rattle.std.proofs.Common.{◌+◌, ◌<◌, ◌∙◌, length, sym, ap, arith}
use Rattle.turtle_lex.specs.Names.{local_run}
use Rattle.rdf_lexical.proofs.Joined.{joined}
use Rattle.turtle_lex.proofs.LocalSteps.{piece_step, name_step, dot_step}
use Rattle.turtle_lex.proofs.names.local_run.Goals as goal

pub loop-character-preserved-then-holds : goal.loop-character-preserved-then-holds
loop-character-preserved-then-holds c =
    let step = name_step c.loop-character.rest c.in-Some.after c.loop-character.kept c.loop-character.count c.in-Some.character c.in-Some.ensures (sym c.holds.ensures ∙ c.if-holds.true) in
    record {
      value = sym step ∙ c.loop-character.invariant.value;
      bound = omega (arith, ap length c.in-Some.ensures);
      kept = omega arith;
    }

pub loop-character-preserved-then-character-eq46 : goal.loop-character-preserved-then-character-eq46
loop-character-preserved-then-character-eq46 c =
    let step = dot_step c.loop-character.rest c.in-Some.after c.loop-character.kept c.loop-character.count c.in-Some.character c.in-Some.ensures c.if-character-eq46.true in
    record {
      value = sym step ∙ c.loop-character.invariant.value;
      bound = omega (arith, ap length c.in-Some.ensures);
      kept = omega arith;
    }

pub loop-character-preserved : goal.loop-character-preserved
loop-character-preserved c =
    let rest = c.loop-character.rest in
    let count = c.loop-character.count in
    let p = c.local_piece-piece.result in
    let more : 0 < p = omega arith in
    let step = piece_step rest c.in-Some.after c.loop-character.kept count c.in-Some.character p c.in-Some.ensures c.if-character-eq46.false c.local_piece-piece.ensures.value more c.local_piece-piece.ensures.bound in
    let left = ap (λ cs. joined (count + p) (count + p) (local_run 0 cs)) c.after-rest.ensures.value in
    record {
      value = left ∙ sym step ∙ c.loop-character.invariant.value;
      bound = omega arith;
      kept = omega arith;
    }
