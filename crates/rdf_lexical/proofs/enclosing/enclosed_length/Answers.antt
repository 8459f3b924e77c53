use Rattle.std.proofs.Common.{◌+◌, ◌∙◌, length, sym, ap, arith}
use Rattle.rdf_lexical.specs.Enclosed.{enclosed_length, opened}
use Rattle.rdf_lexical.proofs.EnclosedSteps.{held_piece, faulty_piece, closing_piece}
use Rattle.rdf_lexical.proofs.EnclosedTokens.{held_character}
use Rattle.rdf_lexical.proofs.enclosing.enclosed_length.Goals as goal

pub pieces-preserved-in-pieces : goal.pieces-preserved-in-pieces
pieces-preserved-in-pieces c =
    let count = c.pieces.count + c.split_plain-plain.result.0 in
    let step = held_character c.args.kind c.split_plain-plain.result.1 c.in-Some.after c.in-Some.character count c.in-Some.ensures (sym c.may_hold.ensures ∙ c.if-may_hold.true) in
    record {
      value = sym step ∙ sym (c.split_plain-plain.ensures.rest c.pieces.count) ∙ c.pieces.invariant.value;
      bound = omega (arith, ap length c.in-Some.ensures, c.split_plain-plain.ensures.count, c.pieces.invariant.bound);
    }

pub pieces-preserved : goal.pieces-preserved
pieces-preserved c =
    let n = c.in-Held.length in
    let count = c.pieces.count + c.split_plain-plain.result.0 in
    let step = held_piece c.args.kind c.split_plain-plain.result.1 n count c.in-Held.ensures.bound.0 c.in-Held.ensures.bound.1 (sym c.in-Held.ensures.value) in
    record {
      value = ap (λ cs. opened (count + n) (enclosed_length c.args.kind 0 cs)) c.after-rest.ensures.value ∙ sym step ∙ sym (c.split_plain-plain.ensures.rest c.pieces.count) ∙ c.pieces.invariant.value;
      bound = omega (arith, c.split_plain-plain.ensures.count, c.pieces.invariant.bound, c.after-rest.ensures.count);
    }

pub returns-in-Closing-clause-value : goal.returns-in-Closing-clause-value
returns-in-Closing-clause-value c =
    let found = closing_piece c.args.kind c.split_plain-plain.result.1 c.in-Closing.length c.in-Closing.ensures.bound.0 c.in-Closing.ensures.bound.1 (sym c.in-Closing.ensures.value) in
    sym (ap (opened (c.pieces.count + c.split_plain-plain.result.0)) found) ∙ sym (c.split_plain-plain.ensures.rest c.pieces.count) ∙ c.pieces.invariant.value

pub returns-in-Faulty-clause-value : goal.returns-in-Faulty-clause-value
returns-in-Faulty-clause-value c =
    let found = faulty_piece c.args.kind c.split_plain-plain.result.1 c.in-Faulty.fault (sym c.in-Faulty.ensures.value) in
    sym (ap (opened (c.pieces.count + c.split_plain-plain.result.0)) found) ∙ sym (c.split_plain-plain.ensures.rest c.pieces.count) ∙ c.pieces.invariant.value
