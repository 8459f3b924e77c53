use Rattle.std.proofs.Common.{◌≡◌, ◌∙◌, ◌+◌, ◌<◌, length, take, ap, subst}
use Rattle.rdf_model.specs.declared.term.Term.{Term}
use Rattle.term_dict.specs.Names.{IsNumberOf, with_term}
use Rattle.term_dict.proofs.Growing.{numbers_more, rest_more, take_more}
use Rattle.term_dict.proofs.table.extended_with.Goals as goal

pub loop-term-preserved : goal.loop-term-preserved
loop-term-preserved c =
    let lt : c.loop-term.term-index < length c.args.terms.now = c.loop-term-test.true in
    record {
      rest = rest_more c.loop-term.table c.in_ok-next.next c.args.terms.now c.loop-term.term-index c.term-item.result lt c.term-item.is c.in_ok-next.ensures.table ∙ c.loop-term.invariant.rest;
      numbers = numbers_more c.loop-term.table c.in_ok-next.next (take c.loop-term.term-index c.args.terms.now) (take (c.loop-term.term-index + 1) c.args.terms.now) c.loop-term.numbers.items c.push.new.self.items c.term-item.result c.in_ok-next.number c.in_ok-next.ensures.table (take_more c.args.terms.now c.loop-term.term-index c.term-item.result lt c.term-item.is) c.in_ok-push.ensures.items c.loop-term.invariant.numbers c.in_ok-next.ensures.number;
    }
