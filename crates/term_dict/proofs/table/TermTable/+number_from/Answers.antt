use Rattle.std.proofs.Common.{◌∙◌, sym}
use Rattle.term_dict.specs.Names.{IsNumberOf}
use Rattle.term_dict.proofs.Growing.{same_of, other_of}
use Rattle.term_dict.proofs.Places.{none_behind, none_of_hash, none_weaker}
use Rattle.rdf_model.specs.Numbers.{term_at}
use Rattle.term_dict.proofs.table.TermTable.+number_from.Goals as goal

pub returns-then-is_at : goal.returns-then-is_at
returns-then-is_at t c = record {
  within = c.in-Some.ensures.within;
  is = same_of (term_at c.args.self.now c.in-Some.number) c.args.term.now (sym c.is_at.ensures ∙ c.if-is_at.true);
}

pub returns-else-is_at : goal.returns-else-is_at
returns-else-is_at t c = none_weaker c.number_from.result (λ n. IsNumberOf c.args.self.now c.args.term.now n)
    (none_behind c.args.self.now c.args.term.now c.args.hash c.args.from c.in-Some.number c.requires c.in-Some.ensures (other_of (term_at c.args.self.now c.in-Some.number) c.args.term.now (sym c.is_at.ensures ∙ c.if-is_at.false)))
    c.number_from.ensures

pub returns-in-None : goal.returns-in-None
returns-in-None t c = none_of_hash c.args.self.now c.args.term.now c.args.hash c.args.from c.requires c.in-None.ensures
