use Rattle.std.proofs.Common.{◌≡◌, ◌-◌, ◌∙◌, ap, sym, subst, arith}
use Rattle.std.specs.List.{Contains}
use Rattle.record_text.specs.declared.record.Record.{Record}
use Rattle.follow_command.proofs.Printing.{fed_record}
use Rattle.follow_command.proofs.feeding.feed_one.Goals as goal

pub returns : goal.returns
returns c =
    let low = c.requires.within.0 in
    let high = c.requires.within.1 in
    let at = fed_record c.args.records.now c.args.number (c.args.number - 1) c.index-records-number.result c.index-records-number.result c.requires.numbered (omega (arith, low)) (omega (arith, low, high)) c.index-records-number.is in
    let copy : c.in_ok-next.next ≡ c.index-records-number.result = c.in_ok-next.ensures in record {
      feeding = (c.in_ok-next.next, c.in_ok-fed.fed);
      there = subst (λ (x : Record). Contains c.args.records.now x) (sym copy) at.0;
      number_is = ap (λ (x : Record). x.number) copy ∙ at.1;
      feeds = c.in_ok-fed.ensures.ok;
      added = c.in_ok-push_fed.ensures;
    }
