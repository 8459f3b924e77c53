use Rattle.triple_table.proofs.Places.{grown_twice, grown_with}
use Rattle.file_validation.proofs.NamedTriples.{placed, stays}
use Rattle.file_validation.proofs.naming.add_triple.Goals as goal

pub returns-clause-grown : goal.returns-clause-grown
returns-clause-grown c =
    let triple = c.args.triple.now in
    let first = grown_with c.args.names.now c.add.new.self triple.subject c.in_ok-add.ensures.ok in
    let second = grown_with c.add.new.self c.add-2.new.self triple.predicate c.in_ok-add-2.ensures.ok in
    let third = grown_with c.add-2.new.self c.add-3.new.self triple.object c.in_ok-add-3.ensures.ok in
    grown_twice c.args.names.now c.add-2.new.self c.add-3.new.self (grown_twice c.args.names.now c.add.new.self c.add-2.new.self first second) third

pub returns-clause-named : goal.returns-clause-named
returns-clause-named c =
    let triple = c.args.triple.now in
    let second = grown_with c.add.new.self c.add-2.new.self triple.predicate c.in_ok-add-2.ensures.ok in
    let third = grown_with c.add-2.new.self c.add-3.new.self triple.object c.in_ok-add-3.ensures.ok in
    let subject = c.in_ok-add.ensures.number in
    let predicate = c.in_ok-add-2.ensures.number in
    let object = c.in_ok-add-3.ensures.number in (
      stays c.add.new.self c.add-3.new.self triple.subject (grown_twice c.add.new.self c.add-2.new.self c.add-3.new.self second third) (placed c.add.new.self c.in_ok-add.field-0 triple.subject subject.within subject.is),
      stays c.add-2.new.self c.add-3.new.self triple.predicate third (placed c.add-2.new.self c.in_ok-add-2.field-0 triple.predicate predicate.within predicate.is),
      placed c.add-3.new.self c.in_ok-add-3.field-0 triple.object object.within object.is,
    )
