use Rattle.std.proofs.Common.{◌≡◌, ◌<◌, length, Some, arith, rules}
use Rattle.std.specs.Prelude.{slice_get}
use Rattle.std.proofs.lemmas.Grind.{common_steps}
use Rattle.std.proofs.lemmas.Option.{gets}
use Rattle.reference_totals.proofs.Numbered.{got_in}
use Rattle.reference_totals.proofs.rounds.ask.Goals as goal

pub bounds-known-place : goal.bounds-known-place
bounds-known-place c =
    let got : slice_get c.args.places.now c.args.index ≡ Some c.in-Some.place.now = grind (arith, common_steps, gets) in
    c.requires.known c.in-Some.place.now (got_in c.args.places.now c.args.index c.in-Some.place.now got)

pub offset_bounds-known-place : goal.offset_bounds-known-place
offset_bounds-known-place c =
    let got : slice_get c.args.places.now c.args.index ≡ Some c.in-Some.place.now = grind (arith, common_steps, gets) in
    let within : c.in-Some.place.now.node < length c.args.known.now = c.requires.known c.in-Some.place.now (got_in c.args.places.now c.args.index c.in-Some.place.now got) in
    search rules
