use Rattle.std.proofs.Common.{◌<◌, List, ℕ, length, sym, subst, arith}
use Rattle.ntriples_text.proofs.Characters.{fewer_chars}
use Rattle.ntriples_text.proofs.Lines.{some_chars, more_room}
use Rattle.ntriples_text.proofs.document.add_text.Goals as goal

pub add_characters-requires-clause-line : goal.add_characters-requires-clause-line
add_characters-requires-clause-line c =
    subst (λ (cs : List ℕ). 0 < length cs) (sym c.of_text-characters.ensures) (some_chars c.args.line.now c.utf8.line c.requires.line)

pub add_characters-requires-clause-room : goal.add_characters-requires-clause-room
add_characters-requires-clause-room c =
    let fewer = fewer_chars c.args.line.now c.of_text-characters.result c.utf8.line c.of_text-characters.ensures in
    omega (arith, fewer.1)

pub returns-clause-room : goal.returns-clause-room
returns-clause-room c =
    let fewer = fewer_chars c.args.line.now c.of_text-characters.result c.utf8.line c.of_text-characters.ensures in
    more_room c.add_characters.result _ _ _ _ fewer.1 c.add_characters.ensures.room
