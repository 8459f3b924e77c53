use Rattle.std.proofs.Common.{refl, arith}
use Rattle.std.specs.Str.{chars}
use Rattle.turtle_reader.proofs.Characters.{fewer_chars, more_room}
use Rattle.turtle_reader.proofs.document.read_characters.Goals as goal

pub new-requires : goal.new-requires
new-requires c =
    let fewer = fewer_chars c.args.text.now (chars c.args.text.now) c.utf8.text refl in
    omega (arith, fewer.1)

pub read_source-requires : goal.read_source-requires
read_source-requires c =
    let fewer = fewer_chars c.args.text.now c.new.result c.utf8.text c.new.ensures in
    omega (arith, fewer.1)

pub returns-clause-room : goal.returns-clause-room
returns-clause-room c =
    let fewer = fewer_chars c.args.text.now c.new.result c.utf8.text c.new.ensures in
    more_room c.read_source.result c.args.first _ _ fewer.1 c.read_source.ensures.room
