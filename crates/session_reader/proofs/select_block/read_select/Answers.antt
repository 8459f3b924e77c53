use Rattle.std.proofs.Common.{◌∙◌, ap, map, length, arith}
use Rattle.std.proofs.lemmas.List.{length-map}
use Rattle.session_reader.proofs.Selects.{names-length, named_select, refused_select, some_lines}
use Rattle.session_reader.proofs.select_block.read_select.Goals as goal

pub returns-in-Some : goal.returns-in-Some
returns-in-Some c = refused_select (map (λ l. l.now) c.args.lines.now) c.in-Some.line (some_lines (λ l. l.now) c.args.lines.now c.if-is_empty.ensures) (rw c.in-Some.is at c.in_ok-line.ensures)

pub command_with-requires : goal.command_with-requires
command_with-requires c =
    omega (arith, ap length c.deref.ensures.value, length-map c.in_ok-names.names.items (λ n. n.now), ap length c.in_ok-names.ensures, names-length (map (λ l. l.now) c.args.lines.now), c.requires)

pub returns : goal.returns
returns c = named_select c.command_with.result (map (λ n. n.now) c.deref.result.now) (map (λ l. l.now) c.args.lines.now) (some_lines (λ l. l.now) c.args.lines.now c.if-is_empty.ensures) (ap (map (λ n. n.now)) c.deref.ensures.value ∙ c.in_ok-names.ensures) c.command_with.ensures
