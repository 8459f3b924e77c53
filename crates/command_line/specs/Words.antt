-- What the words ask for.
use Rattle.std.specs.Prelude.{ℕ, ◌&&◌, List, length, Option, Some, None, if◌then◌else◌, nat_le, nat_eq, codes, bytes_eq}
use Rattle.std.specs.Fmt.{decimal}
use Rattle.std.specs.Str.Parse.{digits_value}
use Rattle.clap.specs.Words.{Row, Text, all_of, fault_of, first_of, subcommand_of}
use Rattle.command_line.specs.CommandLine.{command_line}
use Rattle.command_line.specs.declared.call.Block.{Block}
use Rattle.command_line.specs.declared.call.Block.TheVariants.{All, Violation}
use Rattle.command_line.specs.declared.call.LimitOptions.{LimitOptions}
use Rattle.command_line.specs.declared.call.Call.{Call}
use Rattle.command_line.specs.declared.call.Call.TheVariants.{Run, Replay, CreateLog, Follow, Validate, Explain, Verify, Generate}

-- The number that a text is the decimal of, without sign or leading zero, from 1 to 2,000,000.
abbrev pub limit_of : List ℕ → Option ℕ
limit_of text = let n = digits_value 10 text in if bytes_eq text (decimal n) && nat_le 1 n && nat_le n 2000000 then Some n else None

abbrev pub up_to : ℕ → Option ℕ → Option ℕ
up_to most None = None
up_to most (Some n) = if nat_le n most then Some n else None

-- The size of a load that a text is the decimal of, without sign or leading zero, from 1 to 100,000.
abbrev pub size_of : List ℕ → Option ℕ
size_of text = up_to 100000 (limit_of text)

-- The version that a text is the decimal of, without sign or leading zero, from 0 to 1,000,000.
abbrev pub version_of : List ℕ → Option ℕ
version_of text = if bytes_eq text (codes "0") then Some 0 else up_to 1000000 (limit_of text)

-- an option that isn't given is 1,000,000
abbrev pub limit_or_default : Option (List ℕ) → Option ℕ
limit_or_default None = Some 1000000
limit_or_default (Some text) = limit_of text

-- which results block: those that a word names, and all where the option isn't given
abbrev pub named_block : List ℕ → Option Block
named_block text = if bytes_eq text (codes "all") then Some All else if bytes_eq text (codes "violation") then Some Violation else None

abbrev pub block_or_default : Option (List ℕ) → Option Block
block_or_default None = Some All
block_or_default (Some text) = named_block text

abbrev pub limits_of_three : Option ℕ → Option ℕ → Option Block → Option LimitOptions
limits_of_three (Some terms) (Some triples) (Some block) = Some (record { terms = terms; triples = triples; block = block })
limits_of_three None triples block = None
limits_of_three (Some terms) None block = None
limits_of_three (Some terms) (Some triples) None = None

abbrev pub limits_in : List Row → Option LimitOptions
limits_in rows = limits_of_three (limit_or_default (first_of (codes "max-terms") rows)) (limit_or_default (first_of (codes "max-triples") rows)) (block_or_default (first_of (codes "block") rows))

-- the option of a log may be absent
abbrev pub run_of : Option LimitOptions → Option (List ℕ) → Option (List (List ℕ)) → Option Call
run_of (Some limits) log (Some files) = Some (Run limits log files)
run_of None log files = None
run_of (Some limits) log None = None

abbrev pub replay_of : Option LimitOptions → Option (List ℕ) → Option (List (List ℕ)) → Option Call
replay_of (Some limits) (Some history) (Some files) = Some (Replay limits history files)
replay_of None history files = None
replay_of (Some limits) None files = None
replay_of (Some limits) (Some history) None = None

abbrev pub create_log_of : Option (List ℕ) → Option Call
create_log_of None = None
create_log_of (Some name) = Some (CreateLog name)

abbrev pub follow_of : Option (List ℕ) → Option (List ℕ) → Option ℕ → Option Call
follow_of (Some log) (Some order) (Some version) = Some (Follow log order version)
follow_of None order version = None
follow_of (Some log) None version = None
follow_of (Some log) (Some order) None = None

-- the names of a data graph and a shapes graph
abbrev pub names_of : Option (List ℕ) → Option (List ℕ) → Option (List ℕ × List ℕ)
names_of (Some graph) (Some shapes) = Some (graph, shapes)
names_of None shapes = None
names_of (Some graph) None = None

abbrev pub validate_of : Option (List ℕ × List ℕ) → Option Call
validate_of None = None
validate_of (Some names) = Some (Validate names.0 names.1)

abbrev pub explain_of : Option (List ℕ × List ℕ) → Option Call
explain_of None = None
explain_of (Some names) = Some (Explain names.0 names.1)

abbrev pub verify_of : Option (List ℕ × List ℕ) → Option (List ℕ) → Option Call
verify_of names None = None
verify_of None (Some evidence) = None
verify_of (Some names) (Some evidence) = Some (Verify names.0 names.1 evidence)

abbrev pub generate_of : Option ℕ → Option Call
generate_of (Some numbers) = Some (Generate numbers)
generate_of None = None

abbrev pub size_of_word : Option (List ℕ) → Option ℕ
size_of_word None = None
size_of_word (Some text) = size_of text

abbrev pub size_in : List Row → Option ℕ
size_in rows = size_of_word (first_of (codes "numbers") rows)

abbrev pub version_of_word : Option (List ℕ) → Option ℕ
version_of_word None = None
version_of_word (Some text) = version_of text

abbrev pub version_in : List Row → Option ℕ
version_in rows = version_of_word (first_of (codes "number") rows)

abbrev pub files_in : List Row → Option (List (List ℕ))
files_in rows = all_of (codes "files") rows

abbrev pub log_in : List Row → Option (List ℕ)
log_in rows = first_of (codes "log") rows

abbrev pub name_in : List Row → Option (List ℕ)
name_in rows = first_of (codes "name") rows

abbrev pub order_in : List Row → Option (List ℕ)
order_in rows = first_of (codes "order") rows

abbrev pub history_in : List Row → Option (List ℕ)
history_in rows = first_of (codes "history") rows

abbrev pub data_in : List Row → Option (List ℕ)
data_in rows = first_of (codes "data") rows

abbrev pub shapes_in : List Row → Option (List ℕ)
shapes_in rows = first_of (codes "shapes") rows

abbrev pub evidence_in : List Row → Option (List ℕ)
evidence_in rows = first_of (codes "evidence") rows

-- the call of a subcommand's name and what was found for it
abbrev pub call_in : Option (Text × List Row) → Option Call
call_in None = None
call_in (Some p) =
    if bytes_eq p.0 (codes "run") then run_of (limits_in p.1) (log_in p.1) (files_in p.1)
    else if bytes_eq p.0 (codes "replay") then replay_of (limits_in p.1) (history_in p.1) (files_in p.1)
    else if bytes_eq p.0 (codes "create-log") then create_log_of (name_in p.1)
    else if bytes_eq p.0 (codes "follow") then follow_of (log_in p.1) (order_in p.1) (version_in p.1)
    else if bytes_eq p.0 (codes "validate") then validate_of (names_of (data_in p.1) (shapes_in p.1))
    else if bytes_eq p.0 (codes "explain") then explain_of (names_of (data_in p.1) (shapes_in p.1))
    else if bytes_eq p.0 (codes "verify") then verify_of (names_of (data_in p.1) (shapes_in p.1)) (evidence_in p.1)
    else generate_of (size_in p.1)

-- The call of words that `clap` takes for the command line, with numbers within their bounds; no other words are one.
abbrev pub call_of : List Text → Option Call
call_of words = if nat_eq (length (fault_of command_line words)) 0 then call_in (subcommand_of command_line words) else None
