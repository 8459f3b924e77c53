use Rattle.std.proofs.Common.{◌≡◌, [], true, map, ap, ◌∙◌, refl, subst}
use Rattle.clap.specs.Words.{App, HasKind, fault_of, is_simple, is_simple_and_free, subcommand_of, subcommand_rows_of}
use Rattle.command_line.specs.CommandLine
use Rattle.command_line.proofs.Refusing.{memory_where_free}
use Rattle.command_line.proofs.call.matches_of.Goals as goal

pub returns-in-Ok-try_get_matches_from-clause-taken : goal.returns-in-Ok-try_get_matches_from-clause-taken
returns-in-Ok-try_get_matches_from-clause-taken c =
    let free : is_simple_and_free CommandLine.command_line ≡ true = refl in
    subst (λ (a : App). fault_of a (map (λ w. w.now) c.args.words.now) ≡ []) c.in-Ok.ensures (c.in-Ok-try_get_matches_from.ensures.kinds (ap is_simple_and_free c.in-Ok.ensures ∙ free))

pub returns-in-Err-try_get_matches_from-clause-usage : goal.returns-in-Err-try_get_matches_from-clause-usage
returns-in-Err-try_get_matches_from-clause-usage c =
    let free : is_simple_and_free CommandLine.command_line ≡ true = refl in
    let kind = subst (λ (a : App). HasKind (fault_of a (map (λ w. w.now) c.args.words.now)) c.in-Err-try_get_matches_from.error) c.in-Ok.ensures (c.in-Err-try_get_matches_from.ensures.kinds (ap is_simple_and_free c.in-Ok.ensures ∙ free)) in
    λ usage none. c.words_fault.ensures usage (memory_where_free _ c.in-Err-try_get_matches_from.error none kind)

pub returns-in-Ok-try_get_matches_from-clause-rows : goal.returns-in-Ok-try_get_matches_from-clause-rows
returns-in-Ok-try_get_matches_from-clause-rows c =
    let simple : is_simple CommandLine.command_line ≡ true = refl in
    subst (λ (a : App). subcommand_rows_of c.in-Ok-try_get_matches_from.found ≡ subcommand_of a (map (λ w. w.now) c.args.words.now)) c.in-Ok.ensures (c.in-Ok-try_get_matches_from.ensures.matches (ap is_simple c.in-Ok.ensures ∙ simple)).1
