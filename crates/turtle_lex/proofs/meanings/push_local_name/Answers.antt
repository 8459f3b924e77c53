use Rattle.std.proofs.Common.{◌≡◌, ◌∙◌, ◌++◌, ℕ, List, sym, rules, subst}
use Rattle.std.specs.Prelude.{OnOk, string_bytes}
use Rattle.turtle_lex.proofs.LocalSteps.{no_escape}
use Rattle.turtle_lex.proofs.meanings.push_local_name.Goals as goal

pub returns-in-Some : goal.returns-in-Some
returns-in-Some c =
    let itself = c.in-Some.ensures.1 ∙ sym (no_escape c.args.characters.now c.in-Some.ensures.0) in
    let pushed : OnOk c.push_str.result (string_bytes c.push_str.new.self ≡ string_bytes c.args.text.now ++ c.in-Some.name.now) = search rules in
    subst (λ (xs : List ℕ). OnOk c.push_str.result (string_bytes c.push_str.new.self ≡ string_bytes c.args.text.now ++ xs)) itself pushed
