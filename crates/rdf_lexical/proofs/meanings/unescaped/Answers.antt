use Rattle.std.proofs.Common.{◌≡◌, ◌∙◌, ℕ, List, sym, subst}
use Rattle.std.specs.Prelude.{IfOk}
use Rattle.rdf_lexical.proofs.Unescaping.{no_escape}
use Rattle.rdf_lexical.proofs.meanings.unescaped.Goals as goal

pub returns-in-Some : goal.returns-in-Some
returns-in-Some c =
    let itself = c.in-Some.ensures.1 ∙ sym (no_escape c.args.characters.now c.in-Some.ensures.0) in
    subst (λ (is : List ℕ). IfOk c.new.result (λ text. text ≡ is)) itself c.new.ensures
