use Rattle.std.proofs.Common.{◌≡◌, ◌++◌, ◌∙◌, ℕ, List, OnOk, subst, sym, string_bytes}
use Rattle.follow_command.proofs.Served.{lines_served}
use Rattle.follow_command.proofs.feeding.push_served.Goals as goal

pub returns-in_ok-triples-in-Ok : goal.returns-in_ok-triples-in-Ok
returns-in_ok-triples-in-Ok c =
    let lines = lines_served c.args.follower.now c.args.version c.in-Ok.served c.deref.result.now c.in-Ok.ensures (λ g a i. c.deref.ensures.value ∙ c.in_ok-triples-in-Ok.ensures g a i) in
    subst (λ (l : List ℕ). OnOk c.push_triples.result (string_bytes c.push_triples.new.text ≡ string_bytes c.args.text.now ++ l)) (sym lines) c.push_triples.ensures
