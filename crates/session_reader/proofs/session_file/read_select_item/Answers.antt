use Rattle.std.proofs.Common.{◌≡◌, ◌∙◌, ◌+◌, ℕ, List, Option, Some, Vec, Global, sym, ap, subst, length, map, take, arith}
use Rattle.std.specs.Prelude.{IfSome, MatchOption, None}
use Rattle.std.specs.Borrow.{Bor}
use Rattle.std.proofs.lemmas.List.{length-map}
use Rattle.session_reader.specs.SelectBlock.{select_of}
use Rattle.session_reader.specs.SessionFile.{block_length, block_text}
use Rattle.session_reader.proofs.Items.{select_read}
use Rattle.session_reader.proofs.Lengths.{block_within}
use Rattle.session_reader.proofs.session_file.read_select_item.Goals as goal

pub read_select-requires : goal.read_select-requires
read_select-requires c =
    let after = c.args.after.now in
    let are = subst (λ (o : Option (Vec (Bor (List ℕ)) Global)). IfSome o (λ v. map (λ l. l.now) v.items ≡ take (length v.items) after)) c.in-Some.is c.in_ok-lines.ensures.lines in
    let all = ap (map (λ l. l.now)) c.deref.ensures.value ∙ are in
    omega (arith, ap (λ ls. length (block_text ls)) all, block_within after (length c.in-Some.lines.items), c.requires.room)

pub returns-clause-item : goal.returns-clause-item
returns-clause-item c =
    let after = c.args.after.now in
    let lines = map (λ l. l.now) c.in-Some.lines.items in
    let count = length-map c.in-Some.lines.items (λ l. l.now) in
    let ends = subst (λ (o : Option (Vec (Bor (List ℕ)) Global)). MatchOption o (block_length after ≡ None) (λ v. block_length after ≡ Some (length v.items))) c.in-Some.is c.in_ok-lines.ensures.length in
    let are = subst (λ (o : Option (Vec (Bor (List ℕ)) Global)). IfSome o (λ v. map (λ l. l.now) v.items ≡ take (length v.items) after)) c.in-Some.is c.in_ok-lines.ensures.lines in
    let size = c.len.ensures ∙ sym c.deref.ensures.len ∙ ap length c.deref.ensures.value in
    λ session next more. select_read after lines c.args.commands.now c.push.new.self c.in_ok-command.command session next c.args.number (c.len.result + 1) more (ends ∙ ap (λ k. Some k) (sym count)) (are ∙ ap (λ k. take k after) (sym count)) (omega (arith, size, count))
    (c.in_ok-command.ensures ∙ ap (λ ls. select_of (map (λ l. l.now) ls)) c.deref.ensures.value) c.in_ok-push.ensures.ok
