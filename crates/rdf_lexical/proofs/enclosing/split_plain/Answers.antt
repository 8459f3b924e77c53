use Rattle.std.proofs.Common.{◌≡◌, ◌∙◌, ◌+◌, ◌≤◌, length, drop, take, sym, ap, subst, arith}
use Rattle.std.specs.Prelude.{encode_utf8_all}
use Rattle.std.proofs.lemmas.List.{length-drop}
use Rattle.std.proofs.lemmas.Str.{length-le-encodes}
use Rattle.rdf_lexical.specs.Enclosed.{enclosed_length, opened, plain_length}
use Rattle.rdf_lexical.proofs.PlainRuns.{plain_bound, plain_bytes, plain_run, plain_size}
use Rattle.rdf_lexical.proofs.enclosing.split_plain.Goals as goal

pub split_at_byte-behind-requires-clause-count : goal.split_at_byte-behind-requires-clause-count
split_at_byte-behind-requires-clause-count c =
    let kind = c.args.kind in
    let cs = c.args.characters.now in
    let same : c.plain_length-plain.result ≡ plain_length kind cs = c.plain_length-plain.ensures ∙ ap (plain_length kind) (c.as_bytes.ensures.value ∙ c.as_text.ensures) ∙ plain_bytes kind cs in
    subst (λ n. n ≤ length cs) (sym same) (plain_bound kind cs)

pub split_at_byte-behind-requires-clause-bytes : goal.split_at_byte-behind-requires-clause-bytes
split_at_byte-behind-requires-clause-bytes c =
    let kind = c.args.kind in
    let cs = c.args.characters.now in
    let same : c.plain_length-plain.result ≡ plain_length kind cs = c.plain_length-plain.ensures ∙ ap (plain_length kind) (c.as_bytes.ensures.value ∙ c.as_text.ensures) ∙ plain_bytes kind cs in
    subst (λ n. n ≡ length (encode_utf8_all (take n cs))) (sym same) (plain_size kind cs)

pub returns-clause-rest : goal.returns-clause-rest
returns-clause-rest c = λ count.
    let kind = c.args.kind in
    let cs = c.args.characters.now in
    let same : c.plain_length-plain.result ≡ plain_length kind cs = c.plain_length-plain.ensures ∙ ap (plain_length kind) (c.as_bytes.ensures.value ∙ c.as_text.ensures) ∙ plain_bytes kind cs in
    subst (λ n. opened count (enclosed_length kind 0 cs) ≡ opened (count + n) (enclosed_length kind 0 (drop n cs))) (sym same) (plain_run kind cs count)
    ∙ ap (λ xs. opened (count + c.plain_length-plain.result) (enclosed_length kind 0 xs)) (sym c.split_at_byte-behind.ensures.back)

pub returns-clause-count : goal.returns-clause-count
returns-clause-count c =
    let kind = c.args.kind in
    let cs = c.args.characters.now in
    let same : c.plain_length-plain.result ≡ plain_length kind cs = c.plain_length-plain.ensures ∙ ap (plain_length kind) (c.as_bytes.ensures.value ∙ c.as_text.ensures) ∙ plain_bytes kind cs in
    let most : c.plain_length-plain.result ≤ length cs = subst (λ n. n ≤ length cs) (sym same) (plain_bound kind cs) in
    omega (arith, most, ap length c.split_at_byte-behind.ensures.back, length-drop c.plain_length-plain.result cs)

pub returns-clause-size : goal.returns-clause-size
returns-clause-size c = omega (arith, c.split_at_byte-behind.ensures.size, length-le-encodes c.args.characters.now)
