use Rattle.std.proofs.Common.{◌≡◌, ◌∙◌, ◌<◌, ◌++◌, List, None, Some, ap, arith, get_or, length, refl, string_bytes, sym, ℕ}
use Rattle.std.specs.Option.{option_copied}
use Rattle.std.proofs.lemmas.Str.{IsCharBoundary-start, IsCharBoundary-after_ascii}
use Rattle.report_writer.specs.EscapedBytes.{escape}
use Rattle.report_writer.proofs.Escapes.{all_escaped, escape_more, escaped_below, on_ok_pushed, plain_more}
use Rattle.report_writer.proofs.terms.push_escaped.Goals as goal
use Rattle.report_writer.proofs.terms.push_escaped.Goals.{in-Some+in_ok-push_str+in_ok-push_str-2, in_default}

pub loop-i-init : goal.loop-i-init
loop-i-init c = record { within = omega arith; boundary = IsCharBoundary-start c.args.lexical.now c.utf8.lexical; bytes = refl }

pub loop-i-preserved : goal.loop-i-preserved
loop-i-preserved c =
    let text = c.args.lexical.now in
    let i = c.loop-i.i in
    let old = string_bytes c.args.out.now in
    let so_far = string_bytes c.loop-i.out in
    let less : i < length text = omega (arith, ap length c.as_bytes-byte-items.ensures.value) in
    let told : option_copied c.escape_of.result ≡ escape (get_or text i 0) = c.escape_of.ensures ∙ ap (λ (t : List ℕ). escape (get_or t i 0)) c.as_bytes-byte-items.ensures.value in
    elim c.match-escape_of.branch [
      | in-Some+in_ok-push_str+in_ok-push_str-2 w ↦
          let e = w.in-Some.escape.now in
          let found : escape (get_or text i 0) ≡ Some e = sym told ∙ ap option_copied w.in-Some.is in
          let last = string_bytes w.push_str-in-Some.new.self in record {
            within = rw w.written-is (omega arith);
            boundary = rw w.written-is (IsCharBoundary-after_ascii text i c.utf8.lexical less (escaped_below (get_or text i 0) e found));
            bytes = rw (w.out-is, w.written-is) (escape_more text old so_far last e c.loop-i.written i (get_or text i 0) less refl found c.loop-i.invariant.bytes
                (w.in_ok-push_str-2.ensures.bytes ∙ ap (λ (t : List ℕ). t ++ e) (w.in_ok-push_str.ensures.bytes ∙ ap (λ (t : List ℕ). so_far ++ t) w.range.ensures.value)));
          }
      | in_default w ↦
          let plain : escape (get_or text i 0) ≡ None = sym told ∙ ap option_copied w.in_default.is in record {
            within = rw w.written-is (omega arith);
            boundary = rw w.written-is c.loop-i.invariant.boundary;
            bytes = rw (w.out-is, w.written-is) (plain_more text old so_far c.loop-i.written i (get_or text i 0) c.loop-i.invariant.within less refl plain c.loop-i.invariant.bytes);
          }
    ]

pub returns : goal.returns
returns c =
    let text = c.args.lexical.now in
    on_ok_pushed c.push_str-2.result (string_bytes c.push_str-2.new.self) (string_bytes c.loop-i.out) c.range_from.result.now (λ h. all_escaped text (string_bytes c.args.out.now) (string_bytes c.loop-i.out) (string_bytes c.push_str-2.new.self) c.loop-i.written c.loop-i.i c.utf8.lexical
    (omega (arith, c.loop-i-test.false, ap length c.as_bytes-byte-items.ensures.value)) c.loop-i.invariant.bytes (h ∙ ap (λ (t : List ℕ). string_bytes c.loop-i.out ++ t) c.range_from.ensures.value)) c.push_str-2.ensures.bytes
