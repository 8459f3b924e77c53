use Rattle.std.proofs.Common.{◌≡◌, ◌∙◌, ◌++◌, length, sym, ap}
use Rattle.std.specs.Prelude.{encode_utf8}
use Rattle.rdf_lexical.proofs.Spelled.{decoded_step, none_left}
use Rattle.rdf_lexical.proofs.slices.CharSlice.split_decoded.Goals as goal

pub invariant_of-result : goal.invariant_of-result
invariant_of-result c =
    let begins : c.self.inside.text.now ≡ encode_utf8 c.in-Some.first ++ c.as_str.result.now =
    sym c.chars-characters.ensures.rest ∙ c.in-Some.ensures.steps.0 ∙ ap (λ l. encode_utf8 c.in-Some.first ++ l) (sym c.as_str.ensures) in
    (decoded_step c.self.inside.text.now c.as_str.result.now c.self.inside.count c.in-Some.first c.self.invariant begins).held

pub returns-in-Some : goal.returns-in-Some
returns-in-Some c =
    let begins : c.self.inside.text.now ≡ encode_utf8 c.in-Some.first ++ c.as_str.result.now =
    sym c.chars-characters.ensures.rest ∙ c.in-Some.ensures.steps.0 ∙ ap (λ l. encode_utf8 c.in-Some.first ++ l) (sym c.as_str.ensures) in
    sym c.self.view_is ∙ (decoded_step c.self.inside.text.now c.as_str.result.now c.self.inside.count c.in-Some.first c.self.invariant begins).are

pub returns-in-None : goal.returns-in-None
returns-in-None c =
    sym c.self.view_is ∙ none_left c.self.inside.text.now c.self.inside.count c.self.invariant (ap length (sym c.chars-characters.ensures.rest) ∙ c.in-None.ensures.steps.0.0)
