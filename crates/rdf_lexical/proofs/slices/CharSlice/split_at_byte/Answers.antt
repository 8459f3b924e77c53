use Rattle.std.proofs.Common.{◌∙◌, ◌-◌, sym, ap, subst, length, ◌<◌, ◌^◌, List, ℕ}
use Rattle.std.specs.Prelude.{encode_utf8_all}
use Rattle.std.specs.Str.{chars}
use Rattle.std.proofs.lemmas.Str.{encodes-chars}
use Rattle.rdf_lexical.specs.Slices.{IsHeld}
use Rattle.rdf_lexical.proofs.Spelled.{split}
use Rattle.rdf_lexical.proofs.slices.CharSlice.split_at_byte.Goals as goal

pub split_at-requires : goal.split_at-requires
split_at-requires c = (split c.self.inside.text.now c.args.self.now c.self.inside.count c.args.count c.args.bytes c.self.invariant c.self.view_is c.requires.count c.requires.bytes).boundary

pub invariant_of-result : goal.invariant_of-result
invariant_of-result c =
    let s = split c.self.inside.text.now c.args.self.now c.self.inside.count c.args.count c.args.bytes c.self.invariant c.self.view_is c.requires.count c.requires.bytes in
    subst (λ xs. IsHeld xs c.args.count) (sym c.split_at.ensures.front) s.front-held

pub invariant_of-result-2 : goal.invariant_of-result-2
invariant_of-result-2 c =
    let s = split c.self.inside.text.now c.args.self.now c.self.inside.count c.args.count c.args.bytes c.self.invariant c.self.view_is c.requires.count c.requires.bytes in
    subst (λ xs. IsHeld xs (c.self.inside.count - c.args.count)) (sym c.split_at.ensures.back) s.back-held

pub returns-clause-front : goal.returns-clause-front
returns-clause-front c =
    let s = split c.self.inside.text.now c.args.self.now c.self.inside.count c.args.count c.args.bytes c.self.invariant c.self.view_is c.requires.count c.requires.bytes in
    ap chars c.split_at.ensures.front ∙ s.front-are

pub returns-clause-back : goal.returns-clause-back
returns-clause-back c =
    let s = split c.self.inside.text.now c.args.self.now c.self.inside.count c.args.count c.args.bytes c.self.invariant c.self.view_is c.requires.count c.requires.bytes in
    ap chars c.split_at.ensures.back ∙ s.back-are

pub returns-clause-size : goal.returns-clause-size
returns-clause-size c = subst (λ (xs : List ℕ). length xs < 2 ^ 63) (sym (encodes-chars c.self.inside.text.now c.self.invariant.0) ∙ ap encode_utf8_all c.self.view_is) c.self.invariant.2
