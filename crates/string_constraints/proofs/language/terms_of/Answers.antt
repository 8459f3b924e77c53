use Rattle.std.proofs.Common.{◌∙◌, [], ◌∷◌, ◌++◌, get_or, map, take, ap, sym}
use Rattle.std.proofs.lemmas.List.{take_more, take_all, map-append}
use Rattle.std.proofs.lemmas.List.Elements.{Contains-get_or}
use Rattle.rdf_model.specs.Numbers.{term_at}
use Rattle.string_constraints.proofs.language.terms_of.Goals as goal

pub named-requires : goal.named-requires
named-requires g c = c.requires (get_or c.args.numbers.now c.loop-number.number-index 0) (Contains-get_or c.args.numbers.now c.loop-number.number-index 0 c.loop-number-test.true)

pub loop-number-preserved : goal.loop-number-preserved
loop-number-preserved g c =
    let terms = c.args.site.now.terms in
    let numbers = c.args.numbers.now in
    let i = c.loop-number.number-index in
    ap (map (λ t. t.now)) c.in_ok-push.ensures.items
    ∙ map-append (λ t. t.now) c.loop-number.terms.items (c.named.result ∷ [])
    ∙ (λ j. c.loop-number.invariant j ++ c.named.ensures j ∷ [])
    ∙ sym (ap (map (term_at terms)) (take_more numbers i 0 c.loop-number-test.true) ∙ map-append (term_at terms) (take i numbers) (get_or numbers i 0 ∷ []))

pub returns : goal.returns
returns g c = c.loop-number.invariant ∙ ap (map (term_at (c.args.site.now.terms))) (take_all c.loop-number.number-index c.args.numbers.now c.loop-number-test.false)
