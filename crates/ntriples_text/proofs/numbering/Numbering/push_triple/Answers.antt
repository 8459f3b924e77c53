use Rattle.std.proofs.Common.{◌∙◌, [], ◌∷◌, ◌++◌, ap}
use Rattle.ntriples_text.proofs.Numbers.{made_triple}
use Rattle.ntriples_text.proofs.numbering.Numbering.push_triple.Goals as goal

pub returns-clause-triple : goal.returns-clause-triple
returns-clause-triple c =
    let triple = made_triple _ _ c.numbered.new.numbering.session c.numbered.new.numbering.first c.args.self.now.labels c.numbered.new.numbering.labels _ c.args.statement _ _
    c.in_ok-subject.ensures.labels c.in_ok-object.ensures.labels c.in_ok-subject.ensures.same.0 c.in_ok-subject.ensures.same.1 c.in_ok-subject.ensures.term c.in_ok-object.ensures.term in
    c.in_ok-push_terms.ensures.ok ∙ ap (λ t. c.args.table.now ++ t ∷ []) triple
