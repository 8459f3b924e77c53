use Rattle.std.proofs.Common.{◌≤◌, Option, sym, subst, List, ℕ, length, rules}
use Rattle.std.specs.Prelude.{IsNone}
use Rattle.std.specs.Borrow.{Bor}
use Rattle.rdf_model.specs.declared.triple.Triple.{Triple}
use Rattle.ntriples_text.specs.Laws.{IsReadable, IsStored}
use Rattle.ntriples_text.specs.Writing.{written_line}
use Rattle.evidence_reader.specs.Finding.{Anything, Finds, FindsSome, FollowsTriples}
use Rattle.evidence_reader.proofs.LookTexts.{after_triples}
use Rattle.evidence_reader.proofs.Splits.{no_more_items, one_more_item}
use Rattle.evidence_reader.proofs.looks.triple_lines.Goals as goal

pub loop-triples-preserved : goal.loop-triples-preserved
loop-triples-preserved c =
    let inv = c.loop-triples.invariant in
    let more = one_more_item (IsReadable IsStored) written_line FollowsTriples Anything after_triples c.args.text.now c.loop-triples.triples c.loop-triples.rest.now inv.0 c.in-Some.triple c.in-Some.behind (subst (λ (o : Option (Triple × Bor (List ℕ))). Finds (IsReadable IsStored) written_line Anything c.loop-triples.rest.now o) c.in-Some.is c.in_ok-triple.ensures.triple)
    (λ h. let bad = subst (λ (o : Option (Triple × Bor (List ℕ))). IsNone o) c.in-Some.is (c.in_ok-triple.ensures.none h) in cc) in
    let size : length c.in-Some.behind.now ≤ length c.args.text.now = search rules in
    (subst (λ (ts : List Triple). FindsSome (IsReadable IsStored) written_line FollowsTriples c.args.text.now ts c.in-Some.behind.now) (sym c.in_ok-push.ensures.ok) more, size)

pub returns-clause-triples : goal.returns-clause-triples
returns-clause-triples c = no_more_items (IsReadable IsStored) written_line FollowsTriples Anything after_triples c.args.text.now c.loop-triples.triples c.loop-triples.rest.now c.loop-triples.invariant.0 (subst (λ (o : Option (Triple × Bor (List ℕ))). Finds (IsReadable IsStored) written_line Anything c.loop-triples.rest.now o) c.in_default.is c.in_ok-triple.ensures.triple)
