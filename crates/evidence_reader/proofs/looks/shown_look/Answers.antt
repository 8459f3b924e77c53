use Rattle.std.proofs.Common.{Option, subst, List, ℕ}
use Rattle.std.specs.Borrow.{Bor}
use Rattle.rdf_model.specs.declared.term.Term.{Term}
use Rattle.rdf_model.specs.declared.look.Look.{Look}
use Rattle.evidence_blocks.specs.BlockText.{look_text}
use Rattle.evidence_blocks.specs.Readable.{IsReadableLook}
use Rattle.evidence_reader.specs.Finding.{Anything, Finds}
use Rattle.evidence_reader.proofs.LookTexts.{no_shown, shown_found}
use Rattle.evidence_reader.proofs.looks.shown_look.Goals as goal

pub returns-in_default-clause-look : goal.returns-in_default-clause-look
returns-in_default-clause-look c = no_shown c.args.text.now (subst (λ (o : Option (Look Term × Bor (List ℕ))). Finds IsReadableLook look_text Anything c.args.text.now o) c.in_default.is c.in_ok-look.ensures.look)

pub returns-clause-look : goal.returns-clause-look
returns-clause-look c = shown_found c.args.text.now c.in-Some.look c.in-Some.behind c.in_ok-triples.rest c.in_ok-triples.triples (subst (λ (o : Option (Look Term × Bor (List ℕ))). Finds IsReadableLook look_text Anything c.args.text.now o) c.in-Some.is c.in_ok-look.ensures.look) c.in_ok-triples.ensures.triples
