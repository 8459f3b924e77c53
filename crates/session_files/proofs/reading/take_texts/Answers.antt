use Rattle.std.proofs.Common.{◌∙◌, ◌++◌, ◌∷◌, [], List, sym, ap, append_assoc}
use Rattle.std.specs.Prelude.{map}
use Rattle.std.proofs.lemmas.List.{append-nil, nil_from_length}
use Rattle.session_files.specs.declared.reading.LoadedFile.{LoadedFile}
use Rattle.session_files.specs.Reading.{prepared_of, text_of, texts_of}
use Rattle.session_files.proofs.reading.take_texts.Goals as goal

pub loop-file-init : goal.loop-file-init
loop-file-init c =
    let all = c.into_iter-file-iterator.ensures.into_iter_gives.0 ∙ c.into_vec-file-items.ensures in
    rw (c.new-prepared.ensures, c.new-texts.ensures) (record { prepared = ap (map prepared_of) all; texts = ap texts_of all })

pub loop-file-preserved : goal.loop-file-preserved
loop-file-preserved c = rw (c.in_ok-push.ensures.ok, c.in_ok-commands.ensures.prepared, c.in_ok-commands.ensures.texts) (record {
  prepared = append_assoc c.loop-file.prepared (prepared_of c.in-Some.file ∷ []) (map prepared_of c.next.new.self.rest.items) ∙ (ap (λ (files : List LoadedFile). c.loop-file.prepared ++ map prepared_of files) (sym c.in-Some.ensures.steps.0) ∙ c.loop-file.invariant.prepared);
  texts = append_assoc c.loop-file.texts (text_of c.in-Some.file) (texts_of c.next.new.self.rest.items) ∙ (ap (λ (files : List LoadedFile). c.loop-file.texts ++ texts_of files) (sym c.in-Some.ensures.steps.0) ∙ c.loop-file.invariant.texts);
})

pub returns-clause-prepared : goal.returns-clause-prepared
returns-clause-prepared c =
    let left = c.loop-file.file-iterator in
    let none = nil_from_length left.rest.items (sym left.rest.ok.0 ∙ c.in-None.ensures.steps.0) in
    sym (append-nil c.loop-file.prepared) ∙ (ap (λ (files : List LoadedFile). c.loop-file.prepared ++ map prepared_of files) (sym none) ∙ c.loop-file.invariant.prepared)

pub returns-clause-texts : goal.returns-clause-texts
returns-clause-texts c =
    let left = c.loop-file.file-iterator in
    let none = nil_from_length left.rest.items (sym left.rest.ok.0 ∙ c.in-None.ensures.steps.0) in
    sym (append-nil c.loop-file.texts) ∙ (ap (λ (files : List LoadedFile). c.loop-file.texts ++ texts_of files) (sym none) ∙ c.loop-file.invariant.texts)
