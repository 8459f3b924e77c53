use Rattle.std.proofs.Common.{◌∙◌, List, [], ◌∷◌, refl, sym, subst, append_assoc}
use Rattle.std.proofs.lemmas.List.{append-nil, nil_from_length}
use Rattle.std.specs.Prelude.{Option, Result}
use Rattle.std.specs.declared.alloc.AllocError.{AllocError}
use Rattle.session_model.specs.declared.command.Command.{Command}
use Rattle.session_reader.specs.declared.read_command.ReadCommand.{ReadCommand}
use Rattle.session_reader.proofs.Checks.{grows_none, grows_on}
use Rattle.session_files.specs.Reading.{AreFinished}
use Rattle.session_files.proofs.reading.finish_files.Goals as goal

pub loop-file-init : goal.loop-file-init
loop-file-init g c = record {
  finished = λ more new h. rw c.new-all.ensures (subst (λ (files : List (Option (List Command))). AreFinished files c.args.read.items more (g.M.Maker.refused c.args.maker.now) new) (c.into_iter-file-iterator.ensures.into_iter_gives.0 ∙ c.into_vec-file-items.ensures)
      (subst (λ (texts : List (Result (List ReadCommand) AllocError)). AreFinished c.into_iter-file-iterator.result.rest.items texts more (g.M.Maker.refused c.args.maker.now) new) c.from_vec-texts.ensures.items h));
  refused = grows_none _;
}

pub loop-file-preserved : goal.loop-file-preserved
loop-file-preserved g c = rw c.in_ok-push.ensures.ok (record {
  finished = λ more new h. subst (λ (all : List (List Command)). AreFinished c.args.prepared c.args.read.items all (g.M.Maker.refused c.args.maker.now) new) (sym (append_assoc c.loop-file.all (c.in_ok-commands.commands ∷ []) more))
      (c.loop-file.invariant.finished (c.in_ok-commands.commands ∷ more) new
      (subst (λ (files : List (Option (List Command))). AreFinished files c.loop-file.texts.items (c.in_ok-commands.commands ∷ more) (g.M.Maker.refused c.loop-file.maker) new) (sym c.in-Some.ensures.steps.0) (c.finish_file.new.texts.items, g.M.Maker.refused c.finish_file.new.maker, c.in_ok-commands.ensures.next, h)));
  refused = grows_on _ _ _ c.loop-file.invariant.refused c.finish_file.ensures.refused;
})

pub returns-clause-finished : goal.returns-clause-finished
returns-clause-finished g c =
    let left = c.loop-file.file-iterator in
    let none = nil_from_length left.rest.items (sym left.rest.ok.0 ∙ c.in-None.ensures.steps.0) in
    subst (λ (all : List (List Command)). AreFinished c.args.prepared c.args.read.items all (g.M.Maker.refused c.args.maker.now) (g.M.Maker.refused c.loop-file.maker)) (append-nil c.loop-file.all)
    (c.loop-file.invariant.finished [] (g.M.Maker.refused c.loop-file.maker)
    (subst (λ (files : List (Option (List Command))). AreFinished files c.loop-file.texts.items [] (g.M.Maker.refused c.loop-file.maker) (g.M.Maker.refused c.loop-file.maker)) (sym none) refl))
