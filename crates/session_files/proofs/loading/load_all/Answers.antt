use Rattle.std.proofs.Common.{List, subst, sym}
use Rattle.outside.specs.Faults.{Refusal}
use Rattle.session_files.specs.Loading.{HoldSessions}
use Rattle.session_files.proofs.Preparing.{files_finished, texts_readable}
use Rattle.session_files.proofs.loading.load_all.Goals as goal

pub prepare_files-requires : goal.prepare_files-requires
prepare_files-requires g c = (c.type_bounds.sync-T, texts_readable _ _ _ _ _ _ _ c.in_ok-loaded.ensures.answer.0)

pub returns-clause-answer : goal.returns-clause-answer
returns-clause-answer g c =
    let loaded = c.in_ok-loaded.ensures.answer in
    let prepared = c.in_ok-all.ensures.finished in
    let finished = files_finished _ _ _ _ _ _ _ _ _ _ _ loaded.0 prepared.1 prepared.2 in
    (subst (λ (refused : List Refusal). HoldSessions (g.F.Files.holds c.args.files.now) c.args.first_numbers.now 1 c.args.names.now c.in_ok-all.all (g.M.Maker.refused c.args.maker.now) refused) (sym finished.0) finished.1, loaded.1)
