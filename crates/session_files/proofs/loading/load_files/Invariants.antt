use Rattle.std.proofs.Common.{◌≡◌}
use Rattle.session_reader.specs.Checking.{OnlyGrows}
use Rattle.session_files.specs.Progress.{LoadedSoFar}
use Rattle.session_files.proofs.loading.load_files.Given as goal

abbrev pub invariant-loop-name : goal.invariant-loop-name
invariant-loop-name g l = record {
  session : l.session ≡ l.name-index;
  holds : g.F.Files.holds l.files ≡ g.F.Files.holds l.fn.files;
  refused : OnlyGrows (g.M.Maker.refused l.fn.maker) (g.M.Maker.refused l.maker);
  so_far : LoadedSoFar (g.F.Files.holds l.fn.files) l.first_numbers l.names l.name-index (record { loaded = g.F.Files.loaded l.fn.files; failed = g.F.Files.failed l.fn.files; refused = g.M.Maker.refused l.fn.maker }) (record { loaded = g.F.Files.loaded l.files; failed = g.F.Files.failed l.files; refused = g.M.Maker.refused l.maker }) l.all;
}
