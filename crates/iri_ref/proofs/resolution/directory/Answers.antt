use Rattle.std.proofs.Common.{sym, ◌∙◌, ◌+◌, ap, take}
use Rattle.std.proofs.Math.Nat.{sub-zero}
use Rattle.iri_ref.proofs.Marks.{directory-found, directory-none}
use Rattle.iri_ref.proofs.resolution.directory.Goals as goal

pub returns-in-Some : goal.returns-in-Some
returns-in-Some c =
    c.range.ensures.value ∙ ap (λ n. take n c.args.path.now) (sub-zero (c.in-Some.at + 1)) ∙ sym (directory-found c.args.path.now c.in-Some.at c.in-Some.ensures.cases)

pub returns-in-None : goal.returns-in-None
returns-in-None c = sym (directory-none c.args.path.now c.in-None.ensures.cases)
