use Rattle.component_rows.specs.Listed.{Collects}
use Rattle.component_rows.specs.Sites.{site_row}
use Rattle.component_rows.proofs.Answering.{BeforePlace}
use Rattle.component_rows.proofs.answered.refused.Given as goal

abbrev pub invariant-loop-at : goal.invariant-loop-at
invariant-loop-at g l = Collects (BeforePlace l.site.terms l.values l.answers (site_row l.component l.site) l.at) l.rows.items
