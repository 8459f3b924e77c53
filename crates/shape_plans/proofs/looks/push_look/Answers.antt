use Rattle.std.proofs.Common.{List, map, subst}
use Rattle.std.specs.List.{Contains}
use Rattle.rdf_model.specs.declared.term.Term.{Term}
use Rattle.focus_affected.specs.Plans.{row_of}
use Rattle.focus_affected.specs.declared.plan.NumberedLook.{NumberedLook}
use Rattle.shape_plans.proofs.Numbering.{found_rows, pushed_bound, pushed_rows}
use Rattle.shape_plans.proofs.looks.push_look.Goals as goal

pub returns-then-has_look-clause-rows : goal.returns-then-has_look-clause-rows
returns-then-has_look-clause-rows c = λ terms row. found_rows c.args.looks.now c.args.look (subst (λ (ls : List NumberedLook). (terms : List Term) → Contains (map (row_of terms) ls) (row_of terms c.args.look)) c.as_slice.ensures (c.has_look.ensures c.if-has_look.true)) terms row

pub returns-clause-rows : goal.returns-clause-rows
returns-clause-rows c = λ terms row. pushed_rows c.args.looks.now c.push.new.self c.args.look c.in_ok-push.ensures.ok terms row

pub returns-clause-bound : goal.returns-clause-bound
returns-clause-bound c = λ n bound before. pushed_bound c.args.looks.now c.push.new.self c.args.look c.in_ok-push.ensures.ok n bound before
