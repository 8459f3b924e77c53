use Rattle.std.proofs.Common.{refl, sym}
use Rattle.shape_syntax.proofs.Loops.{gave, gave_none}
use Rattle.shape_sizes.proofs.PathPlaces.{IsPathValueOf}
use Rattle.shape_sizes.proofs.path_looks.push_path_value.Goals as goal

pub returns-then-leads_to_path : goal.returns-then-leads_to_path
returns-then-leads_to_path c = gave (IsPathValueOf c.args.triple.now) c.args.nodes.now c.push.new.self c.args.triple.now.object (rw c.in_ok-clone.ensures.cases at c.in_ok-push.ensures.ok)
    (c.leads_to_path.ensures.0 c.if-leads_to_path.true, refl) (λ x h. sym h.1)

pub returns : goal.returns
returns c = gave_none (IsPathValueOf c.args.triple.now) c.args.nodes.now (λ n h. let k = c.leads_to_path.ensures.1 h.0 in cc)
