use Rattle.std.proofs.Common.{◌≡◌, ◌∷◌, [], arith, length, rules, vec_len}
use Rattle.bgp_query.proofs.Rows.{row_listed}
use Rattle.bgp_query.proofs.join.add_row.Goals as goal

pub returns : goal.returns
returns c =
    let many : vec_len c.push_row.new.rows ≡ length c.push_row.new.rows.items = search rules in
    let row = c.in_ok-row_of.field-0 in
    record {
      added = row ∷ [];
      grown = c.in_ok-push_row.ensures;
      listed = row_listed c.args.variables c.args.trail.now row c.requires.covered c.in_ok-row_of.ensures;
      few = omega (arith, many);
    }
