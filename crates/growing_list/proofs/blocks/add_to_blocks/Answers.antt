use Rattle.std.proofs.Common.{◌≡◌, ◌∷◌, ◌++◌, ◌<◌, [], List, length, get_or, sym, subst, ap, ◌∙◌, arith}
use Rattle.growing_list.specs.Chunks.{AreFull, HasOneMore, full_block}
use Rattle.growing_list.proofs.Filled.{in_last, in_new}
use Rattle.growing_list.proofs.blocks.add_to_blocks.Goals as goal

pub returns-in-Some-clause-ok : goal.returns-in-Some-clause-ok
returns-in-Some-clause-ok g c =
    let at = c.in-Some.at in
    let few : length (get_or c.args.blocks.now.items at []) < full_block = subst (λ (cs : List (List g.row.T.Denot)). length (get_or cs at []) < full_block) c.deref.ensures.value c.in-Some.ensures.1 in
    in_last full_block c.args.blocks.now.items at c.index_mut.result.now c.push.new.self c.args.item c.requires (c.in-Some.ensures.0 ∙ ap length c.deref.ensures.value) few c.index_mut.ensures.value c.in_ok-push-in-Some.ensures.ok

pub returns-in-None-clause-ok : goal.returns-in-None-clause-ok
returns-in-None-clause-ok g c =
    let more : c.push-in-None.new.self.items ≡ c.args.blocks.now.items ++ (c.args.item ∷ []) ∷ [] = c.in_ok-push-in-None.ensures.items ∙ ap (λ (d : List g.row.T.Denot). c.args.blocks.now.items ++ d ∷ []) c.in_ok-of_one-in-None.ensures in
    subst (λ (cs : List (List g.row.T.Denot)). HasOneMore full_block c.args.item c.args.blocks.now.items cs) (sym more) (in_new full_block c.args.blocks.now.items c.args.item (omega arith) (subst (λ (cs : List (List g.row.T.Denot)). AreFull full_block cs) c.deref.ensures.value c.in-None.ensures))
