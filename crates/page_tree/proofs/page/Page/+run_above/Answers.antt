use Rattle.std.proofs.Common.{◌≡◌, ◌∙◌, List, ap, sym, subst, arith}
use Rattle.std.specs.Prelude.{Some}
use Rattle.page_tree.specs.Blocks.{Block, Image, IsPlace, height_of}
use Rattle.page_tree.specs.Reading.{IsRun, keys_above}
use Rattle.page_tree.proofs.Opened.{opened}
use Rattle.page_tree.proofs.Above.{run-own, run-last, run-next}
use Rattle.page_tree.proofs.page.Page.+run_above.Goals as goal

pub returns-then-run-gt0 : goal.returns-then-run-gt0
returns-then-run-gt0 g t c =
    let over = opened g.K.Ord.cmp c.self.inside.node c.in-Inner.entries c.args.self.now c.self.invariant c.in-Inner.is c.self.view_is in
    let page : c.deref-in-Inner-2.result.now ≡ c.index-entry.result.now.page = c.deref-in-Inner-2.ensures ∙ ap (λ (b : Block g.row.K.Denot). b.page) c.entry.view_is in
    let place = subst (λ (bs : List (Block g.row.K.Denot)). IsPlace g.K.Ord.cmp c.args.key.now bs c.place_of-at.result) c.deref-in-Inner.ensures.value c.place_of-at.ensures in
    let own = subst (λ (d : Image g.row.K.Denot). IsRun c.run_above-run.result.now (keys_above g.K.Ord.cmp (Some c.args.key.now) d.keys)) page c.run_above-run.ensures in
    let some = c.if-run-gt0.true in
    subst (λ (ks : List g.row.K.Denot). IsRun c.run_above-run.result.now (keys_above g.K.Ord.cmp (Some c.args.key.now) ks)) (sym over.keys) (run-own g.K.Ord.cmp g.met.K.Ord.total c.args.key.now (height_of c.in-Inner.entries.items) c.in-Inner.entries.items over.sound c.place_of-at.result place c.index-entry.result.now c.index-entry.ensures c.run_above-run.result.now (omega arith) own)

pub returns-then-at-len : goal.returns-then-at-len
returns-then-at-len g t c =
    let over = opened g.K.Ord.cmp c.self.inside.node c.in-Inner.entries c.args.self.now c.self.invariant c.in-Inner.is c.self.view_is in
    let page : c.deref-in-Inner-2.result.now ≡ c.index-entry.result.now.page = c.deref-in-Inner-2.ensures ∙ ap (λ (b : Block g.row.K.Denot). b.page) c.entry.view_is in
    let place = subst (λ (bs : List (Block g.row.K.Denot)). IsPlace g.K.Ord.cmp c.args.key.now bs c.place_of-at.result) c.deref-in-Inner.ensures.value c.place_of-at.ensures in
    let own = subst (λ (d : Image g.row.K.Denot). IsRun c.run_above-run.result.now (keys_above g.K.Ord.cmp (Some c.args.key.now) d.keys)) page c.run_above-run.ensures in
    let last = c.if-at-len.true in let len = c.len.ensures in
    subst (λ (ks : List g.row.K.Denot). IsRun c.run_above-run.result.now (keys_above g.K.Ord.cmp (Some c.args.key.now) ks)) (sym over.keys) (run-last g.K.Ord.cmp g.met.K.Ord.total c.args.key.now (height_of c.in-Inner.entries.items) c.in-Inner.entries.items over.sound c.place_of-at.result place c.index-entry.result.now c.index-entry.ensures c.run_above-run.result.now (omega arith) own)

pub returns-else-at-len : goal.returns-else-at-len
returns-else-at-len g t c =
    let over = opened g.K.Ord.cmp c.self.inside.node c.in-Inner.entries c.args.self.now c.self.invariant c.in-Inner.is c.self.view_is in
    let page : c.deref-in-Inner-2.result.now ≡ c.index-entry.result.now.page = c.deref-in-Inner-2.ensures ∙ ap (λ (b : Block g.row.K.Denot). b.page) c.entry.view_is in
    let place = subst (λ (bs : List (Block g.row.K.Denot)). IsPlace g.K.Ord.cmp c.args.key.now bs c.place_of-at.result) c.deref-in-Inner.ensures.value c.place_of-at.ensures in
    let own = subst (λ (d : Image g.row.K.Denot). IsRun c.run_above-run.result.now (keys_above g.K.Ord.cmp (Some c.args.key.now) d.keys)) page c.run_above-run.ensures in
    let next : c.deref-in-Inner-3.result.now ≡ c.index-entry-in-Inner.result.now.page = c.deref-in-Inner-3.ensures ∙ ap (λ (b : Block g.row.K.Denot). b.page) c.entry-in-Inner.view_is in
    let first = subst (λ (d : Image g.row.K.Denot). IsRun c.first_run.result.now d.keys) next c.first_run.ensures in
    let none = c.if-run-gt0.false in let more = c.if-at-len.false in let len = c.len.ensures in let within = place.within in
    subst (λ (ks : List g.row.K.Denot). IsRun c.first_run.result.now (keys_above g.K.Ord.cmp (Some c.args.key.now) ks)) (sym over.keys) (run-next g.K.Ord.cmp g.met.K.Ord.total c.args.key.now (height_of c.in-Inner.entries.items) c.in-Inner.entries.items over.sound c.place_of-at.result place c.index-entry.result.now c.index-entry.ensures c.first_run.result.now c.run_above-run.result.now c.index-entry-in-Inner.result.now (omega arith) own (omega arith) c.index-entry-in-Inner.ensures first)
