use Rattle.std.proofs.Common.{◌≡◌, ◌∙◌, List, ap, sym, subst}
use Rattle.collections.specs.Ordered.{IsAscending, has_item}
use Rattle.page_tree.specs.Blocks.{Block, Image, IsPlace, height_of}
use Rattle.page_tree.specs.Pages.{image_of}
use Rattle.page_tree.proofs.Opened.{opened, opened-leaf}
use Rattle.page_tree.proofs.Reached.{found-result}
use Rattle.page_tree.proofs.Changes.{found}
use Rattle.page_tree.proofs.page.Page.+contains.Goals as goal

pub returns-in-Leaf : goal.returns-in-Leaf
returns-in-Leaf g t c =
    let keys = sym (ap (λ (d : Image g.row.K.Denot). d.keys) (ap image_of (sym c.in-Leaf.is) ∙ c.self.view_is)) in
    let leaf = opened-leaf g.K.Ord.cmp c.self.inside.node c.in-Leaf.keys c.args.self.now c.self.invariant c.in-Leaf.is c.self.view_is in
    let rises = subst (λ (ks : List g.row.K.Denot). IsAscending g.K.Ord.cmp ks) (sym c.deref.ensures.value) leaf.ascending in
    c.is_ok.ensures.value ∙ found-result g.K.Ord.cmp g.met.K.Ord.total c.args.key.now c.deref.result.now c.binary_search.result rises c.binary_search.ensures.bound c.binary_search.ensures.position ∙ ap (λ (ks : List g.row.K.Denot). has_item g.K.Ord.cmp c.args.key.now ks) (c.deref.ensures.value ∙ sym keys)

pub returns-in-Inner : goal.returns-in-Inner
returns-in-Inner g t c =
    let over = opened g.K.Ord.cmp c.self.inside.node c.in-Inner.entries c.args.self.now c.self.invariant c.in-Inner.is c.self.view_is in
    let page : c.deref-in-Inner-2.result.now ≡ c.index-entry.result.now.page = c.deref-in-Inner-2.ensures ∙ ap (λ (b : Block g.row.K.Denot). b.page) c.entry.view_is in
    let place = subst (λ (bs : List (Block g.row.K.Denot)). IsPlace g.K.Ord.cmp c.args.key.now bs c.place_of-at.result) c.deref-in-Inner.ensures.value c.place_of-at.ensures in
    c.contains.ensures ∙ ap (λ (d : Image g.row.K.Denot). has_item g.K.Ord.cmp c.args.key.now d.keys) page ∙ sym (found g.K.Ord.cmp g.met.K.Ord.total c.args.key.now (height_of c.in-Inner.entries.items) c.in-Inner.entries.items over.sound c.place_of-at.result place c.index-entry.result.now c.index-entry.ensures) ∙ ap (λ (ks : List g.row.K.Denot). has_item g.K.Ord.cmp c.args.key.now ks) (sym over.keys)
