use Rattle.std.proofs.Common.{◌≡◌, ◌<◌, ◌≤◌, List, length, sym, subst, ◌∙◌}
use Rattle.std.specs.List.{HoldsAt}
use Rattle.std.specs.List.Sorted.{IsPartitionPoint}
use Rattle.std.specs.declared.cmp.Ordering.TheVariants.{Less, Equal, Greater}
use Rattle.collections.specs.Ordered.{IsAscending}
use Rattle.page_tree.proofs.Found.{rises, without-free, has-free, without-there, has-there}
use Rattle.page_tree.proofs.leaf.remove_key.Goals as goal

pub returns-in-Ok-clause-keys : goal.returns-in-Ok-clause-keys
returns-in-Ok-clause-keys g c =
    let lt = subst (λ (ks : List g.row.K.Denot). c.in-Ok.at < length ks) c.deref.ensures.value c.in-Ok.ensures.bound in
    let at = subst (λ (ks : List g.row.K.Denot). HoldsAt (λ y. g.K.Ord.cmp y c.args.key.now ≡ Equal) ks c.in-Ok.at) c.deref.ensures.value c.in-Ok.ensures.ok in
    c.remove.ensures.items ∙ without-there g.K.Ord.cmp g.met.K.Ord.total c.args.key.now c.args.keys.now.items c.in-Ok.at c.requires lt at

pub returns-in-Ok-clause-removed : goal.returns-in-Ok-clause-removed
returns-in-Ok-clause-removed g c =
    let lt = subst (λ (ks : List g.row.K.Denot). c.in-Ok.at < length ks) c.deref.ensures.value c.in-Ok.ensures.bound in
    let at = subst (λ (ks : List g.row.K.Denot). HoldsAt (λ y. g.K.Ord.cmp y c.args.key.now ≡ Equal) ks c.in-Ok.at) c.deref.ensures.value c.in-Ok.ensures.ok in
    sym (has-there g.K.Ord.cmp g.met.K.Ord.total c.args.key.now c.args.keys.now.items c.in-Ok.at lt at)

pub returns-in-Err-clause-keys : goal.returns-in-Err-clause-keys
returns-in-Err-clause-keys g c =
    let le = subst (λ (ks : List g.row.K.Denot). c.in-Err.field-0 ≤ length ks) c.deref.ensures.value c.in-Err.ensures.bound in
    let part = subst (λ (ks : List g.row.K.Denot). IsPartitionPoint (λ y. g.K.Ord.cmp y c.args.key.now ≡ Less) (λ y. g.K.Ord.cmp y c.args.key.now ≡ Greater) ks c.in-Err.field-0) c.deref.ensures.value (c.in-Err.ensures.position (rises g.K.Ord.cmp g.met.K.Ord.total c.args.key.now c.deref.result.now (subst (λ (ks : List g.row.K.Denot). IsAscending g.K.Ord.cmp ks) (sym c.deref.ensures.value) c.requires))) in
    sym (without-free g.K.Ord.cmp g.met.K.Ord.total c.args.key.now c.args.keys.now.items c.in-Err.field-0 le part)

pub returns-in-Err-clause-removed : goal.returns-in-Err-clause-removed
returns-in-Err-clause-removed g c =
    let le = subst (λ (ks : List g.row.K.Denot). c.in-Err.field-0 ≤ length ks) c.deref.ensures.value c.in-Err.ensures.bound in
    let part = subst (λ (ks : List g.row.K.Denot). IsPartitionPoint (λ y. g.K.Ord.cmp y c.args.key.now ≡ Less) (λ y. g.K.Ord.cmp y c.args.key.now ≡ Greater) ks c.in-Err.field-0) c.deref.ensures.value (c.in-Err.ensures.position (rises g.K.Ord.cmp g.met.K.Ord.total c.args.key.now c.deref.result.now (subst (λ (ks : List g.row.K.Denot). IsAscending g.K.Ord.cmp ks) (sym c.deref.ensures.value) c.requires))) in
    sym (has-free g.K.Ord.cmp g.met.K.Ord.total c.args.key.now c.args.keys.now.items c.in-Err.field-0 le part)
