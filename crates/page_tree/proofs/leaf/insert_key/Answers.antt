use Rattle.std.proofs.Common.{◌≡◌, ◌<◌, ◌≤◌, List, length, sym, ap, subst, ◌∙◌}
use Rattle.std.specs.Prelude.{not}
use Rattle.std.specs.List.{HoldsAt}
use Rattle.std.specs.List.Sorted.{IsPartitionPoint}
use Rattle.std.specs.declared.cmp.Ordering.TheVariants.{Less, Equal, Greater}
use Rattle.collections.specs.Ordered.{IsAscending}
use Rattle.page_tree.proofs.Found.{rises, with-free, has-free, with-there, has-there}
use Rattle.page_tree.proofs.leaf.insert_key.Goals as goal

pub returns-in-Ok : goal.returns-in-Ok
returns-in-Ok g c =
    let lt = subst (λ (ks : List g.row.K.Denot). c.in-Ok.field-0 < length ks) c.deref.ensures.value c.in-Ok.ensures.bound in
    let at = subst (λ (ks : List g.row.K.Denot). HoldsAt (λ y. g.K.Ord.cmp y c.args.key ≡ Equal) ks c.in-Ok.field-0) c.deref.ensures.value c.in-Ok.ensures.ok in (
      sym (with-there g.K.Ord.cmp g.met.K.Ord.total c.args.key c.args.keys.now.items c.in-Ok.field-0 c.requires lt at),
      sym (ap not (has-there g.K.Ord.cmp g.met.K.Ord.total c.args.key c.args.keys.now.items c.in-Ok.field-0 lt at)),
    )

pub returns-in_ok-insert-in-Err : goal.returns-in_ok-insert-in-Err
returns-in_ok-insert-in-Err g c =
    let le = subst (λ (ks : List g.row.K.Denot). c.in-Err.at ≤ length ks) c.deref.ensures.value c.in-Err.ensures.bound in
    let part = subst (λ (ks : List g.row.K.Denot). IsPartitionPoint (λ y. g.K.Ord.cmp y c.args.key ≡ Less) (λ y. g.K.Ord.cmp y c.args.key ≡ Greater) ks c.in-Err.at) c.deref.ensures.value (c.in-Err.ensures.position (rises g.K.Ord.cmp g.met.K.Ord.total c.args.key c.deref.result.now (subst (λ (ks : List g.row.K.Denot). IsAscending g.K.Ord.cmp ks) (sym c.deref.ensures.value) c.requires))) in (
      c.in_ok-insert-in-Err.ensures.items ∙ with-free g.K.Ord.cmp g.met.K.Ord.total c.args.key c.args.keys.now.items c.in-Err.at le part,
      sym (ap not (has-free g.K.Ord.cmp g.met.K.Ord.total c.args.key c.args.keys.now.items c.in-Err.at le part)),
    )
