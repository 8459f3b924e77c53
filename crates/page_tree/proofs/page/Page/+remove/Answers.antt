use Rattle.std.proofs.Common.{◌≡◌, ◌∙◌, ◌+◌, ◌<◌, ◌≤◌, ℕ, length, ap, sym, subst, refl, arith, inl, inr, IsOk}
use Rattle.std.proofs.lemmas.Result.{err_from_is_err_and}
use Rattle.std.specs.Prelude.{◌⊎◌, OnErr}
use Rattle.std.specs.Arc.{arc_value}
use Rattle.collections.specs.Ordered.{has_item}
use Rattle.page_tree.specs.Blocks.{Block, least}
use Rattle.page_tree.proofs.Opened.{opened, opened-leaf, two-below}
use Rattle.page_tree.proofs.Swaps.{width-get}
use Rattle.page_tree.proofs.Steps.{step-none, step-same, entry-same, step-kept, step-removed, step-found, step-lower, step-width, leaf-removed}
use Rattle.page_tree.proofs.page.Page.+remove.Goals as goal

pub invariant_of-self : goal.invariant_of-self
invariant_of-self g t c =
    let leaf = opened-leaf g.K.Ord.cmp c.self.inside.node c.in-Leaf.keys c.args.self.now c.self.invariant c.in-Leaf.is c.self.view_is in
    let step = leaf-removed g.K.Ord.cmp g.met.K.Ord.total c.args.key.now c.args.self.now c.in-Leaf.keys.items leaf c.remove_key.new.keys.items c.remove_key.ensures.keys in
    step.page

pub returns-in-Leaf : goal.returns-in-Leaf
returns-in-Leaf g t c =
    let leaf = opened-leaf g.K.Ord.cmp c.self.inside.node c.in-Leaf.keys c.args.self.now c.self.invariant c.in-Leaf.is c.self.view_is in
    let step = leaf-removed g.K.Ord.cmp g.met.K.Ord.total c.args.key.now c.args.self.now c.in-Leaf.keys.items leaf c.remove_key.new.keys.items c.remove_key.ensures.keys in
    (step.image, c.remove_key.ensures.removed ∙ ap (has_item g.K.Ord.cmp c.args.key.now) (sym leaf.keys))

pub invariant_of-self-in_err-at-in-Inner : goal.invariant_of-self-in_err-at-in-Inner
invariant_of-self-in_err-at-in-Inner g t c =
    let over = opened g.K.Ord.cmp c.self.inside.node c.in-Inner.entries c.args.self.now c.self.invariant c.in-Inner.is c.self.view_is in
    let two : 1 < length c.in-Inner.entries.items = two-below c.args.self.now c.in-Inner.entries.items over c.requires in
    (step-none g.K.Ord.cmp g.met.K.Ord.total c.args.key.now c.args.self.now c.in-Inner.entries.items over 1 two c.spare_for.new.entries.items c.spare_for.ensures.kept).page

pub returns-in_err-at-in-Inner : goal.returns-in_err-at-in-Inner
returns-in_err-at-in-Inner g t c =
    let over = opened g.K.Ord.cmp c.self.inside.node c.in-Inner.entries c.args.self.now c.self.invariant c.in-Inner.is c.self.view_is in
    let two : 1 < length c.in-Inner.entries.items = two-below c.args.self.now c.in-Inner.entries.items over c.requires in
    let p = err_from_is_err_and c.from_residual.result c.from_residual.ensures.1 in rw p.1 (step-none g.K.Ord.cmp g.met.K.Ord.total c.args.key.now c.args.self.now c.in-Inner.entries.items over 1 two c.spare_for.new.entries.items c.spare_for.ensures.kept).image

pub remove-requires : goal.remove-requires
remove-requires g t c κs within =
    let was : c.in_ok-make_mut-in-Inner.field-0.now ≡ c.index_mut-entry.result.now.page = elim c.in_ok-make_mut-in-Inner.ensures.value [ inl e ↦ e | inr e ↦ e ] ∙ ap (λ (b : Block g.row.K.Denot). b.page) c.entry.view_is in
    let over = opened g.K.Ord.cmp c.self.inside.node c.in-Inner.entries c.args.self.now c.self.invariant c.in-Inner.is c.self.view_is in
    let two : 1 < length c.in-Inner.entries.items = two-below c.args.self.now c.in-Inner.entries.items over c.requires in
    let lower = step-lower g.K.Ord.cmp g.met.K.Ord.total c.args.key.now c.args.self.now c.in-Inner.entries.items over 1 two c.spare_for.new.entries.items c.spare_for.ensures.kept c.in_ok-at-in-Inner.at c.in_ok-at-in-Inner.ensures.place.0 c.index_mut-entry.result.now c.index_mut-entry.ensures.value c.in_ok-make_mut-in-Inner.field-0.now was in
    let spare : least < c.in_ok-make_mut-in-Inner.field-0.now.width = subst (λ (n : ℕ). least < n) (step-width g.K.Ord.cmp g.met.K.Ord.total c.args.key.now c.args.self.now c.in-Inner.entries.items over 1 two c.spare_for.new.entries.items c.spare_for.ensures.kept c.in_ok-at-in-Inner.at c.in_ok-at-in-Inner.ensures.place.0 c.index_mut-entry.result.now c.index_mut-entry.ensures.value c.in_ok-make_mut-in-Inner.field-0.now was) c.in_ok-at-in-Inner.ensures.place.1 in
    (omega (arith, c.decreases), (within, inr (omega arith)))

pub invariant_of-self-in_err-removed-in-Inner : goal.invariant_of-self-in_err-removed-in-Inner
invariant_of-self-in_err-removed-in-Inner g t c =
    let was : c.in_ok-make_mut-in-Inner.field-0.now ≡ c.index_mut-entry.result.now.page = elim c.in_ok-make_mut-in-Inner.ensures.value [ inl e ↦ e | inr e ↦ e ] ∙ ap (λ (b : Block g.row.K.Denot). b.page) c.entry.view_is in
    let new : arc_value (c.make_mut.follows.lender c.remove.new.self) ≡ c.remove.new.self = c.make_mut.follows.holds c.remove.new.self (subst (λ r. IsOk r) (sym c.in_ok-make_mut-in-Inner.was) refl) in
    let over = opened g.K.Ord.cmp c.self.inside.node c.in-Inner.entries c.args.self.now c.self.invariant c.in-Inner.is c.self.view_is in
    let two : 1 < length c.in-Inner.entries.items = two-below c.args.self.now c.in-Inner.entries.items over c.requires in
    let spare : least < c.in_ok-make_mut-in-Inner.field-0.now.width = subst (λ (n : ℕ). least < n) (step-width g.K.Ord.cmp g.met.K.Ord.total c.args.key.now c.args.self.now c.in-Inner.entries.items over 1 two c.spare_for.new.entries.items c.spare_for.ensures.kept c.in_ok-at-in-Inner.at c.in_ok-at-in-Inner.ensures.place.0 c.index_mut-entry.result.now c.index_mut-entry.ensures.value c.in_ok-make_mut-in-Inner.field-0.now was) c.in_ok-at-in-Inner.ensures.place.1 in
    let wide : least + 1 ≤ c.in_ok-make_mut-in-Inner.field-0.now.width = omega arith in
    let step = step-kept g.K.Ord.cmp g.met.K.Ord.total c.args.key.now c.args.self.now c.in-Inner.entries.items over 1 two c.spare_for.new.entries.items c.spare_for.ensures.kept c.in_ok-at-in-Inner.at c.in_ok-at-in-Inner.ensures.place.0 c.index_mut-entry.result.now c.index_mut-entry.ensures.value c.in_ok-make_mut-in-Inner.field-0.now was wide c.entry.inside.low (arc_value (c.make_mut.follows.lender c.remove.new.self)) c.remove.new.self (ap (λ (b : Block g.row.K.Denot). b.low) c.entry.view_is) new c.in_err-removed-in-Inner.ensures in
    step.page

pub returns-in_err-removed-in-Inner : goal.returns-in_err-removed-in-Inner
returns-in_err-removed-in-Inner g t c =
    let was : c.in_ok-make_mut-in-Inner.field-0.now ≡ c.index_mut-entry.result.now.page = elim c.in_ok-make_mut-in-Inner.ensures.value [ inl e ↦ e | inr e ↦ e ] ∙ ap (λ (b : Block g.row.K.Denot). b.page) c.entry.view_is in
    let new : arc_value (c.make_mut.follows.lender c.remove.new.self) ≡ c.remove.new.self = c.make_mut.follows.holds c.remove.new.self (subst (λ r. IsOk r) (sym c.in_ok-make_mut-in-Inner.was) refl) in
    let over = opened g.K.Ord.cmp c.self.inside.node c.in-Inner.entries c.args.self.now c.self.invariant c.in-Inner.is c.self.view_is in
    let two : 1 < length c.in-Inner.entries.items = two-below c.args.self.now c.in-Inner.entries.items over c.requires in
    let spare : least < c.in_ok-make_mut-in-Inner.field-0.now.width = subst (λ (n : ℕ). least < n) (step-width g.K.Ord.cmp g.met.K.Ord.total c.args.key.now c.args.self.now c.in-Inner.entries.items over 1 two c.spare_for.new.entries.items c.spare_for.ensures.kept c.in_ok-at-in-Inner.at c.in_ok-at-in-Inner.ensures.place.0 c.index_mut-entry.result.now c.index_mut-entry.ensures.value c.in_ok-make_mut-in-Inner.field-0.now was) c.in_ok-at-in-Inner.ensures.place.1 in
    let wide : least + 1 ≤ c.in_ok-make_mut-in-Inner.field-0.now.width = omega arith in
    let step = step-kept g.K.Ord.cmp g.met.K.Ord.total c.args.key.now c.args.self.now c.in-Inner.entries.items over 1 two c.spare_for.new.entries.items c.spare_for.ensures.kept c.in_ok-at-in-Inner.at c.in_ok-at-in-Inner.ensures.place.0 c.index_mut-entry.result.now c.index_mut-entry.ensures.value c.in_ok-make_mut-in-Inner.field-0.now was wide c.entry.inside.low (arc_value (c.make_mut.follows.lender c.remove.new.self)) c.remove.new.self (ap (λ (b : Block g.row.K.Denot). b.low) c.entry.view_is) new c.in_err-removed-in-Inner.ensures in
    let p = err_from_is_err_and c.from_residual-in_err-removed-in-Inner.result c.from_residual-in_err-removed-in-Inner.ensures.1 in rw p.1 step.image

pub invariant_of-self-in-Inner : goal.invariant_of-self-in-Inner
invariant_of-self-in-Inner g t c =
    let was : c.in_ok-make_mut-in-Inner.field-0.now ≡ c.index_mut-entry.result.now.page = elim c.in_ok-make_mut-in-Inner.ensures.value [ inl e ↦ e | inr e ↦ e ] ∙ ap (λ (b : Block g.row.K.Denot). b.page) c.entry.view_is in
    let new : arc_value (c.make_mut.follows.lender c.remove.new.self) ≡ c.remove.new.self = c.make_mut.follows.holds c.remove.new.self (subst (λ r. IsOk r) (sym c.in_ok-make_mut-in-Inner.was) refl) in
    let over = opened g.K.Ord.cmp c.self.inside.node c.in-Inner.entries c.args.self.now c.self.invariant c.in-Inner.is c.self.view_is in
    let two : 1 < length c.in-Inner.entries.items = two-below c.args.self.now c.in-Inner.entries.items over c.requires in
    let spare : least < c.in_ok-make_mut-in-Inner.field-0.now.width = subst (λ (n : ℕ). least < n) (step-width g.K.Ord.cmp g.met.K.Ord.total c.args.key.now c.args.self.now c.in-Inner.entries.items over 1 two c.spare_for.new.entries.items c.spare_for.ensures.kept c.in_ok-at-in-Inner.at c.in_ok-at-in-Inner.ensures.place.0 c.index_mut-entry.result.now c.index_mut-entry.ensures.value c.in_ok-make_mut-in-Inner.field-0.now was) c.in_ok-at-in-Inner.ensures.place.1 in
    let wide : least + 1 ≤ c.in_ok-make_mut-in-Inner.field-0.now.width = omega arith in
    let step = step-removed g.K.Ord.cmp g.met.K.Ord.total c.args.key.now c.args.self.now c.in-Inner.entries.items over 1 two c.spare_for.new.entries.items c.spare_for.ensures.kept c.in_ok-at-in-Inner.at c.in_ok-at-in-Inner.ensures.place.0 c.index_mut-entry.result.now c.index_mut-entry.ensures.value c.in_ok-make_mut-in-Inner.field-0.now was wide c.entry.inside.low (arc_value (c.make_mut.follows.lender c.remove.new.self)) c.remove.new.self (ap (λ (b : Block g.row.K.Denot). b.low) c.entry.view_is) new c.in_ok-low-in-Inner.low c.set_low.new.entry c.set_low.ensures c.in_ok-low-in-Inner.ensures c.in_ok-removed-in-Inner.ensures.0 in
    step.page

pub returns-in-Inner : goal.returns-in-Inner
returns-in-Inner g t c =
    let was : c.in_ok-make_mut-in-Inner.field-0.now ≡ c.index_mut-entry.result.now.page = elim c.in_ok-make_mut-in-Inner.ensures.value [ inl e ↦ e | inr e ↦ e ] ∙ ap (λ (b : Block g.row.K.Denot). b.page) c.entry.view_is in
    let new : arc_value (c.make_mut.follows.lender c.remove.new.self) ≡ c.remove.new.self = c.make_mut.follows.holds c.remove.new.self (subst (λ r. IsOk r) (sym c.in_ok-make_mut-in-Inner.was) refl) in
    let over = opened g.K.Ord.cmp c.self.inside.node c.in-Inner.entries c.args.self.now c.self.invariant c.in-Inner.is c.self.view_is in
    let two : 1 < length c.in-Inner.entries.items = two-below c.args.self.now c.in-Inner.entries.items over c.requires in
    let spare : least < c.in_ok-make_mut-in-Inner.field-0.now.width = subst (λ (n : ℕ). least < n) (step-width g.K.Ord.cmp g.met.K.Ord.total c.args.key.now c.args.self.now c.in-Inner.entries.items over 1 two c.spare_for.new.entries.items c.spare_for.ensures.kept c.in_ok-at-in-Inner.at c.in_ok-at-in-Inner.ensures.place.0 c.index_mut-entry.result.now c.index_mut-entry.ensures.value c.in_ok-make_mut-in-Inner.field-0.now was) c.in_ok-at-in-Inner.ensures.place.1 in
    let wide : least + 1 ≤ c.in_ok-make_mut-in-Inner.field-0.now.width = omega arith in
    let step = step-removed g.K.Ord.cmp g.met.K.Ord.total c.args.key.now c.args.self.now c.in-Inner.entries.items over 1 two c.spare_for.new.entries.items c.spare_for.ensures.kept c.in_ok-at-in-Inner.at c.in_ok-at-in-Inner.ensures.place.0 c.index_mut-entry.result.now c.index_mut-entry.ensures.value c.in_ok-make_mut-in-Inner.field-0.now was wide c.entry.inside.low (arc_value (c.make_mut.follows.lender c.remove.new.self)) c.remove.new.self (ap (λ (b : Block g.row.K.Denot). b.low) c.entry.view_is) new c.in_ok-low-in-Inner.low c.set_low.new.entry c.set_low.ensures c.in_ok-low-in-Inner.ensures c.in_ok-removed-in-Inner.ensures.0 in
    (step.image, c.in_ok-removed-in-Inner.ensures.1 ∙ step-found g.K.Ord.cmp g.met.K.Ord.total c.args.key.now c.args.self.now c.in-Inner.entries.items over 1 two c.spare_for.new.entries.items c.spare_for.ensures.kept c.in_ok-at-in-Inner.at c.in_ok-at-in-Inner.ensures.place.0 c.index_mut-entry.result.now c.index_mut-entry.ensures.value c.in_ok-make_mut-in-Inner.field-0.now was)

pub next_low-requires : goal.next_low-requires
next_low-requires g t c =
    let place = c.in_ok-at-in-Inner.ensures.place.0 in
    let wide = width-get c.spare_for.new.entries.items c.in_ok-at-in-Inner.at c.index_mut-entry.result.now place.within ∙ ap (λ (b : Block g.row.K.Denot). b.page.width) (sym c.index_mut-entry.ensures.value) in
    let spare = c.in_ok-at-in-Inner.ensures.place.1 in
    omega arith

pub invariant_of-self-in_err-low-in-Inner : goal.invariant_of-self-in_err-low-in-Inner
invariant_of-self-in_err-low-in-Inner g t c =
    let over = opened g.K.Ord.cmp c.self.inside.node c.in-Inner.entries c.args.self.now c.self.invariant c.in-Inner.is c.self.view_is in
    let two : 1 < length c.in-Inner.entries.items = two-below c.args.self.now c.in-Inner.entries.items over c.requires in
    (step-same g.K.Ord.cmp g.met.K.Ord.total c.args.key.now c.args.self.now c.in-Inner.entries.items over 1 two c.spare_for.new.entries.items c.spare_for.ensures.kept c.in_ok-at-in-Inner.at c.in_ok-at-in-Inner.ensures.place.0.within c.index_mut-entry.result.now c.index_mut-entry.result.now c.index_mut-entry.ensures.value refl).page

pub returns-in_err-low-in-Inner : goal.returns-in_err-low-in-Inner
returns-in_err-low-in-Inner g t c =
    let over = opened g.K.Ord.cmp c.self.inside.node c.in-Inner.entries c.args.self.now c.self.invariant c.in-Inner.is c.self.view_is in
    let two : 1 < length c.in-Inner.entries.items = two-below c.args.self.now c.in-Inner.entries.items over c.requires in
    let p = err_from_is_err_and c.from_residual-in_err-low-in-Inner.result c.from_residual-in_err-low-in-Inner.ensures.1 in rw p.1 (step-same g.K.Ord.cmp g.met.K.Ord.total c.args.key.now c.args.self.now c.in-Inner.entries.items over 1 two c.spare_for.new.entries.items c.spare_for.ensures.kept c.in_ok-at-in-Inner.at c.in_ok-at-in-Inner.ensures.place.0.within c.index_mut-entry.result.now c.index_mut-entry.result.now c.index_mut-entry.ensures.value refl).image

pub invariant_of-self-in_err-make_mut-in-Inner : goal.invariant_of-self-in_err-make_mut-in-Inner
invariant_of-self-in_err-make_mut-in-Inner g t c =
    let over = opened g.K.Ord.cmp c.self.inside.node c.in-Inner.entries c.args.self.now c.self.invariant c.in-Inner.is c.self.view_is in
    let two : 1 < length c.in-Inner.entries.items = two-below c.args.self.now c.in-Inner.entries.items over c.requires in
    let was : arc_value c.make_mut.follows.lender-at-none ≡ arc_value c.entry.inside.page = elim (subst (λ r. OnErr r ((arc_value c.make_mut.follows.lender-at-none ≡ arc_value c.entry.inside.page) ⊎ (arc_value c.make_mut.follows.lender-at-none ≡ arc_value c.entry.inside.page))) c.in_err-make_mut-in-Inner.was c.make_mut.follows.holds-at-none) [ inl e ↦ e | inr e ↦ e ] in
    let same = entry-same c.index_mut-entry.result.now c.entry.inside.low (arc_value c.make_mut.follows.lender-at-none) (arc_value c.entry.inside.page) was c.entry.view_is in
    (step-same g.K.Ord.cmp g.met.K.Ord.total c.args.key.now c.args.self.now c.in-Inner.entries.items over 1 two c.spare_for.new.entries.items c.spare_for.ensures.kept c.in_ok-at-in-Inner.at c.in_ok-at-in-Inner.ensures.place.0.within c.index_mut-entry.result.now (record { low = c.entry.inside.low; page = arc_value c.make_mut.follows.lender-at-none }) c.index_mut-entry.ensures.value same).page

pub returns-in_err-make_mut-in-Inner : goal.returns-in_err-make_mut-in-Inner
returns-in_err-make_mut-in-Inner g t c =
    let over = opened g.K.Ord.cmp c.self.inside.node c.in-Inner.entries c.args.self.now c.self.invariant c.in-Inner.is c.self.view_is in
    let two : 1 < length c.in-Inner.entries.items = two-below c.args.self.now c.in-Inner.entries.items over c.requires in
    let was : arc_value c.make_mut.follows.lender-at-none ≡ arc_value c.entry.inside.page = elim (subst (λ r. OnErr r ((arc_value c.make_mut.follows.lender-at-none ≡ arc_value c.entry.inside.page) ⊎ (arc_value c.make_mut.follows.lender-at-none ≡ arc_value c.entry.inside.page))) c.in_err-make_mut-in-Inner.was c.make_mut.follows.holds-at-none) [ inl e ↦ e | inr e ↦ e ] in
    let same = entry-same c.index_mut-entry.result.now c.entry.inside.low (arc_value c.make_mut.follows.lender-at-none) (arc_value c.entry.inside.page) was c.entry.view_is in
    let p = err_from_is_err_and c.from_residual-in_err-make_mut-in-Inner.result c.from_residual-in_err-make_mut-in-Inner.ensures.1 in rw p.1 (step-same g.K.Ord.cmp g.met.K.Ord.total c.args.key.now c.args.self.now c.in-Inner.entries.items over 1 two c.spare_for.new.entries.items c.spare_for.ensures.kept c.in_ok-at-in-Inner.at c.in_ok-at-in-Inner.ensures.place.0.within c.index_mut-entry.result.now (record { low = c.entry.inside.low; page = arc_value c.make_mut.follows.lender-at-none }) c.index_mut-entry.ensures.value same).image
