use Rattle.std.proofs.Common.{◌∙◌, List, ℕ, sym, ap, subst}
use Rattle.std.specs.Ordering.{nat_cmp}
use Rattle.std.specs.Cmp.Lexicographic.{slice_cmp}
use Rattle.std.specs.BTreeSet.{insert_key}
use Rattle.string_constraints.specs.Languages.{Adds}
use Rattle.string_constraints.proofs.Tags.{key_added}
use Rattle.string_constraints.proofs.shared_tag.keep.Goals as goal

pub returns : goal.returns
returns c =
    let old = c.args.tags.now.keys in
    subst (λ (keys : List (List ℕ)). Adds old c.args.tag.now keys) (sym (c.in_ok-insert.ensures.keys ∙ ap (insert_key (slice_cmp nat_cmp) old) c.in_ok-clone.ensures.cases))
    (key_added old c.args.tag.now)
