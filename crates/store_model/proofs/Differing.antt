-- The triples that are in exactly one of two graphs.
use Rattle.std.proofs.Common.{◌≡◌, Bool, true, false, not, ◌&&◌, ◌||◌, List, [], ◌∷◌, refl, sym, ap, ◌∙◌}
use Rattle.std.specs.Ordering.{eq_by_cmp}
use Rattle.rdf_model.specs.declared.triple.Triple.{Triple}
use Rattle.rdf_model.specs.declared.change.Change.TheVariants.{Add}
use Rattle.rdf_model.specs.Terms.{triple_cmp}
use Rattle.rdf_model.specs.Orders.{triple_total}
use Rattle.rdf_model.specs.Graphs.{changed, differing, lacking, with_each}
use Rattle.collections.specs.Ordered.{IsAscending, has_item}
use Rattle.collections.proofs.Ascending.{IsAscending-with_item}
use Rattle.store_model.proofs.SetMembers.{ascending-filter, member-filter, member-with_item, same_member}

abbrev has : List Triple → Triple → Bool
has g t = has_item triple_cmp t g

in_lacking : (g h : List Triple) (t : Triple) → has (lacking g h) t ≡ (has g t && not (has h t))
in_lacking g h t = member-filter triple_total (λ u. not (has h u)) t g (λ u e. ap not (sym (same_member triple_total u t h e)))

or_move : (a b c : Bool) → (a || (b || c)) ≡ ((b || a) || c)
or_move true true c = refl
or_move true false c = refl
or_move false true c = refl
or_move false false c = refl

or_turn : (a b : Bool) → (a || b) ≡ (b || a)
or_turn true true = refl
or_turn true false = refl
or_turn false true = refl
or_turn false false = refl

in_each : (g ts : List Triple) (t : Triple) → has (with_each g ts) t ≡ (has ts t || has g t)
in_each g [] t = refl
in_each g (u ∷ us) t =
    in_each (changed g (Add u)) us t ∙ (ap (λ b. has us t || b) (member-with_item triple_total u t g) ∙ or_move (has us t) (eq_by_cmp triple_cmp u t) (has g t))

pub member-differing : (g h : List Triple) (t : Triple) → has_item triple_cmp t (differing g h) ≡ ((has_item triple_cmp t g && not (has_item triple_cmp t h)) || (has_item triple_cmp t h && not (has_item triple_cmp t g)))
member-differing g h t =
    in_each (lacking g h) (lacking h g) t
    ∙ (or_turn (has (lacking h g) t) (has (lacking g h) t)
    ∙ (ap (λ b. b || has (lacking h g) t) (in_lacking g h t) ∙ ap (λ b. (has g t && not (has h t)) || b) (in_lacking h g t)))

each_ascends : (g ts : List Triple) → IsAscending triple_cmp g → IsAscending triple_cmp (with_each g ts)
each_ascends g [] a = a
each_ascends g (u ∷ us) a = each_ascends (changed g (Add u)) us (IsAscending-with_item triple_total u g a)

pub ascending-differing : (g h : List Triple) → IsAscending triple_cmp g → IsAscending triple_cmp (differing g h)
ascending-differing g h a = each_ascends (lacking g h) (lacking h g) (ascending-filter triple_total (λ u. not (has h u)) g a)
