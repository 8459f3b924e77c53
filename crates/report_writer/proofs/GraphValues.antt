-- The values of a property at a node that has none of them, or one.
use Rattle.std.proofs.Common.{◌≡◌, List, [], ◌∷◌, refl, sym, subst, arith, inl, inr}
use Rattle.std.specs.List.{Contains}
use Rattle.collections.proofs.Members.{has_cases, has_equal, has_head, same_lists}
use Rattle.rdf_model.specs.declared.term.Term.{Term}
use Rattle.rdf_model.specs.declared.triple.Triple.{Triple}
use Rattle.rdf_model.specs.Orders.{term_total}
use Rattle.rdf_model.specs.Terms.{term_cmp}
use Rattle.shape_model.specs.Declarations.{values_of}
use Rattle.shape_model.specs.Triples.{HasNone, HasOnly}
use Rattle.shape_model.proofs.Declarations.{values_law}

no_items : (xs : List Term) → ((v : Term) → Contains xs v → ⊥) → xs ≡ []
no_items [] none = refl
no_items (x ∷ xs) none = absurd (none x (has_head x xs))

pub no_values : (s : List Triple) (n p : Term) → HasNone s n p → values_of s n p ≡ []
no_values s n p none = no_items (values_of s n p) (λ v c. none v (((values_law s n p).members v).0 c))

pub only_value : (s : List Triple) (n p v : Term) → HasOnly s n p v → values_of s n p ≡ v ∷ []
only_value s n p v only =
    let listing = values_law s n p in
    same_lists term_cmp term_total (values_of s n p) (v ∷ []) listing.ascending (tt, tt) (λ w. (
      λ c. has_equal v [] w (sym (only.1 w ((listing.members w).0 c))),
      λ c. elim (has_cases v [] w c) [
        | inl e ↦ subst (λ (x : Term). Contains (values_of s n p) x) e ((listing.members v).1 only.0)
        | inr d ↦ absurd (omega arith)
      ],
    ))
