-- Chains of so many references, and the least node from which one leads.
use Rattle.std.proofs.Common.{◌≡◌, ℕ, ◌<◌, List, length, Option, Some, None, subst, arith}
use Rattle.std.specs.Prelude.{◌≢◌, MatchOption, false, slice_get}
use Rattle.std.specs.List.{All, Contains}
use Rattle.std.specs.Ordering.{is_gt}
use Rattle.std.specs.declared.cmp.Ordering.{Ordering}
use Rattle.std.specs.declared.cmp.Ordering.TheVariants.{Greater}
use Rattle.rdf_model.specs.declared.term.Term.{Term}
use Rattle.rdf_model.specs.declared.triple.Triple.{Triple}
use Rattle.rdf_model.specs.Terms.{term_cmp}
use Rattle.shape_syntax.proofs.Items.{get_in}
use Rattle.shape_references.specs.Chains.{AreWithChain, HasChain, IsJoined, IsLeastWithChain}

not_greater : (o : Ordering) → is_gt o ≡ false → o ≢ Greater
not_greater o h e = cc

pub first_key : (keys : List Term) (n : Term) → slice_get keys 0 ≡ Some n → All (λ (m : Term). is_gt (term_cmp n m) ≡ false) keys
    → Contains keys n × ((m : Term) → Contains keys m → term_cmp n m ≢ Greater)
first_key keys n e all = (
  get_in keys 0 n e,
  λ m c. not_greater (term_cmp n m) (subst (λ (x : Term). is_gt (term_cmp n x) ≡ false) c.2 (all c.0 m c.1)),
)

pub no_keys : (keys : List Term) → (0 < length keys → ⊥) → (n : Term) → Contains keys n → ⊥
no_keys keys none n c = none (let l = c.1 in omega arith)

pub least_as : (g : List Triple) (count : ℕ) (nodes : List Term) (found : Option Term) → AreWithChain g count nodes
    → MatchOption found ((n : Term) → Contains nodes n → ⊥) (λ n. Contains nodes n × ((m : Term) → Contains nodes m → term_cmp n m ≢ Greater))
    → MatchOption found ((n : Term) → HasChain (IsJoined g) count n → ⊥) (λ n. IsLeastWithChain g count n)
least_as g count nodes None are h = λ n k. h n ((are n).1 k)
least_as g count nodes (Some n) are h = ((are n).0 h.0, λ m k. h.1 m ((are m).1 k))
