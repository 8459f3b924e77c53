-- Which triples of numbers a pattern asks for.
use Rattle.std.specs.Prelude.{◌≡◌, ◌↔◌, ℕ, Bool, true, ◌&&◌, ◌==◌, Option, None, Some, List, [], ◌∷◌}
use Rattle.std.specs.List.{Contains}
use Rattle.std.specs.declared.cmp.Ordering.{Ordering}
use Rattle.std.specs.declared.cmp.Ordering.TheVariants.{Equal}
use Rattle.std.specs.Ordering.{nat_cmp, ordering_then, is_eq}
use Rattle.rdf_model.specs.declared.ids.Ids.{Ids}
use Rattle.triple_index.specs.declared.key.Key.{Key}
use Rattle.triple_index.specs.declared.prefix.Prefix.{Prefix}
use Rattle.triple_index.specs.declared.prefix.Prefix.TheVariants.{All, One, Two}

-- None stands for any number
abbrev pub fits_number : Option ℕ → ℕ → Bool
fits_number None n = true
fits_number (Some x) n = x == n

abbrev pub matches_ids : Option ℕ → Option ℕ → Option ℕ → Ids → Bool
matches_ids s p o t = fits_number s t.subject && fits_number p t.predicate && fits_number o t.object

-- no item stands twice
abbrev pub AreApart : {X : Type 0} → List X → Type 0
AreApart [] = Unit {0}
AreApart (x ∷ xs) = (Contains xs x → ⊥) × AreApart xs

-- the list has just the items of which P holds, each once
pub record ListsOnce {X : Type 0} (P : X → Type 0) (items : List X) : Type 0 where
  pub apart : AreApart items
  pub members : (x : X) → Contains items x ↔ P x

-- the triple is one of these, and the pattern asks for it
pub record IsMatch (s p o : Option ℕ) (ids : List Ids) (t : Ids) : Type 0 where
  pub there : Contains ids t
  pub fits : matches_ids s p o t ≡ true

-- how a key stands to the keys that begin so, and whether it is one of them
abbrev pub prefix_cmp : Prefix → Key → Ordering
prefix_cmp All k = Equal
prefix_cmp (One x) k = nat_cmp k.first x
prefix_cmp (Two x y) k = ordering_then (nat_cmp k.first x) (nat_cmp k.second y)

abbrev pub begins_with : Prefix → Key → Bool
begins_with p k = is_eq (prefix_cmp p k)
