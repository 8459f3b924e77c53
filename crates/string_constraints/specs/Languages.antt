-- Language tags of value nodes (SHACL 4.4.4 and 4.4.5).
use Rattle.std.specs.Prelude.{◌≡◌, ◌≢◌, ◌⊎◌, ◌↔◌, ℕ, Bool, false, List, Option, Some, None, option_map}
use Rattle.std.specs.List.{Contains}
use Rattle.std.specs.Option.{unwrap_or}
use Rattle.rdf_model.specs.declared.term.Term.{Term}
use Rattle.rdf_model.specs.declared.term.Term.TheVariants.{Blank, Iri, Literal}
use Rattle.literal_order.specs.Texts.{lang_matches, string_value}
use Rattle.shape_model.specs.Components.{Finding}
use Rattle.shape_model.specs.TermTests.{HasTag}
use Rattle.shape_model.specs.Vocabulary.{string_literal}
use Rattle.component_rows.specs.Nodes.{HasNode}

-- the language tag of a literal that has one
abbrev pub tag_of : Term → Option (List ℕ)
tag_of (Blank session number) = None
tag_of (Iri iri) = None
tag_of (Literal text datatype language) = language

-- whether the text of the term is a range that matches the tag
abbrev pub is_in_range : List ℕ → Term → Bool
is_in_range tag range = unwrap_or (option_map (lang_matches tag) (string_value range)) false

-- the tags before and the tag
abbrev pub Adds : List (List ℕ) → List ℕ → List (List ℕ) → Type 0
Adds before tag after = (t : List ℕ) → Contains after t ↔ (Contains before t ⊎ (tag ≡ t))

-- The tag of one node more, where it has one, is seen, and shared where it was seen before.
pub record Notes (tag : Option (List ℕ)) (old old_shared new new_shared : List (List ℕ)) : Type 0 where
  pub seen : (t : List ℕ) → Contains new t ↔ (Contains old t ⊎ (tag ≡ Some t))
  pub shared : (t : List ℕ) → Contains new_shared t ↔ (Contains old_shared t ⊎ ((tag ≡ Some t) × Contains old t))

-- just the tags that two of the nodes have
abbrev pub AreShared : List Term → List ℕ → List (List ℕ) → Type 0
AreShared terms nodes tags = (t : List ℕ) → Contains tags t ↔ ((v : Term) × (w : Term) × (v ≢ w) × HasNode terms nodes v × HasNode terms nodes w × HasTag t v × HasTag t w)

-- what tells the result of a shared tag apart
abbrev pub found_for : List ℕ → Finding
found_for tag = record { about = None; value = None; other = Some (string_literal tag) }
