-- Tests of value nodes: each says which ones a component refuses.
use Rattle.std.specs.Prelude.{◌≡◌, ◌↔◌, ◌≤◌, ℕ, Bool, false, List, Option, None, length, option_map}
use Rattle.std.specs.Option.{unwrap_or}
use Rattle.literal_order.specs.Texts.{lang_matches, string_value}
use Rattle.rdf_model.specs.declared.term.Term.{Term}
use Rattle.rdf_model.specs.declared.term.Term.TheVariants.{Blank, Iri, Literal}
use Rattle.shape_model.specs.declared.component.Component.{Component}
use Rattle.shape_model.specs.declared.component.Component.TheVariants as components
use Rattle.shape_model.specs.declared.result_row.ResultRow.{ResultRow}
use Rattle.shape_model.specs.Components.{NoneOf, OneOf}
use Rattle.shape_model.specs.TermTests.{IsAtMost, IsInLanguages, IsLess, IsOfDatatype, IsOfKind, IsTooLong, IsTooShort}
use Rattle.shape_model.specs.Triples.{IsMember}
use Rattle.plain_values.specs.declared.site.ToldRow.{ToldRow}
use Rattle.plain_values.specs.declared.logic.Demand.{Demand}
use Rattle.plain_values.specs.declared.logic.Demand.TheVariants.{All, Any, One}
use Rattle.plain_values.specs.Around.{IsTold}

-- a component that asks for the value node and the parameter alone refuses the node
abbrev pub IsRefused : Component → Term → Term → Type 0
IsRefused components.Datatype q v = IsOfDatatype q v → ⊥
IsRefused components.NodeKind q v = IsOfKind q v → ⊥
IsRefused components.MinExclusive q v = IsLess q v → ⊥
IsRefused components.MinInclusive q v = IsAtMost q v → ⊥
IsRefused components.MaxExclusive q v = IsLess v q → ⊥
IsRefused components.MaxInclusive q v = IsAtMost v q → ⊥
IsRefused components.MinLength q v = IsTooShort q v
IsRefused components.MaxLength q v = IsTooLong q v
IsRefused c q v = ⊥

-- no result of the shape is told at the node (SHACL 3.5)
abbrev pub Conforming : List ToldRow → Term → Term → Type 0
Conforming told shape node = (r : ResultRow) → IsTold told shape node r → ⊥

-- it is told of so many members of the list, counted with repeats: of none, of one, of all
pub record Tallied (P : Term → Type 0) (members : List Term) (n : ℕ) : Type 0 where
  pub none : (n ≡ 0) ↔ NoneOf P members
  pub one : (n ≡ 1) ↔ OneOf P members
  pub all : (n ≡ length members) ↔ ((m : Term) → IsMember members m → P m)
  pub most : n ≤ length members

-- a value node that conforms not to all of the shapes, to none, not to exactly one (SHACL 4.6.2, 4.6.3, 4.6.4)
abbrev pub IsUnmet : Demand → List ToldRow → List Term → Term → Type 0
IsUnmet All told members v = ((m : Term) → IsMember members m → Conforming told m v) → ⊥
IsUnmet Any told members v = NoneOf (λ m. Conforming told m v) members
IsUnmet One told members v = OneOf (λ m. Conforming told m v) members → ⊥

-- the component refuses the value node for the members of a list
abbrev pub IsRefusedBy : Component → List ToldRow → List Term → Term → Type 0
IsRefusedBy components.LanguageIn told ms v = IsInLanguages ms v → ⊥
IsRefusedBy components.In told ms v = IsMember ms v → ⊥
IsRefusedBy components.And told ms v = IsUnmet All told ms v
IsRefusedBy components.Or told ms v = IsUnmet Any told ms v
IsRefusedBy components.Xone told ms v = IsUnmet One told ms v
IsRefusedBy c told ms v = ⊥

-- the language tag of a literal that has one
abbrev pub tag_of : Term → Option (List ℕ)
tag_of (Blank session number) = None
tag_of (Iri iri) = None
tag_of (Literal text datatype language) = language

-- whether the text of the term is a range that matches the tag, and whether it matches that of the value
abbrev pub is_in_range : List ℕ → Term → Bool
is_in_range tag range = unwrap_or (option_map (lang_matches tag) (string_value range)) false

abbrev pub does_match : Term → Term → Bool
does_match range v = unwrap_or (option_map (λ tag. is_in_range tag range) (tag_of v)) false
