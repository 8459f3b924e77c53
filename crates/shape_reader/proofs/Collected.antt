-- The shapes of the nodes that were passed.
use Rattle.std.proofs.Common.{◌≡◌, ◌∙◌, ℕ, ◌+◌, ◌<◌, ◌≤◌, List, [], ◌∷◌, ◌++◌, length, map, take, get_or, refl, sym, ap, subst, arith}
use Rattle.std.specs.List.{All, Contains}
use Rattle.std.proofs.lemmas.List.{length-map, map-append, take_all}
use Rattle.std.proofs.lemmas.List.Elements.{Contains-get_or}
use Rattle.collections.specs.Listings.{IsListing}
use Rattle.rdf_model.specs.declared.term.Term.{Term}
use Rattle.rdf_model.specs.declared.triple.Triple.{Triple}
use Rattle.rdf_model.specs.Terms.{term_cmp}
use Rattle.shape_model.proofs.Listings.{listing_same}
use Rattle.shape_model.specs.ShapeSyntax.{IsShape}
use Rattle.shape_properties.specs.Syntax.{IsShape as IsRuleShape}
use Rattle.shape_properties.proofs.Defined.{shape_same}
use Rattle.shape_sizes.specs.declared.survey.Survey.{Survey}
use Rattle.shape_sizes.specs.Surveys.{IsSurvey}
use Rattle.shape_syntax.proofs.Items.{all_push, map_push}
use Rattle.shape_rules.specs.Broken.{IsWellFormed}
use Rattle.shape_ast.specs.declared.shape.Shape.{Shape}
use Rattle.shape_ast.specs.Readings.{HoldsOfShape, ReadShape, read_shape, read_shapes}
use Rattle.shape_ast.specs.Standing.{IsBuilt, StandFor, StandsIn}
use Rattle.shape_ast.specs.Once.{IsOnce}
use Rattle.shape_reader.specs.Parts.{AreShapes, IsCompiled, IsShapeOf}
use Rattle.shape_reader.proofs.Speaking.{node_of, speak_for}

abbrev read : Shape Term → ReadShape
read shape = read_shape (λ t. t) shape

grown : {X : Type 0} → (P : X → Type 0) (xs : List X) (y : X) → All P xs → P y → All P (xs ++ y ∷ [])
grown P xs y all h k d l = all_push P xs y (λ x c. subst P c.2 (all c.0 x c.1)) h (get_or (xs ++ y ∷ []) k d) (Contains-get_or (xs ++ y ∷ []) k d l)

module _ (s : List Triple) (nodes : List Term) where
  pub none_yet : AreShapes s nodes (take 0 nodes) []
  none_yet = record {
    at = refl;
    compiled = λ c i. absurd (omega arith);
    once = λ c i. absurd (omega arith);
    built = λ k d l. absurd (omega arith);
    named = λ k d l. absurd (omega arith);
  }

  pub one_more : (shapes : List (Shape Term)) (i : ℕ) (n : Term) (shape : Shape Term) → i < length nodes → n ≡ get_or nodes i n → AreShapes s nodes (take i nodes) shapes → IsShapeOf s nodes n shape → AreShapes s nodes (take (i + 1) nodes) (shapes ++ shape ∷ [])
  one_more shapes i n shape l e before h =
      let more : read_shapes (shapes ++ shape ∷ []) ≡ read_shapes shapes ++ read shape ∷ [] = map-append read shapes (shape ∷ []) in
      record {
        at = ap (map node_of) more ∙ map_push node_of (read_shapes shapes) (read shape) nodes i n l e before.at h.node;
        compiled = subst (λ (all : List ReadShape). (c : ReadShape) → Contains all c → IsCompiled s nodes c) (sym more)
            (all_push (λ (c : ReadShape). IsCompiled s nodes c) (read_shapes shapes) (read shape) before.compiled h.compiled);
        once = subst (λ (all : List ReadShape). (c : ReadShape) → Contains all c → IsOnce c) (sym more)
            (all_push (λ (c : ReadShape). IsOnce c) (read_shapes shapes) (read shape) before.once h.once);
        built = grown (IsBuilt (λ t. t)) shapes shape before.built h.built;
        named = grown (HoldsOfShape (StandsIn s) (length nodes)) shapes shape before.named h.named;
      }

  pub all_passed : (shapes : List (Shape Term)) (i : ℕ) → length nodes ≤ i → AreShapes s nodes (take i nodes) shapes → AreShapes s nodes nodes shapes
  all_passed shapes i l h = subst (λ (first : List Term). AreShapes s nodes first shapes) (take_all i nodes l) h

  pub as_many : (shapes : List (Shape Term)) → AreShapes s nodes nodes shapes → All (HoldsOfShape (StandsIn s) (length shapes)) shapes
  as_many shapes h =
      let a : length (map node_of (read_shapes shapes)) ≡ length nodes = ap length h.at in
      let b : length (map node_of (read_shapes shapes)) ≡ length (read_shapes shapes) = length-map (read_shapes shapes) node_of in
      let d : length (read_shapes shapes) ≡ length shapes = length-map shapes read in
      subst (λ (count : ℕ). All (HoldsOfShape (StandsIn s) count) shapes) (sym a ∙ b ∙ d) h.named

  pub stand_for : IsWellFormed s → IsListing term_cmp (IsShape s) nodes → (shapes : List (Shape Term)) → AreShapes s nodes nodes shapes → StandFor (read_shapes shapes) s
  stand_for well listing shapes h = speak_for s well (read_shapes shapes) nodes listing h.at h.compiled

-- the nodes of a survey are the shapes of its graph
pub surveyed : (s : List Triple) (survey : Survey) (nodes : List Term) → nodes ≡ survey.shapes.items → IsSurvey s survey → IsListing term_cmp (IsShape s) nodes
surveyed s survey nodes e h = subst (λ (ns : List Term). IsListing term_cmp (IsShape s) ns) (sym e) (listing_same term_cmp (IsRuleShape s) (IsShape s) (shape_same s) survey.shapes.items h.shapes)
