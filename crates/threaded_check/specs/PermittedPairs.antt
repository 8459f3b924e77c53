-- Pairs of a shape and a node with the permits for their evaluations, which are in shares.
use Rattle.std.specs.Prelude.{◌≡◌, ◌<◌, ◌↔◌, ℕ, List, IsTrue, is_some, length, map}
use Rattle.std.specs.List.{Contains, flat_map}
use Rattle.rdf_model.specs.declared.term.Term.{Term}
use Rattle.rdf_model.specs.declared.ids.Ids.{Ids}
use Rattle.rdf_model.specs.Numbers.{graph_of, term_at}
use Rattle.shape_model.specs.Targets.{Target}
use Rattle.shape_ast.specs.declared.shape.Shape.{Shape}
use Rattle.shape_eval.specs.Results.{AtPlace}
use Rattle.threaded_check.specs.declared.pairs.PermittedPair.{PermittedPair}
use Rattle.threaded_check.specs.declared.pairs.Share.{Share}

abbrev pub pair_in : PermittedPair → ℕ × ℕ
pair_in p = (p.shape, p.focus)

abbrev pub pairs_in : List PermittedPair → List (ℕ × ℕ)
pairs_in permitted = map pair_in permitted

abbrev pub permitted_in : List Share → List PermittedPair
permitted_in shares = flat_map (λ share. share.pairs.items) shares

-- the pair has a place of a shape and a number of a term, and an evaluation is permitted just where it is one of a shape and
-- its target
pub record IsPermitted (terms : List Term) (ids : List Ids) (shapes : List (Shape ℕ)) (p : PermittedPair) : Type 0 where
  pub place : p.shape < length shapes
  pub node : p.focus < length terms
  pub targets : AtPlace terms shapes p.shape (λ s c. IsTrue (is_some p.allowed) ↔ Target (graph_of terms ids) s c.node (term_at terms p.focus))

-- so are all of them
abbrev pub AreAllowed : List Term → List Ids → List (Shape ℕ) → List PermittedPair → Type 0
AreAllowed terms ids shapes permitted = (p : PermittedPair) → Contains permitted p → IsPermitted terms ids shapes p

-- they are the pairs in turn, each permitted so
pub record ArePermitted (terms : List Term) (ids : List Ids) (shapes : List (Shape ℕ)) (pairs : List (ℕ × ℕ)) (permitted : List PermittedPair) : Type 0 where
  pub same : pairs_in permitted ≡ pairs
  pub allowed : AreAllowed terms ids shapes permitted
