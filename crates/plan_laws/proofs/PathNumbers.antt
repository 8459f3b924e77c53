-- A path has as many rows as looks.
use Rattle.std.proofs.Common.{◌≡◌, ◌∙◌, ◌+◌, List, [], ◌∷◌, ◌++◌, length, refl}
use Rattle.std.specs.Prelude.{Bool, true, false}
use Rattle.std.proofs.lemmas.List.{length-append}
use Rattle.shape_model.specs.Looks.{directed, directed_all}
use Rattle.shape_model.specs.Paths.{Also, Alternative, Inverse, Last, OneOrMore, Path, Paths, Predicate, Sequence, ZeroOrMore, ZeroOrOne}
use Rattle.shape_sizes.specs.Sizes.{looks_of, looks_of_all}
use Rattle.read_plans.specs.PathRows.{path_rows, some_rows, through_rows}

mutual
  pub path_count : (p : Path) (reversed : Bool) (q : List Path) → length (path_rows reversed p q) ≡ looks_of p
  path_count (Predicate p) false q = refl
  path_count (Predicate p) true q = refl
  path_count (Inverse p) false q = path_count p true q
  path_count (Inverse p) true q = path_count p false q
  path_count (Sequence ps) reversed q = through_count ps reversed q
  path_count (Alternative ps) reversed q = some_count ps reversed q
  path_count (ZeroOrMore p) reversed q = path_count p reversed (q ++ ZeroOrMore (directed reversed p) ∷ [])
  path_count (OneOrMore p) reversed q = path_count p reversed (q ++ ZeroOrMore (directed reversed p) ∷ [])
  path_count (ZeroOrOne p) reversed q = path_count p reversed q

  through_count : (ps : Paths) (reversed : Bool) (q : List Path) → length (through_rows reversed ps q) ≡ looks_of_all ps
  through_count (Last p) reversed q = path_count p reversed q
  through_count (Also p ps) false q =
      length-append (path_rows false p q) (through_rows false ps (q ++ p ∷ [])) ∙ (λ i. path_count p false q i + through_count ps false (q ++ p ∷ []) i)
  through_count (Also p ps) true q =
      let w = q ++ directed_all true ps ∷ [] in
      length-append (path_rows true p w) (through_rows true ps q) ∙ (λ i. path_count p true w i + through_count ps true q i)

  some_count : (ps : Paths) (reversed : Bool) (q : List Path) → length (some_rows reversed ps q) ≡ looks_of_all ps
  some_count (Last p) reversed q = path_count p reversed q
  some_count (Also p ps) reversed q = length-append (path_rows reversed p q) (some_rows reversed ps q) ∙ (λ i. path_count p reversed q i + some_count ps reversed q i)
