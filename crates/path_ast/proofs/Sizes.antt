-- How many parts a path has: the measure of a recursion along it.
use Rattle.std.proofs.Common.{◌≡◌, ◌∙◌, ℕ, zero, suc, ◌+◌, ◌<◌, List, [], ◌∷◌, Vec, Box, Global, length, get_or, refl, ap, arith}
use Rattle.path_ast.specs.declared.path.Path.{Path, Predicate, Inverse', Sequence', Alternative', ZeroOrMore', OneOrMore', ZeroOrOne', Sequence, Alternative, Row_of-Path, end_of-Path, more_of-Path, items-the_row-Path, items_hidden-the_row-Path-0}
use Rattle.path_ast.proofs.Rows.{row_of}

abbrev mutual
  pub path_size : {P : Type 0} → Path P → ℕ
  path_size (Predicate p) = 0
  path_size (Inverse' _ p) = path_size p + 1
  path_size (Sequence' _ p _ ps) = path_size p + row_size ps + 1
  path_size (Alternative' _ p _ ps) = path_size p + row_size ps + 1
  path_size (ZeroOrMore' _ p) = path_size p + 1
  path_size (OneOrMore' _ p) = path_size p + 1
  path_size (ZeroOrOne' _ p) = path_size p + 1

  pub row_size : {P : Type 0} → {m : _} → Row_of-Path P m → ℕ
  row_size end_of-Path = 0
  row_size (more_of-Path p ps) = path_size p + row_size ps + 1

abbrev pub list_size : {P : Type 0} → List (Path P) → ℕ
list_size [] = 0
list_size (p ∷ ps) = path_size p + list_size ps + 1

module _ {P : Type 0} where
  size_items : (m : _) (ps : Row_of-Path P m) → row_size ps ≡ list_size (items-the_row-Path P m ps)
  size_items m end_of-Path = refl
  size_items m (more_of-Path p ps) = ap (λ (n : ℕ). path_size p + n + 1) (size_items _ ps)

  pub sequence_size : (first : Box (Path P) Global) (others : Vec (Path P) Global) → path_size (Sequence first others) ≡ path_size first.value + list_size others.items + 1
  sequence_size first others =
      let row = row_of (Sequence first others) in
      ap (λ (n : ℕ). path_size first.value + n + 1) (size_items row.0 row.1 ∙ ap list_size (items_hidden-the_row-Path-0 P others))

  pub alternative_size : (first : Box (Path P) Global) (others : Vec (Path P) Global) → path_size (Alternative first others) ≡ path_size first.value + list_size others.items + 1
  alternative_size = sequence_size

  -- a path of the list has fewer parts
  pub member_size : (ps : List (Path P)) (i : ℕ) (d : Path P) → i < length ps → path_size (get_or ps i d) < list_size ps
  member_size [] i d lt = absurd (omega (arith, lt))
  member_size (p ∷ ps) zero d lt = omega arith
  member_size (p ∷ ps) (suc i) d lt = omega (arith, member_size ps i d (omega (arith, lt)))

  pub sequence_more : (path : Path P) (first : Box (Path P) Global) (others : Vec (Path P) Global) → path ≡ Sequence first others → (ps : List (Path P)) → ps ≡ others.items → list_size ps < path_size path
  sequence_more path first others e ps same = omega (arith, ap path_size e, sequence_size first others, ap list_size same)

  pub alternative_more : (path : Path P) (first : Box (Path P) Global) (others : Vec (Path P) Global) → path ≡ Alternative first others → (ps : List (Path P)) → ps ≡ others.items → list_size ps < path_size path
  alternative_more path first others e ps same = omega (arith, ap path_size e, alternative_size first others, ap list_size same)

  pub member_more : (ps : List (Path P)) (i : ℕ) (p : Path P) → i < length ps → p ≡ get_or ps i p → path_size p < list_size ps
  member_more ps i p lt is = omega (arith, member_size ps i p lt, ap path_size is)
