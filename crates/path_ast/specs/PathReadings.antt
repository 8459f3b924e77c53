-- Compiled paths, with what stands for a term in them read as that term.
use Rattle.std.specs.Prelude.{◌≡◌, ◌<◌, ℕ, List, [], ◌∷◌, length, Option, Some, None, MatchOption}
use Rattle.std.specs.List.{Contains}
use Rattle.rdf_model.specs.declared.term.Term.{Term}
use Rattle.rdf_model.specs.Numbers.{term_at}
use Rattle.shape_model.specs.Paths as defined
use Rattle.path_ast.specs.declared.path.Path.{Path, Predicate, Inverse', Sequence', Alternative', ZeroOrMore', OneOrMore', ZeroOrOne', Row_of-Path, end_of-Path, more_of-Path}

-- one path, and others
abbrev pub members : defined.Path → List defined.Path → defined.Paths
members p [] = defined.Last p
members p (q ∷ qs) = defined.Also p (members q qs)

-- the path of SHACL that the compiled one is, each of its predicates read as a term
abbrev mutual
  pub read_path : {P : Type 0} → (P → Term) → Path P → defined.Path
  read_path read (Predicate p) = defined.Predicate (read p)
  read_path read (Inverse' _ p) = defined.Inverse (read_path read p)
  read_path read (Sequence' _ p _ ps) = defined.Sequence (members (read_path read p) (read_row read ps))
  read_path read (Alternative' _ p _ ps) = defined.Alternative (members (read_path read p) (read_row read ps))
  read_path read (ZeroOrMore' _ p) = defined.ZeroOrMore (read_path read p)
  read_path read (OneOrMore' _ p) = defined.OneOrMore (read_path read p)
  read_path read (ZeroOrOne' _ p) = defined.ZeroOrOne (read_path read p)

  pub read_row : {P : Type 0} → (P → Term) → {m : _} → Row_of-Path P m → List defined.Path
  read_row read end_of-Path = []
  read_row read (more_of-Path p ps) = read_path read p ∷ read_row read ps

-- something holds of each predicate of the path
abbrev mutual
  pub HasEach : {P : Type 0} → (P → Type 0) → Path P → Type 0
  HasEach Q (Predicate p) = Q p
  HasEach Q (Inverse' _ p) = HasEach Q p
  HasEach Q (Sequence' _ p _ ps) = HasEach Q p × RowHasEach Q ps
  HasEach Q (Alternative' _ p _ ps) = HasEach Q p × RowHasEach Q ps
  HasEach Q (ZeroOrMore' _ p) = HasEach Q p
  HasEach Q (OneOrMore' _ p) = HasEach Q p
  HasEach Q (ZeroOrOne' _ p) = HasEach Q p

  pub RowHasEach : {P : Type 0} → (P → Type 0) → {m : _} → Row_of-Path P m → Type 0
  RowHasEach Q end_of-Path = Unit {0}
  RowHasEach Q (more_of-Path p ps) = HasEach Q p × RowHasEach Q ps

-- the same of the paths of SHACL
abbrev mutual
  pub HoldsOfEach : (Term → Type 0) → defined.Path → Type 0
  HoldsOfEach Q (defined.Predicate p) = Q p
  HoldsOfEach Q (defined.Inverse p) = HoldsOfEach Q p
  HoldsOfEach Q (defined.Sequence ps) = HoldsOfAll Q ps
  HoldsOfEach Q (defined.Alternative ps) = HoldsOfAll Q ps
  HoldsOfEach Q (defined.ZeroOrMore p) = HoldsOfEach Q p
  HoldsOfEach Q (defined.OneOrMore p) = HoldsOfEach Q p
  HoldsOfEach Q (defined.ZeroOrOne p) = HoldsOfEach Q p

  pub HoldsOfAll : (Term → Type 0) → defined.Paths → Type 0
  HoldsOfAll Q (defined.Last p) = HoldsOfEach Q p
  HoldsOfAll Q (defined.Also p ps) = HoldsOfEach Q p × HoldsOfAll Q ps

-- a path of terms, and one of numbers among some terms
abbrev pub defined_path : Path Term → defined.Path
defined_path path = read_path (λ t. t) path

abbrev pub path_of : List Term → Path ℕ → defined.Path
path_of terms path = read_path (term_at terms) path

-- a term is one of the terms
abbrev pub IsNamed : List Term → Term → Type 0
IsNamed terms t = Contains terms t

-- each term of the path is one of the terms; each number has a term, of so many
abbrev pub IsNamedPath : List Term → Path Term → Type 0
IsNamedPath terms path = HasEach (IsNamed terms) path

abbrev pub IsBoundPath : ℕ → Path ℕ → Type 0
IsBoundPath n path = HasEach (λ p. p < n) path

-- both stand for one path
pub record IsBoundFrom (terms : List Term) (path : Path Term) (bound : Path ℕ) : Type 0 where
  pub in_range : IsBoundPath (length terms) bound
  pub same : path_of terms bound ≡ defined_path path

-- the same of a shape's path, if it has one
abbrev pub optional_path : Option (Path Term) → Option defined.Path
optional_path None = None
optional_path (Some path) = Some (defined_path path)

abbrev pub optional_path_of : List Term → Option (Path ℕ) → Option defined.Path
optional_path_of terms None = None
optional_path_of terms (Some path) = Some (path_of terms path)

abbrev pub IsBoundOptional : ℕ → Option (Path ℕ) → Type 0
IsBoundOptional n path = MatchOption path (Unit {0}) (IsBoundPath n)
