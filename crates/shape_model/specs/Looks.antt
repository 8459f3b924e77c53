-- Looks: which triples of a data graph an answer depends on.
use Rattle.std.specs.Prelude.{◌≡◌, ◌⊎◌, Bool, true, false, not, List, [], ◌∷◌, ◌++◌}
use Rattle.rdf_model.specs.declared.term.Term.{Term}
use Rattle.rdf_model.specs.declared.triple.Triple.{Triple}
use Rattle.rdf_model.specs.declared.look.Look.{Look}
use Rattle.rdf_model.specs.declared.look.Look.TheVariants.{Out, In, OutAny}
use Rattle.shape_model.specs.Paths.{Path, Predicate, Inverse, Sequence, Alternative, ZeroOrMore, OneOrMore, ZeroOrOne, Paths, Last, Also}

-- The triple is one that the look asks for: it has the subject and the predicate, the predicate and the object, or
-- the subject.
abbrev pub Matches : Look Term → Triple → Type 0
Matches (Out x p) t = (t.subject ≡ x) × (t.predicate ≡ p)
Matches (In p x) t = (t.predicate ≡ p) × (t.object ≡ x)
Matches (OutAny x) t = t.subject ≡ x

-- the kind of a look, whatever the node that it is made at
pub data LookKind : Type 0 where
  ByOut : Term → LookKind
  ByIn : Term → LookKind
  ByOutAny : LookKind

abbrev pub look_at : LookKind → Term → Look Term
look_at (ByOut p) x = Out x p
look_at (ByIn p) x = In p x
look_at ByOutAny x = OutAny x

-- a row of looks: a way from the focus node, and the kind of look at each node to which it leads
pub record LookRow : Type 0 where
  pub way : List Path
  pub kind : LookKind

-- a path, or the way back along it
abbrev pub directed : Bool → Path → Path
directed false p = p
directed true p = Inverse p

abbrev pub directed_all : Bool → Paths → Path
directed_all false ps = Sequence ps
directed_all true ps = Inverse (Sequence ps)

-- The rows of a path that is walked (backwards, where reversed) after the way q. A predicate has one row, Out, or In
-- backwards; a later member of a sequence stands after those before it, a repeated path after any number of turns.
abbrev mutual
  pub PathLook : Bool → Path → List Path → LookRow → Type 0
  PathLook false (Predicate p) q row = row ≡ record { way = q; kind = ByOut p }
  PathLook true (Predicate p) q row = row ≡ record { way = q; kind = ByIn p }
  PathLook reversed (Inverse p) q row = PathLook (not reversed) p q row
  PathLook reversed (Sequence ps) q row = ThroughLook reversed ps q row
  PathLook reversed (Alternative ps) q row = SomeLook reversed ps q row
  PathLook reversed (ZeroOrMore p) q row = PathLook reversed p (q ++ ZeroOrMore (directed reversed p) ∷ []) row
  PathLook reversed (OneOrMore p) q row = PathLook reversed p (q ++ ZeroOrMore (directed reversed p) ∷ []) row
  PathLook reversed (ZeroOrOne p) q row = PathLook reversed p q row

  -- one member after another; backwards from the last to the first
  pub ThroughLook : Bool → Paths → List Path → LookRow → Type 0
  ThroughLook reversed (Last p) q row = PathLook reversed p q row
  ThroughLook false (Also p ps) q row = PathLook false p q row ⊎ ThroughLook false ps (q ++ p ∷ []) row
  ThroughLook true (Also p ps) q row = ThroughLook true ps q row ⊎ PathLook true p (q ++ directed_all true ps ∷ []) row

  -- each member
  pub SomeLook : Bool → Paths → List Path → LookRow → Type 0
  SomeLook reversed (Last p) q row = PathLook reversed p q row
  SomeLook reversed (Also p ps) q row = PathLook reversed p q row ⊎ SomeLook reversed ps q row

-- the way back along a way, and the rows of walking it
abbrev pub back : List Path → List Path
back [] = []
back (p ∷ ps) = back ps ++ Inverse p ∷ []

abbrev pub BackLook : List Path → LookRow → Type 0
BackLook [] row = ⊥
BackLook (p ∷ ps) row = BackLook ps row ⊎ PathLook true p (back ps) row
