-- The looks of a shape from node to node, as an evaluation makes them.
use Rattle.std.specs.Prelude.{◌≡◌, ◌⊎◌, ℕ, zero, suc, Bool, true, false, not, List}
use Rattle.rdf_model.specs.declared.term.Term.{Term}
use Rattle.rdf_model.specs.declared.triple.Triple.{Triple}
use Rattle.rdf_model.specs.declared.look.Look.{Look}
use Rattle.rdf_model.specs.declared.look.Look.TheVariants.{Out, In, OutAny}
use Rattle.shape_model.specs.Vocabulary.{ShClass}
use Rattle.shape_model.specs.Paths.{Path, Predicate, Inverse, Sequence, Alternative, ZeroOrMore, OneOrMore, ZeroOrOne, Paths, Last, Also}
use Rattle.shape_model.specs.Walks.{Walk, Walks}
use Rattle.shape_model.specs.Instances.{class_path}
use Rattle.shape_model.specs.Readings.{Reading, ValueNode, IsDeactivated, IsCompared, IsClosed, Refers}
use Rattle.shape_model.specs.Looks.{LookRow, look_at, directed, directed_all}

-- the look is made in walking the path from x, backwards where reversed
abbrev mutual
  pub PathReads : List Triple → Bool → Path → Term → Look Term → Type 0
  PathReads g false (Predicate p) x look = look ≡ Out x p
  PathReads g true (Predicate p) x look = look ≡ In p x
  PathReads g reversed (Inverse p) x look = PathReads g (not reversed) p x look
  PathReads g reversed (Sequence ps) x look = ThroughReads g reversed ps x look
  PathReads g reversed (Alternative ps) x look = SomeReads g reversed ps x look
  PathReads g reversed (ZeroOrMore p) x look = (z : Term) × Walk g (ZeroOrMore (directed reversed p)) x z × PathReads g reversed p z look
  PathReads g reversed (OneOrMore p) x look = (z : Term) × Walk g (ZeroOrMore (directed reversed p)) x z × PathReads g reversed p z look
  PathReads g reversed (ZeroOrOne p) x look = PathReads g reversed p x look

  -- one member after another; backwards from the last to the first
  pub ThroughReads : List Triple → Bool → Paths → Term → Look Term → Type 0
  ThroughReads g reversed (Last p) x look = PathReads g reversed p x look
  ThroughReads g false (Also p ps) x look = PathReads g false p x look ⊎ ((z : Term) × Walk g p x z × ThroughReads g false ps z look)
  ThroughReads g true (Also p ps) x look = ThroughReads g true ps x look ⊎ ((z : Term) × Walk g (directed_all true ps) x z × PathReads g true p z look)

  -- each member
  pub SomeReads : List Triple → Bool → Paths → Term → Look Term → Type 0
  SomeReads g reversed (Last p) x look = PathReads g reversed p x look
  SomeReads g reversed (Also p ps) x look = PathReads g reversed p x look ⊎ SomeReads g reversed ps x look

-- the look is made in evaluating a shape at x; `reads` gives those of the shapes that it refers to
abbrev pub ShapeReadsWith : (Term → Term → Look Term → Type 0) → List Triple → Reading → Term → Look Term → Type 0
ShapeReadsWith reads g y x look = (IsDeactivated y → ⊥) × (
    ((p : Path) × y.path p × PathReads g false p x look)
    ⊎ ((c : Term) × (v : Term) × y.has ShClass c × ValueNode g y x v × PathReads g false class_path v look)
    ⊎ ((p : Term) × IsCompared y p × (look ≡ Out x p))
    ⊎ (IsClosed y × ((v : Term) × ValueNode g y x v × (look ≡ OutAny v)))
    ⊎ ((m : Term) × (v : Term) × Refers y m × ValueNode g y x v × reads m v look)
    )

-- the same through chains of fewer references than this number
abbrev pub ShapeReads : ℕ → List Triple → (Term → Reading) → Term → Term → Look Term → Type 0
ShapeReads zero g readings shape x look = ⊥
ShapeReads (suc n) g readings shape x look = ShapeReadsWith (ShapeReads n g readings) g (readings shape) x look

-- the look is that of a row, at a node to which f walks
abbrev pub IsLook : List Triple → (LookRow → Type 0) → Term → Look Term → Type 0
IsLook g rows f look = (row : LookRow) × rows row × ((z : Term) × Walks g row.way f z × (look ≡ look_at row.kind z))
