-- The looks of a shape: which triples decide its targets and its results at a focus node.
use Rattle.std.specs.Prelude.{◌≡◌, ◌⊎◌, ℕ, zero, suc, false, List, [], ◌∷◌, ◌++◌, length}
use Rattle.rdf_model.specs.declared.term.Term.{Term}
use Rattle.rdf_model.specs.declared.triple.Triple.{Triple}
use Rattle.shape_model.specs.Vocabulary.{ShClass, ShTargetClass, ShTargetSubjectsOf, ShTargetObjectsOf}
use Rattle.shape_model.specs.Paths.{Path}
use Rattle.shape_model.specs.Instances.{class_path}
use Rattle.shape_model.specs.Readings.{Reading, reading, IsDeactivated, IsCompared, IsClosed, Refers}
use Rattle.shape_model.specs.Looks.{LookRow, ByOut, ByIn, ByOutAny, PathLook}

-- w is the way to the value nodes of a shape whose focus node is at the end of q
abbrev pub ValueWay : Reading → List Path → List Path → Type 0
ValueWay y q w = (y.is_node_shape × (w ≡ q)) ⊎ ((p : Path) × y.path p × (w ≡ q ++ p ∷ []))

-- The rows of a shape whose focus node is at the end of q, without those of its targets; `look` gives the rows of the
-- shapes that it refers to. None where it is deactivated; else, in turn:
-- those of its path; for sh:class those of the class path at the value nodes; for the properties that are compared
-- Out at the focus node; where it is closed OutAny at the value nodes; those of the shapes that it refers to at the
-- value nodes.
abbrev pub ShapeLookWith : (Term → List Path → LookRow → Type 0) → Reading → List Path → LookRow → Type 0
ShapeLookWith look y q row = (IsDeactivated y → ⊥) × (
    ((p : Path) × y.path p × PathLook false p q row)
    ⊎ ((c : Term) × (w : List Path) × y.has ShClass c × ValueWay y q w × PathLook false class_path w row)
    ⊎ ((p : Term) × IsCompared y p × (row ≡ record { way = q; kind = ByOut p }))
    ⊎ (IsClosed y × ((w : List Path) × ValueWay y q w × (row ≡ record { way = w; kind = ByOutAny })))
    ⊎ ((m : Term) × (w : List Path) × Refers y m × ValueWay y q w × look m w row)
    )

-- the same through chains of fewer references than this number
abbrev pub ShapeLookDepth : ℕ → (Term → Reading) → Term → List Path → LookRow → Type 0
ShapeLookDepth zero readings shape q row = ⊥
ShapeLookDepth (suc n) readings shape q row = ShapeLookWith (ShapeLookDepth n readings) (readings shape) q row

-- the rows that decide the results at a focus node
abbrev pub ResultLook : List Triple → Term → LookRow → Type 0
ResultLook s shape row = ShapeLookDepth (suc (length s)) (reading s) shape [] row

-- the rows that decide whether a focus node is a target: the class path for a class, Out for subjects, In for objects
abbrev pub TargetLook : Reading → LookRow → Type 0
TargetLook y row =
    ((c : Term) × y.has ShTargetClass c × PathLook false class_path [] row)
    ⊎ (y.is_class × PathLook false class_path [] row)
    ⊎ ((p : Term) × y.has ShTargetSubjectsOf p × (row ≡ record { way = []; kind = ByOut p }))
    ⊎ ((p : Term) × y.has ShTargetObjectsOf p × (row ≡ record { way = []; kind = ByIn p }))

-- the rows of a shape
abbrev pub Looks : List Triple → Term → LookRow → Type 0
Looks s shape row = ResultLook s shape row ⊎ TargetLook (reading s shape) row
