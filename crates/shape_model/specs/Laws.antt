-- What is promised of the definitions.
use Rattle.std.specs.Prelude.{◌≡◌, ◌↔◌, ◌≤◌, ℕ, suc, false, List, [], length, IsTrue}
use Rattle.std.specs.List.{Contains}
use Rattle.rdf_model.specs.declared.term.Term.{Term}
use Rattle.rdf_model.specs.declared.triple.Triple.{Triple}
use Rattle.rdf_model.specs.declared.look.Look.{Look}
use Rattle.shape_model.specs.Agreement.{AgreesAt}
use Rattle.shape_model.specs.CompiledShapes.{CompiledEntry, StandsFor, compiled_reading}
use Rattle.shape_model.specs.Components.{AtIn}
use Rattle.shape_model.specs.Declarations.{values_of}
use Rattle.shape_model.specs.Instances.{Instance, class_path}
use Rattle.shape_model.specs.Listings.{Counts}
use Rattle.shape_model.specs.Looks.{LookRow, Matches, PathLook}
use Rattle.shape_model.specs.NodeLooks.{IsLook, ShapeReads}
use Rattle.shape_model.specs.Paths.{Path}
use Rattle.shape_model.specs.Readings.{IsAcyclic, IsShallow, ValueNode, reading}
use Rattle.shape_model.specs.ShapeLooks.{Looks, ResultLook}
use Rattle.shape_model.specs.Targets.{Target, TargetOf}
use Rattle.shape_model.specs.Validation.{At, AtDepth, IsResult, Listing, NoResult, surroundings}
use Rattle.shape_model.specs.Walks.{Walk}
use Rattle.shape_model.specs.declared.result_row.ResultRow.{ResultRow}
use Rattle.collections.specs.Listings.{IsListing}
use Rattle.rdf_model.specs.Terms.{term_cmp}
use Rattle.shape_model.specs.Triples.{Has}
use Rattle.rdf_model.specs.Matching.{is_read_by}

-- A node walks along the class path to just the classes that it is an instance of.
abbrev pub ClassPathLaw : Type 0
ClassPathLaw = (g : List Triple) (n c : Term) → Instance g n c ↔ Walk g class_path n c

-- A triple matches a look where the look reads it.
abbrev pub LookLaw : Type 0
LookLaw = (look : Look Term) (t : Triple) → Matches look t ↔ IsTrue (is_read_by look t)

-- Where two graphs agree at all looks of a path at f, the walks from f are the same.
abbrev pub WalkLaw : Type 0
WalkLaw = (g h : List Triple) (p : Path) (f : Term) → ((row : LookRow) → PathLook false p [] row → AgreesAt g h f row) → (y : Term) → Walk g p f y ↔ Walk h p f y

-- Where two graphs agree at all looks of a shape at f, f is a target in both or in neither, and has the same results.
abbrev pub CoverLaw : Type 0
CoverLaw = (g h s : List Triple) (shape f : Term) → ((row : LookRow) → Looks s shape row → AgreesAt g h f row)
    → (Target g s shape f ↔ Target h s shape f) × ((r : ResultRow) → At g s shape f r ↔ At h s shape f r)

-- Where no shape refers to itself, longer chains of references give no other results.
abbrev pub FuelLaw : Type 0
FuelLaw = (g s : List Triple) → IsAcyclic s → (n : ℕ) → suc (length s) ≤ n → (shape f : Term) (r : ResultRow) → At g s shape f r ↔ AtDepth n g (reading s) shape f r

-- Where moreover no chain of so many references leads from a shape, fewer are deep enough.
abbrev pub DepthLaw : Type 0
DepthLaw = (g s : List Triple) → IsAcyclic s → (n : ℕ) → IsShallow n s → (shape f : Term) (r : ResultRow) → At g s shape f r ↔ AtDepth n g (reading s) shape f r

-- So the results of a shape are those by the results of the shapes that it refers to.
abbrev pub UnfoldLaw : Type 0
UnfoldLaw = (g s : List Triple) → IsAcyclic s → (shape f : Term) (r : ResultRow) → At g s shape f r ↔ AtIn (surroundings (At g s) g (reading s shape) f) (reading s shape) shape f r

-- The results of a shape that was compiled are those that its compiled form gives.
abbrev pub BridgeLaw : Type 0
BridgeLaw = (g s : List Triple) (entries : List CompiledEntry) → StandsFor entries s → IsAcyclic s → (e : CompiledEntry) → Contains entries e → (f : Term) (r : ResultRow)
    → At g s e.shape f r ↔ AtIn (surroundings (At g s) g (compiled_reading e.compiled) f) (compiled_reading e.compiled) e.shape f r

-- The results of a graph are those that the compiled shapes give at their targets.
abbrev pub CompiledLaw : Type 0
CompiledLaw = (g s : List Triple) (entries : List CompiledEntry) → StandsFor entries s → IsAcyclic s → (r : ResultRow)
    → IsResult g s r ↔ ((e : CompiledEntry) × (f : Term) × Contains entries e × TargetOf g (compiled_reading e.compiled) e.shape f × AtIn (surroundings (At g s) g (compiled_reading e.compiled) f) (compiled_reading e.compiled) e.shape f r)

-- A graph conforms where its listing is empty.
abbrev pub ConformsLaw : Type 0
ConformsLaw = (g s : List Triple) → NoResult g s ↔ Listing g s []

-- Under the empty shapes graph each graph has the empty listing, and no other.
abbrev pub NoShapesLaw : Type 0
NoShapesLaw = (g : List Triple) (rows : List ResultRow) → Listing g [] rows ↔ (rows ≡ [])

-- A graph has at most one listing.
abbrev pub ListingLaw : Type 0
ListingLaw = (g s : List Triple) (rows others : List ResultRow) → Listing g s rows → Listing g s others → rows ≡ others

-- A shape has at most one number of value nodes.
abbrev pub CountLaw : Type 0
CountLaw = (g s : List Triple) (shape f : Term) (n m : ℕ) → Counts (ValueNode g (reading s shape) f) n → Counts (ValueNode g (reading s shape) f) m → n ≡ m

-- The looks of a shape from node to node are those of its rows.
abbrev pub ReadsLaw : Type 0
ReadsLaw = (g s : List Triple) (shape f : Term) (look : Look Term) → ShapeReads (suc (length s)) g (reading s) shape f look ↔ IsLook g (ResultLook s shape) f look

-- The values of a property of a node are listed each once, in the order of terms.
abbrev pub ValuesLaw : Type 0
ValuesLaw = (s : List Triple) (n p : Term) → IsListing term_cmp (Has s n p) (values_of s n p)
