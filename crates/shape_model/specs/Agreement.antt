-- Graphs that agree where an answer looked.
use Rattle.std.specs.Prelude.{◌↔◌, List}
use Rattle.std.specs.List.{Contains}
use Rattle.rdf_model.specs.declared.term.Term.{Term}
use Rattle.rdf_model.specs.declared.triple.Triple.{Triple}
use Rattle.rdf_model.specs.declared.look.Look.{Look}
use Rattle.shape_model.specs.Walks.{Walks}
use Rattle.shape_model.specs.Looks.{Matches, LookRow, look_at}

-- both graphs have the same triples that match the look
abbrev pub SameAt : List Triple → List Triple → Look Term → Type 0
SameAt g h look = (t : Triple) → Matches look t → (Contains g t ↔ Contains h t)

-- they have, at each node to which f walks in g along the row's way
abbrev pub AgreesAt : List Triple → List Triple → Term → LookRow → Type 0
AgreesAt g h f row = (z : Term) → Walks g row.way f z → SameAt g h (look_at row.kind z)

-- they have, at each look of the list
abbrev pub Agree : List Triple → List Triple → List (Look Term) → Type 0
Agree g h looks = (look : Look Term) → Contains looks look → SameAt g h look
