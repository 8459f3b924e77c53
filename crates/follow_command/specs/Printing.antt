-- What is printed of a follower that is fed records.
use Rattle.std.specs.Prelude.{◌≡◌, ℕ, List, [], ◌∷◌, ◌++◌, length, take, Option, Some, None, nat_le, if◌then◌else◌, codes}
use Rattle.std.specs.List.{Contains, flat_map}
use Rattle.std.specs.Fmt.{decimal}
use Rattle.rdf_model.specs.NTriples.{triple_text}
use Rattle.rdf_model.specs.declared.triple.Triple.{Triple}
use Rattle.record_text.specs.declared.record.Record.{Record}
use Rattle.follower.specs.declared.fed.Fed.{Fed}
use Rattle.follower.specs.declared.fed.Fed.TheVariants.{Differs, Known, Window, Full, Waiting, Misfit, Applied}
use Rattle.follower.specs.Followed.{Feeds, Followed, unfed, version_of}
use Rattle.follower.specs.Laws.{Feeding, Runs}
use Rattle.follower.specs.Records.{data_of}

-- the kept record that misfitted, if one did
abbrev pub dropped_text : Option ℕ → List ℕ
dropped_text None = []
dropped_text (Some number) = codes " misfit " ++ decimal number

-- an answer; records of one log never differ
abbrev pub fed_text : Fed → List ℕ
fed_text (Differs number) = codes "differs " ++ decimal number
fed_text (Known version) = codes "known " ++ decimal version
fed_text (Window version) = codes "window " ++ decimal version
fed_text (Full count) = codes "full " ++ decimal count
fed_text (Waiting version) = codes "waiting " ++ decimal version
fed_text (Misfit number triple) = codes "misfit " ++ decimal number
fed_text (Applied version dropped) = codes "applied " ++ decimal version ++ dropped_text dropped

abbrev pub fed_line : Fed → List ℕ
fed_line fed = fed_text fed ++ 10 ∷ []

-- the answers, a line each
abbrev pub fed_lines : List Feeding → List ℕ
fed_lines fs = flat_map (λ f. fed_line f.1) fs

abbrev pub version_line : ℕ → List ℕ
version_line version = codes "version " ++ decimal version ++ 10 ∷ []

-- how many triples there are, and a line each
abbrev pub triple_lines : List Triple → List ℕ
triple_lines ts = codes "triples " ++ decimal (length ts) ++ 10 ∷ flat_map (λ t. triple_text t ++ 10 ∷ []) ts

-- the data graph of a version, ascending, where the follower has come to it
abbrev pub served_lines : Followed → ℕ → List ℕ
served_lines s version = if nat_le version (version_of s) then triple_lines (data_of (take version s.applied)) else codes "unserved" ++ 10 ∷ []

-- the records of these numbers were fed, in this order
abbrev pub FedInOrder : List Record → List ℕ → List Feeding → Type 0
FedInOrder records [] [] = Unit {0}
FedInOrder records [] (f ∷ fs) = ⊥
FedInOrder records (n ∷ ns) [] = ⊥
FedInOrder records (n ∷ ns) (f ∷ fs) = Contains records f.0 × (f.0.number ≡ n) × FedInOrder records ns fs

-- one record of a number was fed, and the line of its answer added; not seen by any caller
pub record FeedsOne (records : List Record) (n : ℕ) (old new : Followed) (before after : List ℕ) : Type 0 where
  pub feeding : Feeding
  pub there : Contains records feeding.0
  pub number_is : feeding.0.number ≡ n
  pub feeds : Feeds old feeding.0 feeding.1 new
  pub added : after ≡ before ++ fed_line feeding.1

-- the records of these numbers were fed to a new follower, and these are the lines of its answers; not seen by any caller
pub record FeedsAll (records : List Record) (numbers : List ℕ) (state : Followed) (text : List ℕ) : Type 0 where
  pub feedings : List Feeding
  pub in_order : FedInOrder records numbers feedings
  pub runs : Runs unfed feedings state
  pub text_is : text ≡ fed_lines feedings

-- Each answer of a new follower to the records of these numbers, in their order; the version that it has come to; and the data
-- graph of the version that is asked for.
pub record FollowPrint (records : List Record) (numbers : List ℕ) (version : ℕ) (text : List ℕ) : Type 0 where
  pub feedings : List Feeding
  pub in_order : FedInOrder records numbers feedings
  pub state : Followed
  pub runs : Runs unfed feedings state
  pub text_is : text ≡ fed_lines feedings ++ version_line (version_of state) ++ served_lines state version
