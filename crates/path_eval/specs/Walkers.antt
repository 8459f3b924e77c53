-- Walks that go on: what a walker is made for, and what it has done so far.
use Rattle.std.specs.Prelude.{◌≡◌, ◌↔◌, ◌⊎◌, ◌≤◌, ℕ, Bool, List, [], ◌++◌, length, take, drop}
use Rattle.std.specs.List.{Contains}
use Rattle.rdf_model.specs.declared.ids.Ids.{Ids}
use Rattle.rdf_model.specs.declared.look.Look.{Look}
use Rattle.rdf_model.specs.Numbers.{IsFound}
use Rattle.path_eval.specs.declared.walker.Walker.{Walker, Here, Nowhere, Edges, Then', Either', More'}
use Rattle.path_eval.specs.Relations.{FromSome, Repeated}
use Rattle.path_eval.specs.NumberedWalks.{look_from}
use Rattle.path_eval.specs.NumberedLooks.{AtRepeated}

-- what a walker walks along, whatever it has done so far
pub data Plan : Type 0 where
  Stay : Plan
  Stop : Plan
  Along : Bool → ℕ → Plan
  OneThenOther : Plan → Plan → Plan
  OneOrOther : Plan → Plan → Plan
  Again : Plan → Plan

abbrev pub plan_of : Walker → Plan
plan_of Here = Stay
plan_of Nowhere = Stop
plan_of (Edges predicate reversed seen) = Along reversed predicate
plan_of (Then' _ a _ b) = OneThenOther (plan_of a) (plan_of b)
plan_of (Either' _ a _ b) = OneOrOther (plan_of a) (plan_of b)
plan_of (More' _ a entered) = Again (plan_of a)

-- the plan leads from x to y: by no step, by none at all, by an edge, by both parts, by one of them, by its part once or more
abbrev pub Goes : List Ids → Plan → ℕ → ℕ → Type 0
Goes ids Stay x y = x ≡ y
Goes ids Stop x y = ⊥
Goes ids (Along reversed p) x y = IsFound (look_from reversed p x) ids y
Goes ids (OneThenOther a b) x y = (z : ℕ) × Goes ids a x z × Goes ids b z y
Goes ids (OneOrOther a b) x y = Goes ids a x y ⊎ Goes ids b x y
Goes ids (Again a) x y = (z : ℕ) × Goes ids a x z × Repeated (Goes ids a) z y

-- the looks that decide where it leads
abbrev pub Sees : List Ids → Plan → ℕ → Look ℕ → Type 0
Sees ids Stay x look = ⊥
Sees ids Stop x look = ⊥
Sees ids (Along reversed p) x look = look ≡ look_from reversed p x
Sees ids (OneThenOther a b) x look = Sees ids a x look ⊎ ((z : ℕ) × Goes ids a x z × Sees ids b z look)
Sees ids (OneOrOther a b) x look = Sees ids a x look ⊎ Sees ids b x look
Sees ids (Again a) x look = AtRepeated (Goes ids a) (Sees ids a) x look

-- all of the one list is in the other
abbrev pub Within : {X : Type 0} → List X → List X → Type 0
Within {X} xs ys = (x : X) → Contains xs x → Contains ys x

-- The walker has gone on from the nodes `ins`: each part of it from all nodes that the part before it led to. All to which
-- it led are among `outs`, and the looks are there.
abbrev pub IsClosed : List Ids → Walker → List ℕ → List ℕ → List (Look ℕ) → Type 0
IsClosed ids Here ins outs looks = Within ins outs
IsClosed ids Nowhere ins outs looks = Unit {0}
IsClosed ids (Edges p reversed seen) ins outs looks = Within ins seen × ((x : ℕ) → Contains seen x → Contains looks (look_from reversed p x) × ((y : ℕ) → IsFound (look_from reversed p x) ids y → Contains outs y))
IsClosed ids (Then' _ a _ b) ins outs looks = (middle : List ℕ) × IsClosed ids a ins middle looks × IsClosed ids b middle outs looks
IsClosed ids (Either' _ a _ b) ins outs looks = IsClosed ids a ins outs looks × IsClosed ids b ins outs looks
IsClosed ids (More' _ a entered) ins outs looks = IsClosed ids a (ins ++ entered) entered looks × Within entered outs

-- The walker has gone on from these starts too. It led to the ends: to nothing that cannot be reached from the starts, and
-- to all that can be reached from them and to which it had not led before. It made no other looks than those from the
-- starts.
pub record GoesOn (ids : List Ids) (old new : Walker) (starts : List ℕ) (looks more : List (Look ℕ)) (ends : List ℕ) : Type 0 where
  pub kept : plan_of new ≡ plan_of old
  pub sound : (y : ℕ) → Contains ends y → FromSome starts (Goes ids (plan_of old)) y
  pub grown : Within looks more
  pub read : (look : Look ℕ) → Contains more look → Contains looks look ⊎ FromSome starts (Sees ids (plan_of old)) look
  pub closed : (ins outs : List ℕ) → IsClosed ids old ins outs looks → IsClosed ids new (ins ++ starts) (outs ++ ends) more

-- The walker has gone on from the entered nodes after the first so many, and those to which it led were entered.
pub record Advances (ids : List Ids) (old new : Walker) (done : ℕ) (entered entered' : List ℕ) (looks more : List (Look ℕ)) : Type 0 where
  pub ends : List ℕ
  pub on : GoesOn ids old new (drop done entered) looks more ends
  pub added : List ℕ
  pub extended : entered' ≡ entered ++ added
  pub only : Within added ends
  pub all : Within ends entered'

-- The walker has gone on from the entered nodes after the first `from`, and from those to which it led, up to the first
-- `done` of them.
pub record Explores (ids : List Ids) (old new : Walker) (from done : ℕ) (entered entered' : List ℕ) (looks more : List (Look ℕ)) : Type 0 where
  pub ordered : from ≤ done
  pub counted : done ≤ length entered'
  pub kept : plan_of new ≡ plan_of old
  pub added : List ℕ
  pub extended : entered' ≡ entered ++ added
  pub sound : (y : ℕ) → Contains (drop from entered') y → FromSome (drop from entered) (Repeated (Goes ids (plan_of old))) y
  pub grown : Within looks more
  pub read : (look : Look ℕ) → Contains more look → Contains looks look ⊎ FromSome (drop from entered) (AtRepeated (Goes ids (plan_of old)) (Sees ids (plan_of old))) look
  pub closed : (ins : List ℕ) → IsClosed ids old (ins ++ take from entered) entered looks → IsClosed ids new (ins ++ take done entered') entered' more

-- it has not walked yet
abbrev pub IsNew : Walker → Type 0
IsNew walker = (ids : List Ids) (looks : List (Look ℕ)) → IsClosed ids walker [] [] looks

-- it is new, and leads where R does by the looks of L
pub record IsMade (walker : Walker) (R : List Ids → ℕ → ℕ → Type 0) (L : List Ids → ℕ → Look ℕ → Type 0) : Type 0 where
  pub fresh : IsNew walker
  pub reaches : (ids : List Ids) (x y : ℕ) → Goes ids (plan_of walker) x y ↔ R ids x y
  pub reads : (ids : List Ids) (x : ℕ) (look : Look ℕ) → Sees ids (plan_of walker) x look ↔ L ids x look

-- it is put together from one, or from two
pub record IsThen (first second walker : Walker) : Type 0 where
  pub plan : plan_of walker ≡ OneThenOther (plan_of first) (plan_of second)
  pub fresh : IsNew first → IsNew second → IsNew walker

pub record IsEither (first second walker : Walker) : Type 0 where
  pub plan : plan_of walker ≡ OneOrOther (plan_of first) (plan_of second)
  pub fresh : IsNew first → IsNew second → IsNew walker

pub record IsMore (once walker : Walker) : Type 0 where
  pub plan : plan_of walker ≡ Again (plan_of once)
  pub fresh : IsNew once → IsNew walker

pub record IsAnyNumber (once walker : Walker) : Type 0 where
  pub plan : plan_of walker ≡ OneOrOther Stay (Again (plan_of once))
  pub fresh : IsNew once → IsNew walker
