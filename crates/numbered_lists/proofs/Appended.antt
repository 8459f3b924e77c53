-- Changes whose terms come behind those of others.
use Rattle.std.proofs.Common.{◌≡◌, ◌∙◌, ℕ, ◌+◌, ◌<◌, ◌^◌, Bool, true, false, List, [], ◌∷◌, ◌++◌, length, map, refl, ap, arith, length-append}
use Rattle.std.proofs.Math.ListN.{get_or-append}
use Rattle.std.proofs.lemmas.List.{get_or-append-add, map-append}
use Rattle.std.specs.List.{AllByRecursion}
use Rattle.rdf_model.specs.declared.change.Change.{Change}
use Rattle.rdf_model.specs.declared.change.Change.TheVariants as changes
use Rattle.rdf_model.specs.declared.ids.Ids.{Ids}
use Rattle.rdf_model.specs.declared.term.Term.{Term}
use Rattle.rdf_model.specs.declared.term.Term.TheVariants.{Blank}
use Rattle.rdf_model.specs.declared.triple.Triple.{Triple}
use Rattle.rdf_model.specs.Numbers.{AreNumbered, graph_of, triple_at}
use Rattle.triple_index.specs.Changes.{IsNumbered, IsNumberedChange, change_at}
use Rattle.triple_index.specs.declared.change.NumberedChange.{NumberedChange}
use Rattle.triple_index.specs.declared.change.NumberedChange.TheVariants.{Add, Remove}
use Rattle.numbered_lists.specs.Appending.{HasRoom, changed_as, numbered_as, shifted}

abbrev pub AreChanges : List Term → List NumberedChange → Type 0
AreChanges terms cs = AllByRecursion (IsNumberedChange terms) cs

abbrev pub changes_at : List Term → List NumberedChange → List Change
changes_at terms cs = map (change_at terms) cs

abbrev pub shifted_as : Bool → ℕ → List Ids → List NumberedChange
shifted_as removes n ids = map (λ (i : Ids). numbered_as removes (shifted n i)) ids

-- with more terms behind them, places stand for what they did
longer : (us vs : List Term) (n : ℕ) → n < length us → n < length (us ++ vs)
longer us vs n l = let long = length-append us vs in omega arith

numbered_longer : (us vs : List Term) (i : Ids) → IsNumbered us i → IsNumbered (us ++ vs) i
numbered_longer us vs i h = (longer us vs i.subject h.0, longer us vs i.predicate h.1, longer us vs i.object h.2)

triple_longer : (us vs : List Term) (i : Ids) → IsNumbered us i → triple_at (us ++ vs) i ≡ triple_at us i
triple_longer us vs i h =
    let s = get_or-append us vs (Blank 0 0) i.subject h.0 in
    let p = get_or-append us vs (Blank 0 0) i.predicate h.1 in
    let o = get_or-append us vs (Blank 0 0) i.object h.2 in
    λ k. record { subject = s k; predicate = p k; object = o k }

change_longer : (us vs : List Term) (c : NumberedChange) → IsNumberedChange us c → change_at (us ++ vs) c ≡ change_at us c
change_longer us vs (Add i) h = ap (λ (t : Triple). changes.Add t) (triple_longer us vs i h)
change_longer us vs (Remove i) h = ap (λ (t : Triple). changes.Remove t) (triple_longer us vs i h)

is_longer : (us vs : List Term) (c : NumberedChange) → IsNumberedChange us c → IsNumberedChange (us ++ vs) c
is_longer us vs (Add i) h = numbered_longer us vs i h
is_longer us vs (Remove i) h = numbered_longer us vs i h

pub are_longer : (us vs : List Term) (cs : List NumberedChange) → AreChanges us cs → AreChanges (us ++ vs) cs
are_longer us vs [] h = tt
are_longer us vs (c ∷ cs) h = (is_longer us vs c h.0, are_longer us vs cs h.1)

pub changes_longer : (us vs : List Term) (cs : List NumberedChange) → AreChanges us cs → changes_at (us ++ vs) cs ≡ changes_at us cs
changes_longer us vs [] h = refl
changes_longer us vs (c ∷ cs) h =
    let first = change_longer us vs c h.0 in
    let rest = changes_longer us vs cs h.1 in
    λ i. first i ∷ rest i

-- the places behind so many terms
behind : (us vs : List Term) (n : ℕ) → n < length vs → length us + n < length (us ++ vs)
behind us vs n l = let long = length-append us vs in omega arith

triple_behind : (us vs : List Term) (i : Ids) → triple_at (us ++ vs) (shifted (length us) i) ≡ triple_at vs i
triple_behind us vs i =
    let s = get_or-append-add us vs i.subject (Blank 0 0) in
    let p = get_or-append-add us vs i.predicate (Blank 0 0) in
    let o = get_or-append-add us vs i.object (Blank 0 0) in
    λ k. record { subject = s k; predicate = p k; object = o k }

numbered_behind : (us vs : List Term) (i : Ids) → IsNumbered vs i → IsNumbered (us ++ vs) (shifted (length us) i)
numbered_behind us vs i h = (behind us vs i.subject h.0, behind us vs i.predicate h.1, behind us vs i.object h.2)

change_behind : (removes : Bool) (us vs : List Term) (i : Ids) → change_at (us ++ vs) (numbered_as removes (shifted (length us) i)) ≡ changed_as removes (triple_at vs i)
change_behind true us vs i = ap (λ (t : Triple). changes.Remove t) (triple_behind us vs i)
change_behind false us vs i = ap (λ (t : Triple). changes.Add t) (triple_behind us vs i)

is_behind : (removes : Bool) (us vs : List Term) (i : Ids) → IsNumbered vs i → IsNumberedChange (us ++ vs) (numbered_as removes (shifted (length us) i))
is_behind true us vs i h = numbered_behind us vs i h
is_behind false us vs i h = numbered_behind us vs i h

pub are_behind : (removes : Bool) (us vs : List Term) (ids : List Ids) → AreNumbered vs ids → AreChanges (us ++ vs) (shifted_as removes (length us) ids)
are_behind removes us vs [] h = tt
are_behind removes us vs (i ∷ ids) h = (is_behind removes us vs i h.0, are_behind removes us vs ids h.1)

pub changes_behind : (removes : Bool) (us vs : List Term) (ids : List Ids) → changes_at (us ++ vs) (shifted_as removes (length us) ids) ≡ map (changed_as removes) (graph_of vs ids)
changes_behind removes us vs [] = refl
changes_behind removes us vs (i ∷ ids) =
    let first = change_behind removes us vs i in
    let rest = changes_behind removes us vs ids in
    λ k. first k ∷ rest k

-- both lists together
both : (us : List Term) (cs ds : List NumberedChange) → AreChanges us cs → AreChanges us ds → AreChanges us (cs ++ ds)
both us [] ds h k = k
both us (c ∷ cs) ds h k = (h.0, both us cs ds h.1 k)

pub are_appended : (removes : Bool) (us vs : List Term) (cs : List NumberedChange) (ids : List Ids) → AreChanges us cs → AreNumbered vs ids → AreChanges (us ++ vs) (cs ++ shifted_as removes (length us) ids)
are_appended removes us vs cs ids h k = both (us ++ vs) cs (shifted_as removes (length us) ids) (are_longer us vs cs h) (are_behind removes us vs ids k)

pub changes_appended : (removes : Bool) (us vs : List Term) (cs : List NumberedChange) (ids : List Ids) → AreChanges us cs → changes_at (us ++ vs) (cs ++ shifted_as removes (length us) ids) ≡ changes_at us cs ++ map (changed_as removes) (graph_of vs ids)
changes_appended removes us vs cs ids h =
    map-append (change_at (us ++ vs)) cs (shifted_as removes (length us) ids)
    ∙ ap (λ (ds : List Change). ds ++ changes_at (us ++ vs) (shifted_as removes (length us) ids)) (changes_longer us vs cs h)
    ∙ ap (λ (ds : List Change). changes_at us cs ++ ds) (changes_behind removes us vs ids)

-- each place can be told, where there are less than 2^32
room : (us vs : List Term) (count : ℕ) (i : Ids) → count + length vs < 2 ^ 32 → IsNumbered vs i → HasRoom count i
room us vs count i l h = (omega arith, omega arith, omega arith)

pub rooms : (us vs : List Term) (count : ℕ) (ids : List Ids) → count + length vs < 2 ^ 32 → AreNumbered vs ids → AllByRecursion (HasRoom count) ids
rooms us vs count [] l h = tt
rooms us vs count (i ∷ ids) l h = (room us vs count i l h.0, rooms us vs count ids l h.1)
