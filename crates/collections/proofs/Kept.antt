-- What stays in a list, also where a call fails.
use Rattle.std.proofs.Common.{◌≡◌, List, ◌++◌, sym, subst}
use Rattle.std.specs.Prelude.{Result, Ok, Err, OnErr}
use Rattle.std.specs.List.{Contains}
use Rattle.std.proofs.lemmas.List.Elements.{Contains-append_left}
use Rattle.collections.specs.Listings.{Keeps}

-- what holds anyway holds where there is an error
pub always_on_err : {T E P : Type 0} (r : Result T E) → P → OnErr r P
always_on_err (Ok v) p = tt
always_on_err (Err e) p = p

pub keeps_all : {X : Type 0} (xs : List X) → Keeps xs xs
keeps_all xs x h = h

pub keeps_front : {X : Type 0} (xs more ys : List X) → ys ≡ xs ++ more → Keeps xs ys
keeps_front {X} xs more ys e x h = subst (λ (zs : List X). Contains zs x) (sym e) (Contains-append_left xs more x h)

pub keeps_then : {X : Type 0} (xs ys zs : List X) → Keeps xs ys → Keeps ys zs → Keeps xs zs
keeps_then xs ys zs first second x h = second x (first x h)
