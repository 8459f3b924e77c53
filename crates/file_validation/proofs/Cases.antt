-- What a clause on a result says in one of its cases.
use Rattle.std.proofs.Common.{◌≡◌, Result, Ok, Err, IfOk, MatchResult, subst}

pub at_ok : {A B : Type 0} (P : A → Type 0) (Q : B → Type 0) (r : Result A B) (x : A) → r ≡ Ok x → MatchResult r P Q → P x
at_ok {A} {B} P Q r x e h = subst (λ (y : Result A B). MatchResult y P Q) e h

pub at_err : {A B : Type 0} (P : A → Type 0) (Q : B → Type 0) (r : Result A B) (x : B) → r ≡ Err x → MatchResult r P Q → Q x
at_err {A} {B} P Q r x e h = subst (λ (y : Result A B). MatchResult y P Q) e h

pub if_ok : {A B : Type 0} (P : A → Type 0) (r : Result A B) (x : A) → r ≡ Ok x → IfOk r P → P x
if_ok {A} {B} P r x e h = subst (λ (y : Result A B). IfOk y P) e h
