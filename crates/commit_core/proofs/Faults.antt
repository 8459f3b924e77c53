-- A fault that is passed on as it came.
use Rattle.std.proofs.Common.{◌≡◌, subst, sym}
use Rattle.std.specs.Prelude.{IfErr, MatchResult, Result, Ok, Err}
use Rattle.std.specs.Result.{IsErrAnd}

pub err_stays : {T E : Type 0} (P : E → Type 0) (r : Result T E) (e : E) → IsErrAnd r (λ y. y ≡ e) → P e → IfErr r P
err_stays P (Ok x) e h p = absurd h
err_stays P (Err y) e h p = subst P (sym h) p

pub fault_stays : {T E : Type 0} (Q : T → Type 0) (P : E → Type 0) (r : Result T E) (e : E) → IsErrAnd r (λ y. y ≡ e) → P e → MatchResult r Q P
fault_stays Q P (Ok x) e h p = absurd h
fault_stays Q P (Err y) e h p = subst P (sym h) p
