-- Parsers one after another.
use Rattle.std.proofs.Common.{◌≡◌, Ok, Err, refl}
use Rattle.turtle_reader.specs.Parsers.{Outcome, Parser, and_then, ◌>>=◌}

pub then_then : {A B C : Type 0} (o : Outcome A) (f : A → Parser B) (g : B → Parser C) → and_then (and_then o f) g ≡ and_then o (λ x. f x >>= g)
then_then (Ok r) f g = refl
then_then (Err e) f g = refl
