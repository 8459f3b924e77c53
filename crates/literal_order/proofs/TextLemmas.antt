-- Lemmas on language tags.
use Rattle.std.proofs.Common.{◌≡◌, ℕ, ◌<◌, Bool, false, List, length, map, ◌↔◌, IsTrue, ap, arith}
use Rattle.std.specs.Str.{str_eq_ignore_ascii_case, str_to_ascii_lowercase}
use Rattle.std.specs.Char.{to_ascii_lowercase}
use Rattle.std.proofs.lemmas.Bool.{false_from_ne_true}
use Rattle.std.proofs.lemmas.Bool.Decides.{same_from_decides}
use Rattle.std.proofs.lemmas.Slice.Eq.{bytes_eq-Decides}
use Rattle.std.proofs.lemmas.List.{length-map}

pub ignoring_case : (r : Bool) (a b : List ℕ) → IsTrue r ↔ (map to_ascii_lowercase a ≡ map to_ascii_lowercase b) → r ≡ str_eq_ignore_ascii_case a b
ignoring_case r a b h = same_from_decides r _ (h.0, h.1) (bytes_eq-Decides (str_to_ascii_lowercase a) (str_to_ascii_lowercase b))

-- texts of different lengths differ
pub longer_differs : (a b : List ℕ) → length a < length b → str_eq_ignore_ascii_case a b ≡ false
longer_differs a b h = false_from_ne_true _ (λ e. omega (arith, length-map a to_ascii_lowercase, length-map b to_ascii_lowercase, ap length ((bytes_eq-Decides (str_to_ascii_lowercase a) (str_to_ascii_lowercase b)).0 e)))

pub ruleset tag_lemmas = (ignoring_case, longer_differs)
