-- What was followed from one number is the walk of its term, and its looks.
use Rattle.std.proofs.Common.{◌≡◌, ℕ, ◌<◌, List, [], ◌∷◌, length, map, Bool, sym, subst, arith, inl, inr}
use Rattle.std.specs.Prelude.{◌↔◌}
use Rattle.std.specs.List.{Contains}
use Rattle.std.specs.Ordering.{nat_cmp}
use Rattle.collections.specs.Listings.{IsListing}
use Rattle.collections.proofs.Members.{has_cases, has_head}
use Rattle.rdf_model.specs.declared.term.Term.{Term}
use Rattle.rdf_model.specs.declared.ids.Ids.{Ids}
use Rattle.rdf_model.specs.declared.look.Look.{Look}
use Rattle.rdf_model.specs.declared.look.Look.TheVariants.{Out, In, OutAny}
use Rattle.rdf_model.specs.Numbers.{term_at, graph_of, IsNumbering}
use Rattle.shape_model.specs.Walks.{Walk}
use Rattle.shape_model.specs.Looks.{directed}
use Rattle.shape_model.specs.NodeLooks.{PathReads}
use Rattle.path_ast.specs.declared.path.Path.{Path}
use Rattle.path_ast.specs.PathReadings.{path_of}
use Rattle.path_eval.specs.Naming.{look_of, AddsReads, AreValues, IsBoundLook, Numbered}
use Rattle.path_eval.specs.Relations.{Adds, FromSome, IsFollowed}
use Rattle.path_eval.specs.NumberedWalks.{Reaches}
use Rattle.path_eval.specs.NumberedLooks.{Reads}
use Rattle.path_eval.proofs.Growing.{listing_same, adds_same}
use Rattle.path_eval.proofs.Mirrors.{Mirrors, mapped_to, mirrors}
use Rattle.path_eval.proofs.MirroredLooks.{Shows, shows}

pub from_one : {Y : Type 0} → (x : ℕ) (R : ℕ → Y → Type 0) (y : Y) → FromSome (x ∷ []) R y ↔ R x y
from_one {Y} x R y = (
  λ h. elim (has_cases x [] h.0 h.1) [ inl e ↦ subst (λ (z : ℕ). R z y) (sym e) h.2 | inr c ↦ absurd (omega arith) ],
  λ r. (x, has_head x [], r),
)

pub one_listed : (R : ℕ → ℕ → Type 0) (L : ℕ → Look ℕ → Type 0) (x : ℕ) (old new : List (Look ℕ)) (ends : List ℕ) → IsFollowed (x ∷ []) R L old new ends → IsListing nat_cmp (R x) ends
one_listed R L x old new ends h = listing_same nat_cmp (FromSome (x ∷ []) R) (R x) (from_one x R) ends h.listed

pub one_read : (R : ℕ → ℕ → Type 0) (L : ℕ → Look ℕ → Type 0) (x : ℕ) (old new : List (Look ℕ)) (ends : List ℕ) → IsFollowed (x ∷ []) R L old new ends → Adds old new (L x)
one_read R L x old new ends h = adds_same old new (FromSome (x ∷ []) L) (L x) (from_one x L) h.looks

-- two looks of numbers that have terms are one if they are looks of the same terms
pub one_look : (terms : List Term) → IsNumbering terms → (k l : Look ℕ) → IsBoundLook (length terms) k → IsBoundLook (length terms) l → look_of terms k ≡ look_of terms l → k ≡ l
one_look terms numbering (Out x p) (Out y q) a b e = let h : x ≡ y = numbering x y a.0 b.0 (cc) in let k : p ≡ q = numbering p q a.1 b.1 (cc) in cc
one_look terms numbering (In p x) (In q y) a b e = let h : x ≡ y = numbering x y a.1 b.1 (cc) in let k : p ≡ q = numbering p q a.0 b.0 (cc) in cc
one_look terms numbering (OutAny x) (OutAny y) a b e = let h : x ≡ y = numbering x y a b (cc) in cc
one_look terms numbering (Out x p) (In q y) a b e = cc
one_look terms numbering (Out x p) (OutAny y) a b e = cc
one_look terms numbering (In p x) (Out y q) a b e = cc
one_look terms numbering (In p x) (OutAny y) a b e = cc
one_look terms numbering (OutAny x) (Out y q) a b e = cc
one_look terms numbering (OutAny x) (In q y) a b e = cc

module _ (terms : List Term) (numbering : IsNumbering terms) (x : ℕ) (lt : x < length terms) where
  pub ends_named : (R : ℕ → ℕ → Type 0) (W : Term → Term → Type 0) → Mirrors terms R W → (ends : List ℕ) → IsListing nat_cmp (R x) ends
      → IsListing nat_cmp (λ n. (n < length terms) × W (term_at terms x) (term_at terms n)) ends
  ends_named R W m ends l = listing_same nat_cmp (R x) (λ n. (n < length terms) × W (term_at terms x) (term_at terms n))
      (λ n. (λ r. m.to x n lt r, λ h. let k = m.from x (term_at terms n) lt h.1 in subst (λ (y : ℕ). R x y) (numbering k.0 n k.1 h.0 k.3) k.2)) ends l

  pub every_end : (R : ℕ → ℕ → Type 0) (W : Term → Term → Type 0) → Mirrors terms R W → (ends : List ℕ) → IsListing nat_cmp (R x) ends → (v : Term) → W (term_at terms x) v → Contains (map (term_at terms) ends) v
  every_end R W m ends l v w = let k = m.from x v lt w in subst (λ (w : Term). Contains (map (term_at terms) ends) w) k.3 (mapped_to (term_at terms) ends k.0 ((l.members k.0).1 k.2))

  pub looks_named : (L : ℕ → Look ℕ → Type 0) (M : Term → Look Term → Type 0) → Shows terms L M → (old new : List (Look ℕ)) → Adds old new (L x)
      → Adds old new (λ look. IsBoundLook (length terms) look × M (term_at terms x) (look_of terms look))
  looks_named L M m old new a = adds_same old new (L x) (λ look. IsBoundLook (length terms) look × M (term_at terms x) (look_of terms look))
      (λ look. (λ r. m.to x look lt r, λ h. let k = m.from x (look_of terms look) lt h.1 in subst (λ (l : Look ℕ). L x l) (one_look terms numbering k.0 look (m.to x k.0 lt k.1).0 h.0 k.2) k.1)) a

  pub every_look : (L : ℕ → Look ℕ → Type 0) (M : Term → Look Term → Type 0) → Shows terms L M → (old new : List (Look ℕ)) → Adds old new (L x) → (l : Look Term) → M (term_at terms x) l → Contains (map (look_of terms) new) l
  every_look L M m old new a l r = let k = m.from x l lt r in subst (λ (w : Look Term). Contains (map (look_of terms) new) w) k.2 (mapped_to (look_of terms) new k.0 ((a k.0).1 (inr k.1)))

pub are_values : (ids : List Ids) (reversed : Bool) (p : Path ℕ) (x : ℕ) (ends : List ℕ) → IsListing nat_cmp (Reaches ids reversed p x) ends → Numbered ids p x (λ terms. AreValues terms ids reversed p x ends)
are_values ids reversed p x ends l terms numbering numbered bound lt =
    let m = mirrors terms numbering ids numbered p reversed bound in
    let W = Walk (graph_of terms ids) (directed reversed (path_of terms p)) in
    record { listed = ends_named terms numbering x lt (Reaches ids reversed p) W m ends l; every = every_end terms numbering x lt (Reaches ids reversed p) W m ends l }

pub adds_reads : (ids : List Ids) (reversed : Bool) (p : Path ℕ) (x : ℕ) (old new : List (Look ℕ)) → Adds old new (Reads ids reversed p x) → Numbered ids p x (λ terms. AddsReads terms ids reversed p x old new)
adds_reads ids reversed p x old new a terms numbering numbered bound lt =
    let m = shows terms numbering ids numbered p reversed bound in
    let M = PathReads (graph_of terms ids) reversed (path_of terms p) in
    record { added = looks_named terms numbering x lt (Reads ids reversed p) M m old new a; every = every_look terms numbering x lt (Reads ids reversed p) M m old new a }
