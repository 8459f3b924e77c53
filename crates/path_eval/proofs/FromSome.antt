-- What was followed from some numbers is the walk of their terms, and its looks.
use Rattle.std.proofs.Common.{◌≡◌, ℕ, ◌<◌, List, length, map, Bool, subst, inr}
use Rattle.std.specs.List.{Contains}
use Rattle.std.specs.Ordering.{nat_cmp}
use Rattle.collections.specs.Listings.{IsListing}
use Rattle.rdf_model.specs.declared.term.Term.{Term}
use Rattle.rdf_model.specs.declared.ids.Ids.{Ids}
use Rattle.rdf_model.specs.declared.look.Look.{Look}
use Rattle.rdf_model.specs.Numbers.{term_at, graph_of}
use Rattle.shape_model.specs.Walks.{Walk}
use Rattle.shape_model.specs.Looks.{directed}
use Rattle.shape_model.specs.NodeLooks.{PathReads}
use Rattle.path_ast.specs.declared.path.Path.{Path}
use Rattle.path_ast.specs.PathReadings.{path_of}
use Rattle.path_eval.specs.Naming.{look_of, AddsReadsOfSome, AreValuesOfSome, IsBoundLook, NumberedEach}
use Rattle.path_eval.specs.Relations.{Adds, FromSome}
use Rattle.path_eval.specs.NumberedWalks.{Reaches}
use Rattle.path_eval.specs.NumberedLooks.{Reads}
use Rattle.path_eval.proofs.FromOne.{one_look}
use Rattle.path_eval.proofs.Growing.{listing_same, adds_same}
use Rattle.path_eval.proofs.Mirrors.{mapped_to, mirrors}
use Rattle.path_eval.proofs.MirroredLooks.{shows}

pub are_values_of_some : (ids : List Ids) (reversed : Bool) (p : Path ℕ) (xs ends : List ℕ) → IsListing nat_cmp (FromSome xs (Reaches ids reversed p)) ends → NumberedEach ids p xs (λ terms. AreValuesOfSome terms ids reversed p xs ends)
are_values_of_some ids reversed p xs ends l terms numbering numbered bound within =
    let m = mirrors terms numbering ids numbered p reversed bound in
    let R = Reaches ids reversed p in
    let W = Walk (graph_of terms ids) (directed reversed (path_of terms p)) in
    record {
      listed = listing_same nat_cmp (FromSome xs R) (λ n. (n < length terms) × ((x : ℕ) × Contains xs x × W (term_at terms x) (term_at terms n))) (λ n. (
        λ h. let t = m.to h.0 n (within h.0 h.1) h.2 in (t.0, (h.0, h.1, t.1)),
        λ h. let k = m.from h.1.0 (term_at terms n) (within h.1.0 h.1.1) h.1.2 in (h.1.0, h.1.1, subst (λ (y : ℕ). R h.1.0 y) (numbering k.0 n k.1 h.0 k.3) k.2),
      )) ends l;
      every = λ x v c w. let k = m.from x v (within x c) w in subst (λ (t : Term). Contains (map (term_at terms) ends) t) k.3 (mapped_to (term_at terms) ends k.0 ((l.members k.0).1 (x, c, k.2)));
    }

pub adds_reads_of_some : (ids : List Ids) (reversed : Bool) (p : Path ℕ) (xs : List ℕ) (old new : List (Look ℕ)) → Adds old new (FromSome xs (Reads ids reversed p)) → NumberedEach ids p xs (λ terms. AddsReadsOfSome terms ids reversed p xs old new)
adds_reads_of_some ids reversed p xs old new a terms numbering numbered bound within =
    let m = shows terms numbering ids numbered p reversed bound in
    let L = Reads ids reversed p in
    let M = PathReads (graph_of terms ids) reversed (path_of terms p) in
    record {
      added = adds_same old new (FromSome xs L) (λ look. IsBoundLook (length terms) look × ((x : ℕ) × Contains xs x × M (term_at terms x) (look_of terms look))) (λ look. (
        λ h. let t = m.to h.0 look (within h.0 h.1) h.2 in (t.0, (h.0, h.1, t.1)),
        λ h. let k = m.from h.1.0 (look_of terms look) (within h.1.0 h.1.1) h.1.2 in
            (h.1.0, h.1.1, subst (λ (l : Look ℕ). L h.1.0 l) (one_look terms numbering k.0 look (m.to h.1.0 k.0 (within h.1.0 h.1.1) k.1).0 h.0 k.2) k.1),
      )) a;
      every = λ l r. let k = m.from r.0 l (within r.0 r.1) r.2 in subst (λ (w : Look Term). Contains (map (look_of terms) new) w) k.2 (mapped_to (look_of terms) new k.0 ((a k.0).1 (inr (r.0, r.1, k.1))));
    }
