-- The paths that are put together from those that were read.
use Rattle.std.proofs.Common.{◌≡◌, ◌∙◌, ℕ, suc, ◌+◌, ◌<◌, ◌≤◌, List, [], ◌∷◌, ◌++◌, Vec, Box, Global, length, take, drop, get_or, map, Option, Some, None, refl, sym, ap, subst, arith}
use Rattle.std.specs.Prelude.{MatchOption}
use Rattle.std.proofs.lemmas.List.{length-map, map-append, take_more, take_all}
use Rattle.rdf_model.specs.declared.term.Term.{Term}
use Rattle.rdf_model.specs.declared.triple.Triple.{Triple}
use Rattle.shape_model.specs.Vocabulary.{sh}
use Rattle.shape_model.specs.Triples.{IsBlank, IsMember}
use Rattle.shape_model.specs.ShapeSyntax.{ListOf}
use Rattle.shape_model.specs.Paths as defined
use Rattle.path_ast.specs.declared.path.Path.{Path, Sequence, Alternative}
use Rattle.path_ast.specs.PathReadings.{defined_path, members}
use Rattle.path_ast.proofs.Rows.{sequence_read, alternative_read}
use Rattle.shape_syntax.specs.declared.way.PathModifier.{PathModifier}
use Rattle.shape_syntax.specs.PathNodes.{IsPath}
use Rattle.shape_syntax.specs.PathSteps.{IsAlone}
use Rattle.shape_syntax.specs.PathDepth.{IsRead, IsDeep}
use Rattle.shape_syntax.specs.declared.way.Join.TheVariants as joins
use Rattle.shape_syntax.specs.PathWays.{modifier_name, modified, joined, AreDeep, AreRead, AreReadPaths, IsPathList}
use Rattle.shape_syntax.proofs.Lists.{one_list}
use Rattle.shape_syntax.proofs.PathWays.{listed_read, offered_read, read_push, path_nodes_of, modified_read, modified_deep, listed_deep, offered_deep}

pub sequence_made : (box : Box (Path Term) Global) (first : Path Term) (others : Vec (Path Term) Global) → box.value ≡ first → defined_path (Sequence box others) ≡ defined.Sequence (members (defined_path first) (map defined_path others.items))
sequence_made box first others e = sequence_read box others (λ t. t) ∙ ap (λ (p : Path Term). defined.Sequence (members (defined_path p) (map defined_path others.items))) e

pub alternative_made : (box : Box (Path Term) Global) (first : Path Term) (others : Vec (Path Term) Global) → box.value ≡ first → defined_path (Alternative box others) ≡ defined.Alternative (members (defined_path first) (map defined_path others.items))
alternative_made box first others e = alternative_read box others (λ t. t) ∙ ap (λ (p : Path Term). defined.Alternative (members (defined_path p) (map defined_path others.items))) e

-- what is read of a list is read of the node that it makes a path
pub sequence_found : (s : List Triple) (n : Term) (levels : ℕ) → IsBlank n → (found : Option (Path Term))
    → MatchOption found (AreDeep s n levels) (λ path. (ps : defined.Paths) × AreReadPaths s n levels ps × (defined_path path ≡ joined joins.Sequence ps))
    → MatchOption found (IsDeep s n (levels + 1)) (λ path. IsRead s n (levels + 1) (defined_path path))
sequence_found s n levels blank None h = listed_deep s n levels blank h
sequence_found s n levels blank (Some path) h = subst (λ (q : defined.Path). IsRead s n (levels + 1) q) (sym h.2) (listed_read s n levels blank h.0 h.1)

pub alternative_found : (s : List Triple) (n p m : Term) → IsAlone s n p m → IsBlank n → (levels : ℕ) → ((modifier : PathModifier) → p ≡ sh (modifier_name modifier) → ⊥) → IsPath s n → (found : Option (Path Term))
    → MatchOption found (AreDeep s m levels) (λ path. (ps : defined.Paths) × AreReadPaths s m levels ps × (defined_path path ≡ joined joins.Alternative ps))
    → MatchOption found (IsDeep s n (levels + 1)) (λ path. IsRead s n (levels + 1) (defined_path path))
alternative_found s n p m alone blank levels never path None h = offered_deep s n p m alone blank levels never path h
alternative_found s n p m alone blank levels never path (Some made) h = subst (λ (q : defined.Path). IsRead s n (levels + 1) q) (sym h.2) (offered_read s n p m alone blank levels never path h.0 h.1)

-- what is read of a modified path is read of the node
pub modified_found : (s : List Triple) (n p m : Term) → IsAlone s n p m → IsBlank n → (levels : ℕ) (modifier : PathModifier) → p ≡ sh (modifier_name modifier) → (found : Option (Path Term))
    → MatchOption found (IsDeep s m levels) (λ path. (q : defined.Path) × IsRead s m levels q × (defined_path path ≡ modified modifier q))
    → MatchOption found (IsDeep s n (levels + 1)) (λ path. IsRead s n (levels + 1) (defined_path path))
modified_found s n p m alone blank levels modifier e None h = modified_deep s n p m alone blank levels modifier e h
modified_found s n p m alone blank levels modifier e (Some path) h = subst (λ (q : defined.Path). IsRead s n (levels + 1) q) (sym h.2) (modified_read s n p m alone blank levels modifier e h.0 h.1)

pub each_more : (s : List Triple) (ns : List Term) (i : ℕ) (n : Term) (levels : ℕ) (ps : List (Path Term)) (p : Path Term) → i < length ns → n ≡ get_or ns i n → AreRead s (take i ns) levels (map defined_path ps) → IsRead s n levels (defined_path p) → AreRead s (take (i + 1) ns) levels (map defined_path (ps ++ p ∷ []))
each_more s ns i n levels ps p l e before h =
    let more : take (i + 1) ns ≡ take i ns ++ n ∷ [] = take_more ns i n l ∙ ap (λ (x : Term). take i ns ++ x ∷ []) (sym e) in
    subst (λ (qs : List defined.Path). AreRead s (take (i + 1) ns) levels qs) (sym (map-append defined_path ps (p ∷ [])))
    (subst (λ (xs : List Term). AreRead s xs levels (map defined_path ps ++ defined_path p ∷ [])) (sym more) (read_push s (take i ns) levels (map defined_path ps) n (defined_path p) before h))

pub each_all : (s : List Triple) (ns : List Term) (i : ℕ) (levels : ℕ) (ps : List defined.Path) → length ns ≤ i → AreRead s (take i ns) levels ps → AreRead s ns levels ps
each_all s ns i levels ps l h = subst (λ (xs : List Term). AreRead s xs levels ps) (take_all i ns l) h

-- the members of the list that was found
pub found_nodes : (s : List Triple) (n : Term) (ms : List Term) → IsPathList s n → ListOf s n ms → ((m : Term) → IsMember ms m → IsPath s m) × (2 ≤ length ms)
found_nodes s n ms h l =
    let k = path_nodes_of s n h in
    let same : k.0 ≡ ms = one_list s n k.0 ms k.1 l in
    (subst (λ (xs : List Term). (m : Term) → IsMember xs m → IsPath s m) same k.2, subst (λ (xs : List Term). 2 ≤ length xs) same k.3)

pub read_length : (s : List Triple) (ns : List Term) (levels : ℕ) (ps : List defined.Path) → AreRead s ns levels ps → length ps ≡ length ns
read_length s [] levels [] a = refl
read_length s [] levels (p ∷ ps) a = absurd a
read_length s (n ∷ ns) levels [] a = absurd a
read_length s (n ∷ ns) levels (p ∷ ps) a = ap suc (read_length s ns levels ps a.1)

pub some_read : (s : List Triple) (ns : List Term) (levels : ℕ) (ps : List (Path Term)) → 2 ≤ length ns → AreRead s ns levels (map defined_path ps) → length ps ≡ 0 → ⊥
some_read s ns levels ps long a none =
    let same : length (map defined_path ps) ≡ length ns = read_length s ns levels (map defined_path ps) a in
    let e : length (map defined_path ps) ≡ length ps = length-map ps defined_path in
    omega arith

-- the first that was read, and the others
pub first_read : (s : List Triple) (ns : List Term) (levels : ℕ) (ps : List (Path Term)) (first : Path Term) (others : List (Path Term)) → 2 ≤ length ns → AreRead s ns levels (map defined_path ps) → first ≡ get_or ps 0 first → others ≡ drop 1 ps → AreRead s ns levels (defined_path first ∷ map defined_path others)
first_read s ns levels [] first others long a e f = absurd (some_read s ns levels [] long a refl)
first_read s ns levels (p ∷ ps) first others long a e f =
    subst (λ (q : Path Term). AreRead s ns levels (defined_path q ∷ map defined_path others)) (sym e)
    (subst (λ (qs : List (Path Term)). AreRead s ns levels (defined_path p ∷ map defined_path qs)) (sym f) a)
