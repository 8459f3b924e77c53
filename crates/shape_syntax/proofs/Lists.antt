-- A node is the head of one list at most, and a list has no more members than the graph has triples.
use Rattle.std.proofs.Common.{◌≡◌, suc, ◌≤◌, List, [], ◌∷◌, ◌++◌, length, map, refl, sym, ap, subst, arith, inl, inr, length-append}
use Rattle.std.proofs.lemmas.List.{length-map}
use Rattle.rdf_model.specs.declared.term.Term.{Term}
use Rattle.rdf_model.specs.declared.triple.Triple.{Triple}
use Rattle.shape_model.specs.Vocabulary.{rdf_first}
use Rattle.shape_model.specs.Triples.{IsMember}
use Rattle.shape_model.specs.ShapeSyntax.{IsCell, IsListEnd, ListOf}
use Rattle.shape_syntax.proofs.Scans.{image_of}
use Rattle.shape_syntax.proofs.Pigeonholes.{AreDistinct, no_longer}

-- cells with these members lead from n to k
abbrev pub Segment : List Triple → Term → List Term → Term → Type 0
Segment s n [] k = n ≡ k
Segment s n (m ∷ ms) k = (j : Term) × IsCell s n m j × Segment s j ms k

pub segment_push : (s : List Triple) (n : Term) (ms : List Term) (k m j : Term) → Segment s n ms k → IsCell s k m j → Segment s n (ms ++ m ∷ []) j
segment_push s n [] k m j g c = (j, subst (λ (x : Term). IsCell s x m j) (sym g) c, refl)
segment_push s n (x ∷ ms) k m j g c = (g.0, g.1, segment_push s g.0 ms k m j g.2 c)

pub list_from : (s : List Triple) (n : Term) (ms : List Term) (k : Term) → Segment s n ms k → IsListEnd s k → ListOf s n ms
list_from s n [] k g e = subst (λ (x : Term). IsListEnd s x) (sym g) e
list_from s n (m ∷ ms) k g e = (g.0, g.1, list_from s g.0 ms k g.2 e)

pub end_no_cell : (s : List Triple) (n m k : Term) → IsListEnd s n → IsCell s n m k → ⊥
end_no_cell s n m k e c = e.1 m c.0.0

same_member : (s : List Triple) (n m k o l : Term) → IsCell s n m k → IsCell s n o l → m ≡ o
same_member s n m k o l c d = d.0.1 m c.0.0

same_rest : (s : List Triple) (n m k o l : Term) → IsCell s n m k → IsCell s n o l → k ≡ l
same_rest s n m k o l c d = d.1.1 k c.1.0

-- what is left of a list behind a segment
pub rest_of : (s : List Triple) (n : Term) (ms : List Term) (k : Term) (ls : List Term) → Segment s n ms k → ListOf s n ls → (rs : List Term) × (ls ≡ ms ++ rs) × ListOf s k rs
rest_of s n [] k ls g l = (ls, refl, subst (λ (x : Term). ListOf s x ls) g l)
rest_of s n (m ∷ ms) k [] g l = absurd (end_no_cell s n m g.0 l g.1)
rest_of s n (m ∷ ms) k (o ∷ ls) g l =
    let e : m ≡ o = same_member s n m g.0 o l.0 g.1 l.1 in
    let f : g.0 ≡ l.0 = same_rest s n m g.0 o l.0 g.1 l.1 in
    let r = rest_of s g.0 ms k ls g.2 (subst (λ (x : Term). ListOf s x ls) (sym f) l.2) in
    let d : ls ≡ ms ++ r.0 = r.1 in
    (r.0, cc (d, e), r.2)

pub one_list : (s : List Triple) (n : Term) (ls ks : List Term) → ListOf s n ls → ListOf s n ks → ls ≡ ks
one_list s n [] [] l k = refl
one_list s n [] (o ∷ ks) l k = absurd (end_no_cell s n o k.0 l k.1)
one_list s n (m ∷ ls) [] l k = absurd (end_no_cell s n m l.0 k l.1)
one_list s n (m ∷ ls) (o ∷ ks) l k =
    let e : m ≡ o = same_member s n m l.0 o k.0 l.1 k.1 in
    let f : l.0 ≡ k.0 = same_rest s n m l.0 o k.0 l.1 k.1 in
    let d : ls ≡ ks = one_list s l.0 ls ks l.2 (subst (λ (x : Term). ListOf s x ks) (sym f) k.2) in
    cc (d, e)

-- the cells of a list
heads : (s : List Triple) (n : Term) (ls : List Term) → ListOf s n ls → List Term
heads s n [] l = []
heads s n (m ∷ ls) l = n ∷ heads s l.0 ls l.2

length-heads : (s : List Triple) (n : Term) (ls : List Term) (l : ListOf s n ls) → length (heads s n ls l) ≡ length ls
unfolding heads
length-heads s n [] l = refl
length-heads s n (m ∷ ls) l = ap suc (length-heads s l.0 ls l.2)

-- each is the head of a list that is no longer
list_at : (s : List Triple) (n : Term) (ls : List Term) (l : ListOf s n ls) (w : Term) → IsMember (heads s n ls l) w → (us : List Term) × ListOf s w us × (length us ≤ length ls)
unfolding heads
list_at s n [] l w i = absurd i
list_at s n (m ∷ ls) l w i = elim i [
  | inl e ↦ (m ∷ ls, subst (λ (x : Term). ListOf s x (m ∷ ls)) e l, omega arith)
  | inr j ↦ let k = list_at s l.0 ls l.2 w j in let le : length k.0 ≤ length ls = k.2 in (k.0, k.1, omega arith)
]

distinct_heads : (s : List Triple) (n : Term) (ls : List Term) (l : ListOf s n ls) → AreDistinct (heads s n ls l)
unfolding heads
distinct_heads s n [] l = tt
distinct_heads s n (m ∷ ls) l = (
  λ w i e.
      let k = list_at s l.0 ls l.2 w i in
      let le : length k.0 ≤ length ls = k.2 in
      let same : k.0 ≡ m ∷ ls = one_list s n k.0 (m ∷ ls) (subst (λ (x : Term). ListOf s x k.0) e k.1) l in
      let long : length k.0 ≡ suc (length ls) = ap length same in
      absurd (omega arith),
  distinct_heads s l.0 ls l.2,
)

heads_in : (s : List Triple) (n : Term) (ls : List Term) (l : ListOf s n ls) (w : Term) → IsMember (heads s n ls l) w → IsMember (map (λ (t : Triple). t.subject) s) w
unfolding heads
heads_in s n [] l w i = absurd i
heads_in s n (m ∷ ls) l w i = elim i [
  | inl e ↦ image_of (λ (t : Triple). t.subject) s (record { subject = n; predicate = rdf_first; object = m }) w l.1.0.0 e
  | inr j ↦ heads_in s l.0 ls l.2 w j
]

pub list_short : (s : List Triple) (n : Term) (ls : List Term) → ListOf s n ls → length ls ≤ length s
list_short s n ls l =
    let le = no_longer (heads s n ls l) (map (λ (t : Triple). t.subject) s) (distinct_heads s n ls l) (heads_in s n ls l) in
    let a = length-heads s n ls l in
    let b : length (map (λ (t : Triple). t.subject) s) ≡ length s = length-map s (λ (t : Triple). t.subject) in omega arith

-- no list has more members in a segment than the graph has triples
pub no_long_list : (s : List Triple) (n : Term) (ms : List Term) (k : Term) (ls : List Term) → Segment s n ms k → suc (length s) ≤ length ms → ListOf s n ls → ⊥
no_long_list s n ms k ls g long l =
    let r = rest_of s n ms k ls g l in
    let e : length ls ≡ length (ms ++ r.0) = ap length r.1 in
    let short : length ls ≤ length s = list_short s n ls l in omega (arith, length-append ms r.0)

-- no list goes on at a node that is neither its end nor a cell
pub no_broken_list : (s : List Triple) (n : Term) (ms : List Term) (k : Term) (ls : List Term) → Segment s n ms k → (IsListEnd s k → ⊥) → ((m j : Term) → IsCell s k m j → ⊥) → ListOf s n ls → ⊥
no_broken_list s n ms k ls g not_end not_cell l =
    let r = rest_of s n ms k ls g l in at r.0 r.2
  where
    at : (rs : List Term) → ListOf s k rs → ⊥
    at [] e = not_end e
    at (m ∷ rs) c = not_cell m c.0 c.1
