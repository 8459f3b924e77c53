-- Labels that are numbered one by one have the numbers of all of them.
use Rattle.std.proofs.Common.{◌≡◌, ◌∙◌, ℕ, ◌+◌, Bool, true, false, cond, not, ◌&&◌, ◌||◌, List, [], ◌∷◌, ◌++◌, map, length, Result, Ok, Err, refl, sym, ap, subst, append_assoc, filter, arith}
use Rattle.std.proofs.lemmas.List.{append-nil, nil_from_length}
use Rattle.std.proofs.lemmas.Str.{chars-nil}
use Rattle.std.specs.Str.{chars}
use Rattle.std.specs.Prelude.{Option, Some, MatchResult, bytes_eq}
use Rattle.std.specs.List.{list_any, position_or_len}
use Rattle.std.proofs.lemmas.Slice.Eq.{bytes_eq-Decides}
use Rattle.std.proofs.lemmas.Bool.{false_from_ne_true}
use Rattle.indexmap.specs.IndexSet.{insert_key}
use Rattle.rdf_model.specs.declared.term.Term.{Term}
use Rattle.rdf_model.specs.declared.term.Term.TheVariants.{Blank, Iri, Literal}
use Rattle.rdf_model.specs.declared.triple.Triple.{Triple}
use Rattle.rdf_model.specs.Graphs.{with_each}
use Rattle.rdf_lexical.specs.declared.refusal.RefusalKind.{RefusalKind}
use Rattle.rdf_lexical.specs.declared.refusal.ReadFault.{ReadFault}
use Rattle.rdf_lexical.specs.declared.refusal.ReadFault.TheVariants.{Memory}
use Rattle.ntriples_text.specs.declared.statement.Node.{Node}
use Rattle.ntriples_text.specs.declared.statement.Node.TheVariants.{Labelled, Plain}
use Rattle.ntriples_text.specs.declared.statement.LabelKind.{LabelKind}
use Rattle.ntriples_text.specs.declared.statement.Statement.{Statement}
use Rattle.rdf_lexical.specs.Refusals.{Refuses}
use Rattle.ntriples_text.specs.Blanks.{node_labels, statement_labels, all_labels, once, term_of, triple_of}
use Rattle.ntriples_text.specs.Document.{lines, lines_from, numbered, with_labels, with_statement, with_line}
use Rattle.ntriples_text.specs.Laws.{LabelsStayApart}
use Rattle.ntriples_text.specs.Progress.{Found, with_more, triples_after, going_on}

abbrev pub Texts : Type 0
Texts = List (List ℕ)

-- whether a label is among those
abbrev pub is_known : Texts → List ℕ → Bool
is_known known l = list_any (bytes_eq l) known

same_self : (l : List ℕ) → bytes_eq l l ≡ true
same_self l = (bytes_eq-Decides l l).1 refl

-- what is known keeps its place
any_on : {X : Type 0} (p : X → Bool) (xs ys : List X) → list_any p xs ≡ true → list_any p (xs ++ ys) ≡ true
any_on p [] ys h = absurd (let bad : false ≡ true = h in cc)
any_on p (x ∷ xs) ys h = elim (p x) as (λ b. (b || list_any p xs) ≡ true → (b || list_any p (xs ++ ys)) ≡ true) [ true ↦ λ k. refl | false ↦ λ k. any_on p xs ys k ] h

place_on : {X : Type 0} (p : X → Bool) (xs ys : List X) → list_any p xs ≡ true → position_or_len p (xs ++ ys) ≡ position_or_len p xs
place_on p [] ys h = absurd (let bad : false ≡ true = h in cc)
place_on p (x ∷ xs) ys h = elim (p x) as (λ b. (b || list_any p xs) ≡ true → cond (not b) (1 + position_or_len p (xs ++ ys)) 0 ≡ cond (not b) (1 + position_or_len p xs) 0) [ true ↦ λ k. refl | false ↦ λ k. ap (λ n. 1 + n) (place_on p xs ys k) ] h

-- a new one comes at the end
any_end : {X : Type 0} (p : X → Bool) (xs : List X) (y : X) → p y ≡ true → list_any p (xs ++ y ∷ []) ≡ true
any_end p [] y h = ap (λ b. b || false) h
any_end p (x ∷ xs) y h = elim (p x) as (λ b. (b || list_any p (xs ++ y ∷ [])) ≡ true) [ true ↦ refl | false ↦ any_end p xs y h ]

place_end : {X : Type 0} (p : X → Bool) (xs : List X) (y : X) → p y ≡ true → position_or_len p (xs ++ y ∷ []) ≡ position_or_len p xs
place_end p [] y h = ap (λ b. cond (not b) (1 + 0) 0) h
place_end p (x ∷ xs) y h = ap (λ n. cond (not (p x)) (1 + n) 0) (place_end p xs y h)

-- the same of a label that is put among the known ones
known_put : (known : Texts) (l m : List ℕ) → is_known known l ≡ true → is_known (insert_key bytes_eq known m) l ≡ true
known_put known l m h = elim (list_any (bytes_eq m) known) as (λ b. is_known (cond b known (known ++ m ∷ [])) l ≡ true) [ true ↦ h | false ↦ any_on (bytes_eq l) known (m ∷ []) h ]

place_put : (known : Texts) (l m : List ℕ) → is_known known l ≡ true → position_or_len (bytes_eq l) (insert_key bytes_eq known m) ≡ position_or_len (bytes_eq l) known
place_put known l m h = elim (list_any (bytes_eq m) known) as (λ b. position_or_len (bytes_eq l) (cond b known (known ++ m ∷ [])) ≡ position_or_len (bytes_eq l) known) [ true ↦ refl | false ↦ place_on (bytes_eq l) known (m ∷ []) h ]

pub known_self : (known : Texts) (l : List ℕ) → is_known (insert_key bytes_eq known l) l ≡ true
known_self known l = elim (list_any (bytes_eq l) known) as (λ b. list_any (bytes_eq l) known ≡ b → is_known (cond b known (known ++ l ∷ [])) l ≡ true) [ true ↦ λ e. e | false ↦ λ e. any_end (bytes_eq l) known l (same_self l) ] refl

pub place_self : (known : Texts) (l : List ℕ) → position_or_len (bytes_eq l) (insert_key bytes_eq known l) ≡ position_or_len (bytes_eq l) known
place_self known l = elim (list_any (bytes_eq l) known) as (λ b. position_or_len (bytes_eq l) (cond b known (known ++ l ∷ [])) ≡ position_or_len (bytes_eq l) known) [ true ↦ refl | false ↦ place_end (bytes_eq l) known l (same_self l) ]

-- and of several
known_more : (ls known : Texts) (l : List ℕ) → is_known known l ≡ true → is_known (with_more known ls) l ≡ true
known_more [] known l h = h
known_more (m ∷ ls) known l h = known_more ls (insert_key bytes_eq known m) l (known_put known l m h)

place_more : (ls known : Texts) (l : List ℕ) → is_known known l ≡ true → position_or_len (bytes_eq l) (with_more known ls) ≡ position_or_len (bytes_eq l) known
place_more [] known l h = refl
place_more (m ∷ ls) known l h = place_more ls (insert_key bytes_eq known m) l (known_put known l m h) ∙ place_put known l m h

pub more_twice : (ls ms known : Texts) → with_more known (ls ++ ms) ≡ with_more (with_more known ls) ms
more_twice [] ms known = refl
more_twice (l ∷ ls) ms known = more_twice ls ms (insert_key bytes_eq known l)

-- nodes whose labels are known
abbrev pub IsNumbered : Texts → Node → Type 0
IsNumbered known (Labelled l) = is_known known l ≡ true
IsNumbered known (Plain t) = Unit {0}

pub numbered_more : (known ls : Texts) (n : Node) → IsNumbered known n → IsNumbered (with_more known ls) n
numbered_more known ls (Labelled l) h = known_more ls known l h
numbered_more known ls (Plain t) h = tt

pub term_stays : (s f : ℕ) (known ls : Texts) (n : Node) → IsNumbered known n → term_of s f (with_more known ls) n ≡ term_of s f known n
term_stays s f known ls (Labelled l) h = ap (λ k. Blank s (f + k)) (place_more ls known l h)
term_stays s f known ls (Plain t) h = refl

pub node_numbered : (known : Texts) (n : Node) → IsNumbered (with_more known (node_labels n)) n
node_numbered known (Labelled l) = known_self known l
node_numbered known (Plain t) = tt

pub placed : (s f p : ℕ) (known now : Texts) (l : List ℕ) (n : Node) → n ≡ Labelled l → p ≡ position_or_len (bytes_eq l) known → now ≡ insert_key bytes_eq known l → Blank s (f + p) ≡ term_of s f now n
placed s f p known now l n is hp hn =
    let here : Blank s (f + p) ≡ term_of s f (insert_key bytes_eq known l) (Labelled l) = ap (λ k. Blank s (f + k)) (hp ∙ sym (place_self known l)) in
    here ∙ (ap (λ (k : Texts). term_of s f k (Labelled l)) (sym hn) ∙ ap (λ m. term_of s f now m) (sym is))

pub made_triple : (s f s1 f1 : ℕ) (known k1 k2 : Texts) (x : Statement) (a o : Term)
    → k1 ≡ with_more known (node_labels x.subject) → k2 ≡ with_more k1 (node_labels x.object) → s1 ≡ s → f1 ≡ f → a ≡ term_of s f k1 x.subject → o ≡ term_of s1 f1 k2 x.object
    → (let t : Triple = record { subject = a; predicate = Iri x.predicate; object = o } in t) ≡ triple_of s f k2 x
made_triple s f s1 f1 known k1 k2 x a o e1 e2 es ef ha ho =
    let first : IsNumbered k1 x.subject = subst (λ (k : Texts). IsNumbered k x.subject) (sym e1) (node_numbered known x.subject) in
    let stay : term_of s f k2 x.subject ≡ term_of s f k1 x.subject = subst (λ (k : Texts). term_of s f k x.subject ≡ term_of s f k1 x.subject) (sym e2) (term_stays s f k1 (node_labels x.object) x.subject first) in
    let object : o ≡ term_of s f k2 x.object = ho ∙ (ap (λ u. term_of u f1 k2 x.object) es ∙ ap (λ u. term_of s u k2 x.object) ef) in
    λ i. record { subject = (ha ∙ sym stay) i; predicate = Iri x.predicate; object = object i }

statement_stays : (s f : ℕ) (known ls : Texts) (x : Statement) → triple_of s f (with_more (with_more known (statement_labels x)) ls) x ≡ triple_of s f (with_more known (statement_labels x)) x
statement_stays s f known ls x =
    let two = more_twice (node_labels x.subject) (node_labels x.object) known in
    let now = with_more (with_more known (node_labels x.subject)) (node_labels x.object) in
    let first : IsNumbered now x.subject = numbered_more (with_more known (node_labels x.subject)) (node_labels x.object) x.subject (node_numbered known x.subject) in
    let second : IsNumbered now x.object = node_numbered (with_more known (node_labels x.subject)) x.object in
    let fact : triple_of s f (with_more now ls) x ≡ triple_of s f now x =
    λ i. record { subject = term_stays s f now ls x.subject first i; predicate = Iri x.predicate; object = term_stays s f now ls x.object second i } in
    subst (λ (k : Texts). triple_of s f (with_more k ls) x ≡ triple_of s f k x) (sym two) fact

-- the triples of statements, one by one and all with the same labels
pub all_stay : (s f : ℕ) (ss : List Statement) (known : Texts) → triples_after s f known ss ≡ map (triple_of s f (with_more known (all_labels ss))) ss
all_stay s f [] known = refl
all_stay s f (x ∷ ss) known =
    let now = with_more known (statement_labels x) in
    let all = more_twice (statement_labels x) (all_labels ss) known in
    ap (λ t. t ∷ triples_after s f now ss) (sym (statement_stays s f known (all_labels ss) x))
    ∙ (ap (λ ts. triple_of s f (with_more now (all_labels ss)) x ∷ ts) (all_stay s f ss now)
    ∙ ap (λ (k : Texts). map (triple_of s f k) (x ∷ ss)) (sym all))

-- the known labels, and then those of the others that aren't among them, each once
abbrev is_new : Texts → List ℕ → Bool
is_new known m = not (is_known known m)

filter_twice : {X : Type 0} (p q r : X → Bool) → ((x : X) → r x ≡ (q x && p x)) → (xs : List X) → filter r xs ≡ filter p (filter q xs)
filter_twice p q r e [] = refl
filter_twice p q r e (x ∷ xs) =
    ap (λ b. cond b (x ∷ filter r xs) (filter r xs)) (e x)
    ∙ elim (q x) as (λ b. cond (b && p x) (x ∷ filter r xs) (filter r xs) ≡ filter p (cond b (x ∷ filter q xs) (filter q xs))) [
      | true ↦ ap (λ ys. cond (p x) (x ∷ ys) ys) (filter_twice p q r e xs)
      | false ↦ filter_twice p q r e xs
    ]

filter_all : {X : Type 0} (xs : List X) → filter (λ x. true) xs ≡ xs
filter_all [] = refl
filter_all (x ∷ xs) = ap (λ ys. x ∷ ys) (filter_all xs)

same_known : (known : Texts) (l m : List ℕ) → is_known known l ≡ true → is_new known m ≡ (not (bytes_eq l m) && is_new known m)
same_known known l m h = elim (bytes_eq l m) as (λ b. bytes_eq l m ≡ b → is_new known m ≡ (not b && is_new known m)) [
  | true ↦ λ e. ap not (ap (is_known known) (sym ((bytes_eq-Decides l m).0 e)) ∙ h)
  | false ↦ λ e. refl
] refl

swapped : (l m : List ℕ) → bytes_eq m l ≡ bytes_eq l m
swapped l m = elim (bytes_eq l m) as (λ b. bytes_eq l m ≡ b → bytes_eq m l ≡ b) [
  | true ↦ λ e. (bytes_eq-Decides m l).1 (sym ((bytes_eq-Decides l m).0 e))
  | false ↦ λ e. false_from_ne_true (bytes_eq m l) (λ k. let again : bytes_eq l m ≡ true = (bytes_eq-Decides l m).1 (sym ((bytes_eq-Decides m l).0 k)) in cc)
] refl

any_put : {X : Type 0} (p : X → Bool) (xs : List X) (y : X) → not (list_any p (xs ++ y ∷ [])) ≡ (not (p y) && not (list_any p xs))
any_put p [] y = elim (p y) as (λ b. not (b || false) ≡ (not b && true)) [ true ↦ refl | false ↦ refl ]
any_put p (x ∷ xs) y = elim (p x) as (λ b. not (b || list_any p (xs ++ y ∷ [])) ≡ (not (p y) && not (b || list_any p xs))) [
  | true ↦ elim (p y) as (λ c. false ≡ (not c && false)) [ true ↦ refl | false ↦ refl ]
  | false ↦ any_put p xs y
]

new_after : (known : Texts) (l m : List ℕ) → is_new (known ++ l ∷ []) m ≡ (not (bytes_eq l m) && is_new known m)
new_after known l m = any_put (bytes_eq m) known l ∙ ap (λ b. not b && is_new known m) (swapped l m)

pub known_first : (ls known : Texts) → with_more known ls ≡ known ++ filter (is_new known) (once ls)
known_first [] known = sym (append-nil known)
known_first (l ∷ ls) known =
    let others = filter (λ m. not (bytes_eq l m)) (once ls) in
    elim (is_known known l) as (λ b. is_known known l ≡ b → with_more (cond b known (known ++ l ∷ [])) ls ≡ known ++ cond (not b) (l ∷ filter (is_new known) others) (filter (is_new known) others)) [
      | true ↦ λ e. known_first ls known ∙ ap (λ xs. known ++ xs) (filter_twice (is_new known) (λ m. not (bytes_eq l m)) (is_new known) (λ m. same_known known l m e) (once ls))
      | false ↦ λ e. known_first ls (known ++ l ∷ [])
          ∙ (ap (λ xs. (known ++ l ∷ []) ++ xs) (filter_twice (is_new known) (λ m. not (bytes_eq l m)) (is_new (known ++ l ∷ [])) (new_after known l) (once ls))
          ∙ append_assoc known (l ∷ []) (filter (is_new known) others))
    ] refl

pub once_all : (ls : Texts) → with_more [] ls ≡ once ls
once_all ls = known_first ls [] ∙ filter_all (once ls)

-- one line more
pub line_added : (r : Result (Unit {0}) ReadFault) (n : ℕ) (reading : Result (Option Statement) RefusalKind) (x : Statement) (more : Result (List Statement) (ℕ × RefusalKind)) (before : Result (List Statement) (ℕ × RefusalKind) → Found) (after : Found)
    → reading ≡ Ok (Some x) → MatchResult r (λ u. before (with_statement x more) ≡ after) (λ fault. fault ≡ Memory)
    → MatchResult r (λ u. before (with_line n reading more) ≡ after) (λ fault. Refuses fault (before (with_line n reading more)))
line_added (Ok u) n reading x more before after e h = ap (λ q. before (with_line n q more)) e ∙ h
line_added (Err fault) n reading x more before after e h = subst (λ y. Refuses y (before (with_line n reading more))) (sym h) tt

-- the whole text
pub numbered_found : (s f : ℕ) (r : Result (List Statement) (ℕ × RefusalKind)) (ts : List Triple) (known : Texts) → going_on s f [] [] r ≡ Ok (ts, known) → numbered s f r ≡ Ok (with_each [] ts, f + length known)
numbered_found s f (Ok ss) ts known h =
    let labels = once_all (all_labels ss) in
    let pair : (triples_after s f [] ss, with_more [] (all_labels ss)) ≡ (ts, known) = cc in
    let same : triples_after s f [] ss ≡ ts = ap (λ (p : List Triple × Texts). p.0) pair in
    let last : with_more [] (all_labels ss) ≡ known = ap (λ (p : List Triple × Texts). p.1) pair in
    ap (λ (k : Texts). Ok (with_labels s f k ss)) (sym labels)
    ∙ (ap (λ us. Ok (with_each [] us, f + length (with_more [] (all_labels ss)))) (sym (all_stay s f ss []))
    ∙ (ap (λ us. Ok (with_each [] us, f + length (with_more [] (all_labels ss)))) same
    ∙ ap (λ (k : Texts). Ok (with_each [] ts, f + length k)) last))
numbered_found s f (Err e) ts known h = cc

-- where no character is left, all has been found
pub nothing_left : (labels : LabelKind) (s f n : ℕ) (ts : List Triple) (known : Texts) (rest : List ℕ) (r : Found) → length rest ≡ 0 → going_on s f ts known (lines_from labels n (lines (chars rest))) ≡ r → r ≡ Ok (ts, known)
nothing_left labels s f n ts known rest r empty h =
    sym h
    ∙ (ap (λ cs. going_on s f ts known (lines_from labels n (lines cs))) (ap chars (nil_from_length rest empty) ∙ chars-nil)
    ∙ ap (λ us. Ok (us, known)) (append-nil ts))

pub read_all : (labels : LabelKind) (s f n : ℕ) (cs : List ℕ) (ts : List Triple) (known : Texts) → going_on s f [] [] (lines_from labels 1 (lines cs)) ≡ Ok (ts, known) → n ≡ length known
    → numbered s f (lines_from labels 1 (lines cs)) ≡ Ok (with_each [] ts, f + n)
read_all labels s f n cs ts known hr hn = numbered_found s f (lines_from labels 1 (lines cs)) ts known hr ∙ ap (λ m. Ok (with_each [] ts, f + m)) (sym hn)

-- labels of a text have places, each its own
known_of : (ls known : Texts) (l : List ℕ) → is_known ls l ≡ true → is_known (with_more known ls) l ≡ true
known_of [] known l h = absurd (let bad : false ≡ true = h in cc)
known_of (m ∷ ls) known l h = elim (bytes_eq l m) as (λ b. bytes_eq l m ≡ b → (b || is_known ls l) ≡ true → is_known (with_more (insert_key bytes_eq known m) ls) l ≡ true) [
  | true ↦ λ e k. known_more ls (insert_key bytes_eq known m) l (subst (λ (x : List ℕ). is_known (insert_key bytes_eq known m) x ≡ true) (sym ((bytes_eq-Decides l m).0 e)) (known_self known m))
  | false ↦ λ e k. known_of ls (insert_key bytes_eq known m) l k
] refl h

one_place : (xs : Texts) (a b : List ℕ) → is_known xs a ≡ true → is_known xs b ≡ true → position_or_len (bytes_eq a) xs ≡ position_or_len (bytes_eq b) xs → a ≡ b
one_place [] a b ha hb e = absurd (let bad : false ≡ true = ha in cc)
one_place (x ∷ xs) a b ha hb e =
    let p = position_or_len (bytes_eq a) xs in
    let q = position_or_len (bytes_eq b) xs in
    elim (bytes_eq a x) as (λ c. bytes_eq a x ≡ c → (c || is_known xs a) ≡ true → cond (not c) (1 + p) 0 ≡ cond (not (bytes_eq b x)) (1 + q) 0 → a ≡ b) [
      | true ↦ λ ea ka j. elim (bytes_eq b x) as (λ d. bytes_eq b x ≡ d → 0 ≡ cond (not d) (1 + q) 0 → a ≡ b) [
        | true ↦ λ eb k. (bytes_eq-Decides a x).0 ea ∙ sym ((bytes_eq-Decides b x).0 eb)
        | false ↦ λ eb k. absurd (omega arith)
      ] refl j
      | false ↦ λ ea ka j. elim (bytes_eq b x) as (λ d. (d || is_known xs b) ≡ true → 1 + p ≡ cond (not d) (1 + q) 0 → a ≡ b) [
        | true ↦ λ kb k. absurd (omega arith)
        | false ↦ λ kb k. one_place xs a b ka kb (omega arith)
      ] hb j
    ] refl ha e

abbrev blank_number : Term → ℕ
blank_number (Blank s n) = n
blank_number (Iri a) = 0
blank_number (Literal l d t) = 0

pub labels_apart : LabelsStayApart
labels_apart session first labels a b ha hb e =
    let all = once_all labels in
    let has : (l : List ℕ) → is_known labels l ≡ true → is_known (once labels) l ≡ true = λ l h. subst (λ (k : Texts). is_known k l ≡ true) all (known_of labels [] l h) in
    let sum : first + position_or_len (bytes_eq a) (once labels) ≡ first + position_or_len (bytes_eq b) (once labels) = ap blank_number e in
    one_place (once labels) a b (has a ha) (has b hb) (omega (arith, sum))
