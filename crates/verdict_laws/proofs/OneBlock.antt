-- A text begins with at most one block of the format: what is written is found.
use Rattle.std.proofs.Common.{◌≡◌, ◌∙◌, ℕ, List, [], ◌∷◌, ◌++◌, get_or, Some, None, codes, refl, sym, ap, subst, append_assoc, arith}
use Rattle.std.specs.Fmt.{decimal}
use Rattle.std.specs.List.{AllByRecursion, flat_map}
use Rattle.std.proofs.lemmas.List.{append_cancel_left}
use Rattle.rdf_model.specs.declared.term.Term.{Term}
use Rattle.rdf_model.specs.declared.triple.Triple.{Triple}
use Rattle.rdf_model.specs.declared.look.Look.{Look}
use Rattle.rdf_model.specs.declared.look.Look.TheVariants.{Out, In, OutAny}
use Rattle.rdf_model.specs.NTriples.{term_text, triple_text}
use Rattle.ntriples_text.specs.Laws.{IsReadable, IsStored}
use Rattle.ntriples_text.specs.Writing.{written, written_line}
use Rattle.record_text.specs.Lines.{HasNoEnd, ended}
use Rattle.record_text.proofs.Sections.{same_graph}
use Rattle.record_text.proofs.OneSplit.{same_first}
use Rattle.record_text.proofs.TripleLines.{triple_has_no_end}
use Rattle.shape_model.specs.declared.component.Component.{Component}
use Rattle.shape_model.specs.declared.result_row.ResultRow.{ResultRow}
use Rattle.shape_model.specs.Rows.{component_number}
use Rattle.evidence_blocks.specs.declared.block.Block.{Block}
use Rattle.evidence_blocks.specs.BlockText.{block_text, look_text, numbered_block, optional_line, row_terms, row_text, shown_text}
use Rattle.evidence_blocks.specs.Readable.{IsReadableBlock, IsReadableLook, IsReadableOption, IsReadableRow, IsReadableShown, IsReadableTerm}
use Rattle.evidence_reader.specs.Finding.{FollowsLooks, FollowsRow, FollowsTriples, HasNot, first, first_two, marked_line, marked_option, spaced}
use Rattle.evidence_reader.proofs.Spelled.{iri_has_no_space, iri_term, same_term, term_has_no_end}
use Rattle.evidence_reader.proofs.Splits.{same_first_space, same_last_space}
use Rattle.record_text.proofs.OneSplit.{same_marked}
use Rattle.evidence_reader.specs.Finding.{Anything}
use Rattle.evidence_reader.specs.RowLines.{component_line, head_text, two_lines}
use Rattle.evidence_reader.proofs.LookTexts.{after_looks, look_no_end, spaced_line, triple_first}
use Rattle.evidence_reader.proofs.Numbered.{number_no_end, same_number}
use Rattle.evidence_reader.proofs.RowTexts.{about_line, after_row, before_about, before_other, before_value, block_split, numbered_split, other_line, parameter_line, row_split, value_line}

-- texts of things of which P holds, before what Ends holds of, are split in one way
abbrev IsCode : {X : Type 0} → (X → Type 0) → (X → List ℕ) → (List ℕ → Type 0) → Type 0
IsCode P text_of Ends = (x y : _) (r q : List ℕ) → P x → P y → Ends r → Ends q → text_of x ++ r ≡ text_of y ++ q → (x ≡ y) × (r ≡ q)

-- a line behind a mark
line_code : {X : Type 0} (P : X → Type 0) (inner : X → List ℕ) (mark : List ℕ) → ((x : X) → P x → HasNoEnd (inner x)) → ((x y : X) → P x → P y → inner x ≡ inner y → x ≡ y) → IsCode P (λ x. marked_line mark (inner x)) Anything
line_code P inner mark one_line same x y r q p o w v e = let s = same_marked mark (inner x) (inner y) r q (one_line x p) (one_line y o) e in (same x y p o s.0, s.1)

term_code : (mark : List ℕ) → IsCode IsReadableTerm (λ t. marked_line mark (term_text t)) Anything
term_code mark = line_code IsReadableTerm term_text mark term_has_no_end same_term

component_code : IsCode (λ _. Unit {0}) component_line Anything
component_code = line_code (λ _. Unit {0}) (λ c. decimal (component_number c)) (codes "component ") (λ c p. number_no_end c) (λ c d p o e. same_number c d e)

triple_code : IsCode (IsReadable IsStored) written_line Anything
triple_code t u r q p o w v e =
    let s = same_first (triple_text t) (triple_text u) r q (triple_has_no_end t p) (triple_has_no_end u o) e in
    let texts : written (t ∷ []) ≡ written (u ∷ []) = ap (λ (l : List ℕ). (l ++ codes "\n") ++ []) s.0 in
    let graphs : t ∷ [] ≡ u ∷ [] = same_graph (t ∷ []) (u ∷ []) ((p, tt), (tt, tt)) ((o, tt), (tt, tt)) texts in
    let one : t ≡ u = ap (λ (ts : List Triple). get_or ts 0 t) graphs in
    (one, s.1)

-- lines of looks
look_cut : (mark a b c d r q : List ℕ) → HasNoEnd (spaced a b) → HasNoEnd (spaced c d) → mark ++ a ++ codes " " ++ b ++ codes "\n" ++ r ≡ mark ++ c ++ codes " " ++ d ++ codes "\n" ++ q → (spaced a b ≡ spaced c d) × (r ≡ q)
look_cut mark a b c d r q n m e = same_marked mark (spaced a b) (spaced c d) r q n m (ap (λ (l : List ℕ). l ++ r) (sym (spaced_line mark a b)) ∙ e ∙ ap (λ (l : List ℕ). l ++ q) (spaced_line mark c d))

look_code : IsCode IsReadableLook look_text Anything
look_code (Out x p) (Out y q) r t a b w v e =
    let s = look_cut (codes "out ") (term_text x) (term_text p) (term_text y) (term_text q) r t (look_no_end (Out x p) a) (look_no_end (Out y q) b) e in
    let k = same_last_space (term_text x) (term_text y) (term_text p) (term_text q) (iri_has_no_space p a.1) (iri_has_no_space q b.1) s.0 in
    let l = same_term x y a.0 b.0 k.0 in
    let m = same_term p q (iri_term p a.1) (iri_term q b.1) k.1 in
    ((λ i. Out (l i) (m i)), s.1)
look_code (In p x) (In q y) r t a b w v e =
    let s = look_cut (codes "in ") (term_text p) (term_text x) (term_text q) (term_text y) r t (look_no_end (In p x) a) (look_no_end (In q y) b) e in
    let k = same_first_space (term_text p) (term_text q) (term_text x) (term_text y) (iri_has_no_space p a.0) (iri_has_no_space q b.0) s.0 in
    let l = same_term p q (iri_term p a.0) (iri_term q b.0) k.0 in
    let m = same_term x y a.1 b.1 k.1 in
    ((λ i. In (l i) (m i)), s.1)
look_code (OutAny x) (OutAny y) r t a b w v e = let s = term_code (codes "any ") x y r t a b tt tt e in (ap (λ (z : Term). OutAny z) s.0, s.1)
look_code (Out x p) (In q y) r t a b w v e = absurd (let bad : 111 ≡ 105 = ap first e in omega (arith, bad))
look_code (Out x p) (OutAny y) r t a b w v e = absurd (let bad : 111 ≡ 97 = ap first e in omega (arith, bad))
look_code (In p x) (Out y q) r t a b w v e = absurd (let bad : 105 ≡ 111 = ap first e in omega (arith, bad))
look_code (In p x) (OutAny y) r t a b w v e = absurd (let bad : 105 ≡ 97 = ap first e in omega (arith, bad))
look_code (OutAny x) (Out y q) r t a b w v e = absurd (let bad : 97 ≡ 111 = ap first e in omega (arith, bad))
look_code (OutAny x) (In q y) r t a b w v e = absurd (let bad : 97 ≡ 105 = ap first e in omega (arith, bad))

-- one thing after another
both_code : {A B : Type 0} (P : A → Type 0) (Q : B → Type 0) (text_of : A → List ℕ) (next_of : B → List ℕ) (Ends : List ℕ → Type 0) → IsCode P text_of Anything → IsCode Q next_of Ends → IsCode (λ (x : A × B). P x.0 × Q x.1) (λ x. text_of x.0 ++ next_of x.1) Ends
both_code P Q text_of next_of Ends f g x y r q p o w v e =
    let s = f x.0 y.0 (next_of x.1 ++ r) (next_of y.1 ++ q) p.0 o.0 tt tt (sym (append_assoc (text_of x.0) (next_of x.1) r) ∙ e ∙ append_assoc (text_of y.0) (next_of y.1) q) in
    let k = g x.1 y.1 r q p.1 o.1 w v s.1 in
    ((λ i. (s.0 i, k.0 i)), k.1)

-- a line that may stand there
option_code : (mark : List ℕ) → IsCode IsReadableOption (marked_option mark) (HasNot mark)
option_code mark None None r q p o w v e = (refl, e)
option_code mark None (Some u) r q p o w v e = absurd (w (ended (term_text u) ++ q) (e ∙ append_assoc mark (ended (term_text u)) q))
option_code mark (Some t) None r q p o w v e = absurd (v (ended (term_text t) ++ r) (sym e ∙ append_assoc mark (ended (term_text t)) r))
option_code mark (Some t) (Some u) r q p o w v e = let s = term_code mark t u r q p o tt tt e in (ap (λ (z : Term). Some z) s.0, s.1)

-- items one after another, before what begins with none
list_code : {X : Type 0} (P : X → Type 0) (text_of : X → List ℕ) (Ends ItemEnds : List ℕ → Type 0) → IsCode P text_of ItemEnds
    → ((us : List X) (behind : List ℕ) → AllByRecursion P us → Ends behind → ItemEnds (flat_map text_of us ++ behind)) → ((x : X) (rest : List ℕ) → P x → Ends (text_of x ++ rest) → ⊥) → IsCode (AllByRecursion P) (flat_map text_of) Ends
list_code P text_of Ends ItemEnds code follows never [] [] r q p o w v e = (refl, e)
list_code P text_of Ends ItemEnds code follows never [] (y ∷ ys) r q p o w v e = absurd (never y (flat_map text_of ys ++ q) o.0 (subst Ends (e ∙ append_assoc (text_of y) (flat_map text_of ys) q) w))
list_code P text_of Ends ItemEnds code follows never (x ∷ xs) [] r q p o w v e = absurd (never x (flat_map text_of xs ++ r) p.0 (subst Ends (sym e ∙ append_assoc (text_of x) (flat_map text_of xs) r) v))
list_code P text_of Ends ItemEnds code follows never (x ∷ xs) (y ∷ ys) r q p o w v e =
    let s = code x y (flat_map text_of xs ++ r) (flat_map text_of ys ++ q) p.0 o.0 (follows xs r p.1 w) (follows ys q o.1 v) (sym (append_assoc (text_of x) (flat_map text_of xs) r) ∙ e ∙ append_assoc (text_of y) (flat_map text_of ys) q) in
    let k = list_code P text_of Ends ItemEnds code follows never xs ys r q p.1 o.1 w v s.1 in
    ((λ i. s.0 i ∷ k.0 i), k.1)

triples_code : IsCode (AllByRecursion (IsReadable IsStored)) written FollowsTriples
triples_code = list_code (IsReadable IsStored) written_line FollowsTriples Anything triple_code (λ us behind a w. tt) triple_first

shown_code : IsCode IsReadableShown shown_text FollowsTriples
shown_code x y r q p o w v e =
    let s = both_code IsReadableLook (AllByRecursion (IsReadable IsStored)) look_text written FollowsTriples look_code triples_code (x.look, x.triples) (y.look, y.triples) r q p o w v e in
    ((λ i. record { look = (s.0 i).0; triples = (s.0 i).1 }), s.1)

look_begins : (look : Look Term) (rest : List ℕ) → FollowsLooks (look_text look ++ rest) → ⊥
look_begins (Out x p) rest e = let bad : 111 ≡ 101 = e in omega (arith, bad)
look_begins (In p x) rest e = let bad : 105 ≡ 101 = e in omega (arith, bad)
look_begins (OutAny x) rest e = let bad : 97 ≡ 101 = e in omega (arith, bad)

looks_code : IsCode (AllByRecursion IsReadableShown) (flat_map shown_text) FollowsLooks
looks_code = list_code IsReadableShown shown_text FollowsLooks FollowsTriples shown_code after_looks (λ x rest p f. look_begins x.look (written x.triples ++ rest) (subst (λ (l : List ℕ). FollowsLooks l) (append_assoc (look_text x.look) (written x.triples) rest) f))

-- a result
terms_split : (r : ResultRow) (rest : List ℕ) → row_terms r ++ rest ≡ marked_option (codes "parameter ") r.parameter ++ (optional_line (codes "about") r.about ++ (optional_line (codes "value") r.value ++ (optional_line (codes "other") r.other ++ rest)))
terms_split r rest =
    regroup (optional_line (codes "parameter") r.parameter) (optional_line (codes "about") r.about) (optional_line (codes "value") r.value) (optional_line (codes "other") r.other) rest
    ∙ ap (λ (l : List ℕ). l ++ (optional_line (codes "about") r.about ++ (optional_line (codes "value") r.value ++ (optional_line (codes "other") r.other ++ rest)))) (parameter_line r.parameter)
  where
    regroup : (a b c d e : List ℕ) → a ++ b ++ c ++ d ++ e ≡ a ++ (b ++ (c ++ (d ++ e)))
    regroup a b c d e = simp append_assoc

abbrev behind_parameter : ResultRow → List ℕ → List ℕ
behind_parameter r rest = optional_line (codes "about") r.about ++ (optional_line (codes "value") r.value ++ (optional_line (codes "other") r.other ++ rest))

not_parameter : (r : ResultRow) (rest : List ℕ) → FollowsRow rest → HasNot (codes "parameter ") (behind_parameter r rest)
not_parameter r rest f more e =
    before_about r.about (optional_line (codes "value") r.value ++ (optional_line (codes "other") r.other ++ rest)) 28769 (λ q. omega (arith, q))
    (before_value r.value (optional_line (codes "other") r.other ++ rest) 28769 (λ q. omega (arith, q)) (before_other r.other rest 28769 (λ q. omega (arith, q)) f.0)) (ap first_two e)

not_about : (r : ResultRow) (rest : List ℕ) → FollowsRow rest → HasNot (codes "about ") (optional_line (codes "value") r.value ++ (optional_line (codes "other") r.other ++ rest))
not_about r rest f more e = before_value r.value (optional_line (codes "other") r.other ++ rest) 24930 (λ q. omega (arith, q)) (before_other r.other rest 24930 (λ q. omega (arith, q)) f.1) (ap first_two e)

not_value : (r : ResultRow) (rest : List ℕ) → FollowsRow rest → HasNot (codes "value ") (optional_line (codes "other") r.other ++ rest)
not_value r rest f more e = before_other r.other rest 30305 (λ q. omega (arith, q)) f.2 (ap first_two e)

not_other : (rest : List ℕ) → FollowsRow rest → HasNot (codes "other ") rest
not_other rest f more e = f.3 (ap first_two e)

-- the lines that may stand behind the head
same_terms : (r q : ResultRow) (x y : List ℕ) → IsReadableRow r → IsReadableRow q → FollowsRow x → FollowsRow y → row_terms r ++ x ≡ row_terms q ++ y
    → (r.parameter ≡ q.parameter) × (r.about ≡ q.about) × (r.value ≡ q.value) × (r.other ≡ q.other) × (x ≡ y)
same_terms r q x y p o w v e =
    let rv = optional_line (codes "value") r.value ++ (optional_line (codes "other") r.other ++ x) in
    let qv = optional_line (codes "value") q.value ++ (optional_line (codes "other") q.other ++ y) in
    let ro = optional_line (codes "other") r.other ++ x in
    let qo = optional_line (codes "other") q.other ++ y in
    let k1 = option_code (codes "parameter ") r.parameter q.parameter (behind_parameter r x) (behind_parameter q y) p.parameter o.parameter (not_parameter r x w) (not_parameter q y v) (sym (terms_split r x) ∙ e ∙ terms_split q y) in
    let k2 = option_code (codes "about ") r.about q.about rv qv p.about o.about (not_about r x w) (not_about q y v) (ap (λ (l : List ℕ). l ++ rv) (sym (about_line r.about)) ∙ k1.1 ∙ ap (λ (l : List ℕ). l ++ qv) (about_line q.about)) in
    let k3 = option_code (codes "value ") r.value q.value ro qo p.value o.value (not_value r x w) (not_value q y v) (ap (λ (l : List ℕ). l ++ ro) (sym (value_line r.value)) ∙ k2.1 ∙ ap (λ (l : List ℕ). l ++ qo) (value_line q.value)) in
    let k4 = option_code (codes "other ") r.other q.other x y p.other o.other (not_other x w) (not_other y v) (ap (λ (l : List ℕ). l ++ x) (sym (other_line r.other)) ∙ k3.1 ∙ ap (λ (l : List ℕ). l ++ y) (other_line q.other)) in
    (k1.0, k2.0, k3.0, k4.0, k4.1)

two_code : (mark second : List ℕ) → IsCode (λ (x : Term × Term). IsReadableTerm x.0 × IsReadableTerm x.1) (two_lines mark second) Anything
two_code mark second = both_code IsReadableTerm IsReadableTerm (λ t. marked_line mark (term_text t)) (λ t. marked_line second (term_text t)) Anything (term_code mark) (term_code second)

head_code : IsCode (λ (x : (Term × Term) × Component). (IsReadableTerm x.0.0 × IsReadableTerm x.0.1) × Unit {0}) head_text Anything
head_code = both_code (λ (x : Term × Term). IsReadableTerm x.0 × IsReadableTerm x.1) (λ _. Unit {0}) (two_lines (codes "source ") (codes "focus ")) component_line Anything (two_code (codes "source ") (codes "focus ")) component_code

row_code : IsCode IsReadableRow row_text FollowsRow
row_code r q x y p o w v e =
    let s = head_code ((r.source_shape, r.focus_node), r.component) ((q.source_shape, q.focus_node), q.component) (row_terms r ++ x) (row_terms q ++ y) ((p.source_shape, p.focus_node), tt) ((o.source_shape, o.focus_node), tt) tt tt (sym (row_split r x) ∙ e ∙ row_split q y) in
    let k = same_terms r q x y p o w v s.1 in
    ((λ i. record { source_shape = (s.0 i).0.0; focus_node = (s.0 i).0.1; component = (s.0 i).1; parameter = k.0 i; about = k.1 i; value = k.2 i; other = k.3 i }), k.4)

-- blocks
pub same_block : (b c : Block) (x y : List ℕ) → IsReadableBlock b → IsReadableBlock c → block_text b ++ x ≡ block_text c ++ y → (b ≡ c) × (x ≡ y)
same_block b c x y p o e =
    let bx = flat_map shown_text b.looks ++ (codes "end\n" ++ x) in
    let cy = flat_map shown_text c.looks ++ (codes "end\n" ++ y) in
    let s = two_code (codes "shape ") (codes "at ") (b.shape, b.focus) (c.shape, c.focus) (row_text b.row ++ bx) (row_text c.row ++ cy) (p.shape, p.focus) (o.shape, o.focus) tt tt (sym (block_split b x) ∙ e ∙ block_split c y) in
    let k = row_code b.row c.row bx cy p.row o.row (after_row b.looks x) (after_row c.looks y) s.1 in
    let l = looks_code b.looks c.looks (codes "end\n" ++ x) (codes "end\n" ++ y) p.looks o.looks refl refl k.1 in
    ((λ i. record { shape = (s.0 i).0; focus = (s.0 i).1; row = k.0 i; looks = l.0 i }), append_cancel_left (codes "end\n") x y l.1)

-- with the same number before them
pub same_numbered : (n : ℕ) (b c : Block) (x y : List ℕ) → IsReadableBlock b → IsReadableBlock c → numbered_block n b ++ x ≡ numbered_block n c ++ y → (b ≡ c) × (x ≡ y)
same_numbered n b c x y p o e = same_block b c x y p o (append_cancel_left (codes "result " ++ decimal n ++ codes "\n") (block_text b ++ x) (block_text c ++ y) (sym (numbered_split n b x) ∙ e ∙ numbered_split n c y))
