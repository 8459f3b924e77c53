-- The lines of a result, and of a block.
use Rattle.std.proofs.Common.{◌≡◌, ◌≢◌, ◌∙◌, ℕ, List, [], ◌∷◌, ◌++◌, Option, Some, None, codes, refl, sym, ap, subst, append_assoc, arith}
use Rattle.std.proofs.lemmas.List.{append_cancel_left}
use Rattle.std.specs.Borrow.{Bor}
use Rattle.std.specs.Fmt.{decimal}
use Rattle.std.specs.List.{flat_map}
use Rattle.rdf_model.specs.declared.term.Term.{Term}
use Rattle.rdf_model.specs.declared.look.Look.{Look}
use Rattle.rdf_model.specs.declared.look.Look.TheVariants.{Out, In, OutAny}
use Rattle.rdf_model.specs.NTriples.{term_text}
use Rattle.shape_model.specs.declared.component.Component.{Component}
use Rattle.shape_model.specs.declared.result_row.ResultRow.{ResultRow}
use Rattle.shape_model.specs.Rows.{component_number}
use Rattle.ntriples_text.specs.Writing.{written}
use Rattle.evidence_blocks.specs.declared.block.Block.{Block}
use Rattle.evidence_blocks.specs.declared.block.ShownLook.{ShownLook}
use Rattle.evidence_blocks.specs.BlockText.{block_text, look_text, numbered_block, optional_line, row_terms, row_text, shown_text, term_line}
use Rattle.evidence_blocks.specs.Readable.{IsReadableBlock, IsReadableOption, IsReadableRow, IsReadableShown, IsReadableTerm}
use Rattle.evidence_reader.specs.Finding.{Anything, Finds, FindsAll, FollowsLooks, FollowsRow, HasNot, first_two, marked_line, marked_option}
use Rattle.evidence_reader.specs.RowLines.{AreReadable, FindsOption, FindsTerms, IsReadableHead, head_text, two_lines}
use Rattle.evidence_reader.specs.NextBlocks.{FindsBlock, IsNextBlock}

-- a term that the first line may have
pub option_found : (mark text : List ℕ) (term : Term) (rest : Bor (List ℕ)) → Finds IsReadableTerm (λ t. marked_line mark (term_text t)) Anything text (Some (term, rest)) → (HasNot mark text → ⊥) → FindsOption mark text (Some term) rest.now
option_found mark text term rest f never = record { sound = f.sound; every = each }
  where
    each : (o : Option Term) (behind : List ℕ) → IsReadableOption o → HasNot mark behind → text ≡ marked_option mark o ++ behind → (Some term ≡ o) × (rest.now ≡ behind)
    each None behind r n e = absurd (never (subst (λ (l : List ℕ). HasNot mark l) (sym e) n))
    each (Some t) behind r n e = let k = f.every t behind r tt e in (ap (λ x. Some x) k.0, k.1)

pub option_missing : (mark text : List ℕ) → Finds IsReadableTerm (λ t. marked_line mark (term_text t)) Anything text None → FindsOption mark text None text
option_missing mark text f = record { sound = tt; every = each }
  where
    each : (o : Option Term) (behind : List ℕ) → IsReadableOption o → HasNot mark behind → text ≡ marked_option mark o ++ behind → (None ≡ o) × (text ≡ behind)
    each None behind r n e = (refl, e)
    each (Some t) behind r n e = absurd (f.every t behind r tt e)

-- the lines that may stand behind the head
pub parameter_line : (o : Option Term) → optional_line (codes "parameter") o ≡ marked_option (codes "parameter ") o
parameter_line None = refl
parameter_line (Some t) = refl

pub about_line : (o : Option Term) → optional_line (codes "about") o ≡ marked_option (codes "about ") o
about_line None = refl
about_line (Some t) = refl

pub value_line : (o : Option Term) → optional_line (codes "value") o ≡ marked_option (codes "value ") o
value_line None = refl
value_line (Some t) = refl

pub other_line : (o : Option Term) → optional_line (codes "other") o ≡ marked_option (codes "other ") o
other_line None = refl
other_line (Some t) = refl

-- how what follows begins
pub before_about : (o : Option Term) (rest : List ℕ) (k : ℕ) → 24930 ≢ k → first_two rest ≢ k → first_two (optional_line (codes "about") o ++ rest) ≢ k
before_about None rest k n m e = m e
before_about (Some t) rest k n m e = n e

pub before_value : (o : Option Term) (rest : List ℕ) (k : ℕ) → 30305 ≢ k → first_two rest ≢ k → first_two (optional_line (codes "value") o ++ rest) ≢ k
before_value None rest k n m e = m e
before_value (Some t) rest k n m e = n e

pub before_other : (o : Option Term) (rest : List ℕ) (k : ℕ) → 28532 ≢ k → first_two rest ≢ k → first_two (optional_line (codes "other") o ++ rest) ≢ k
before_other None rest k n m e = m e
before_other (Some t) rest k n m e = n e

apart : (a b : ℕ) → a ≢ b → a ≡ b → ⊥
apart a b n e = n e

module _ (head : (Term × Term) × Component) (text second third fourth rest : List ℕ) (parameter about value other : Option Term) where
  pub terms_found : FindsOption (codes "parameter ") text parameter second → FindsOption (codes "about ") second about third → FindsOption (codes "value ") third value fourth → FindsOption (codes "other ") fourth other rest
      → FindsTerms head text (record { source_shape = head.0.0; focus_node = head.0.1; component = head.1; parameter = parameter; about = about; value = value; other = other }) rest
  terms_found p a v o = record {
    source_shape = refl;
    focus_node = refl;
    component = refl;
    sound = (p.sound, a.sound, v.sound, o.sound);
    every = λ r behind good follows e. (
        let ro = optional_line (codes "other") r.other ++ behind in
        let rv = optional_line (codes "value") r.value ++ ro in
        let ra = optional_line (codes "about") r.about ++ rv in
        let whole : text ≡ optional_line (codes "parameter") r.parameter ++ ra = e ∙ regroup (optional_line (codes "parameter") r.parameter) (optional_line (codes "about") r.about) (optional_line (codes "value") r.value) (optional_line (codes "other") r.other) behind in
        let k1 = p.every r.parameter ra good.parameter (λ more f. before_about r.about rv 28769 (λ q. omega (arith, q)) (before_value r.value ro 28769 (λ q. omega (arith, q)) (before_other r.other behind 28769 (λ q. omega (arith, q)) follows.0)) (ap first_two f)) (whole ∙ ap (λ (l : List ℕ). l ++ ra) (parameter_line r.parameter)) in
        let k2 = a.every r.about rv good.about (λ more f. before_value r.value ro 24930 (λ q. omega (arith, q)) (before_other r.other behind 24930 (λ q. omega (arith, q)) follows.1) (ap first_two f)) (k1.1 ∙ ap (λ (l : List ℕ). l ++ rv) (about_line r.about)) in
        let k3 = v.every r.value ro good.value (λ more f. before_other r.other behind 30305 (λ q. omega (arith, q)) follows.2 (ap first_two f)) (k2.1 ∙ ap (λ (l : List ℕ). l ++ ro) (value_line r.value)) in
        let k4 = o.every r.other behind good.other (λ more f. follows.3 (ap first_two f)) (k3.1 ∙ ap (λ (l : List ℕ). l ++ behind) (other_line r.other)) in
        (k1.0, k2.0, k3.0, k4.0, k4.1)
        );
  }
    where
      regroup : (a b c d e : List ℕ) → a ++ b ++ c ++ d ++ e ≡ a ++ (b ++ (c ++ (d ++ e)))
      regroup a b c d e = simp append_assoc

-- the result behind its head
pub row_split : (r : ResultRow) (rest : List ℕ) → row_text r ++ rest ≡ head_text ((r.source_shape, r.focus_node), r.component) ++ (row_terms r ++ rest)
row_split r rest = regroup (term_line (codes "source") r.source_shape) (term_line (codes "focus") r.focus_node) (decimal (component_number r.component)) (row_terms r) rest
  where
    regroup : (s f d t more : List ℕ) → s ++ f ++ codes "component " ++ d ++ codes "\n" ++ t ++ more ≡ s ++ f ++ (codes "component " ++ (d ++ codes "\n")) ++ (t ++ more)
    regroup s f d t more = simp append_assoc

pub no_row : (text : List ℕ) → Finds IsReadableHead head_text Anything text None → Finds IsReadableRow row_text FollowsRow text None
no_row text f = record { sound = tt; every = λ r rest good w e. f.every ((r.source_shape, r.focus_node), r.component) (row_terms r ++ rest) ((good.source_shape, good.focus_node), tt) tt (e ∙ row_split r rest) }

pub row_found : (text : List ℕ) (head : (Term × Term) × Component) (behind rest : Bor (List ℕ)) (row : ResultRow) → Finds IsReadableHead head_text Anything text (Some (head, behind)) → FindsTerms head behind.now row rest.now
    → Finds IsReadableRow row_text FollowsRow text (Some (row, rest))
row_found text head behind rest row f g = record {
  sound = record {
    source_shape = subst (λ (t : Term). IsReadableTerm t) (sym g.source_shape) f.sound.0.0;
    focus_node = subst (λ (t : Term). IsReadableTerm t) (sym g.focus_node) f.sound.0.1;
    parameter = g.sound.0;
    about = g.sound.1;
    value = g.sound.2;
    other = g.sound.3;
  };
  every = λ r more good w e. (
      let s = f.every ((r.source_shape, r.focus_node), r.component) (row_terms r ++ more) ((good.source_shape, good.focus_node), tt) tt (e ∙ row_split r more) in
      let k = g.every r more good w s.1 in
      let source = g.source_shape ∙ ap (λ (h : (Term × Term) × Component). h.0.0) s.0 in
      let focus = g.focus_node ∙ ap (λ (h : (Term × Term) × Component). h.0.1) s.0 in
      let component = g.component ∙ ap (λ (h : (Term × Term) × Component). h.1) s.0 in
      ((λ i. record { source_shape = source i; focus_node = focus i; component = component i; parameter = k.0 i; about = k.1 i; value = k.2 i; other = k.3 i }), k.4)
      );
}

-- what follows the result in a block
pub after_row : (xs : List ShownLook) (rest : List ℕ) → FollowsRow (flat_map shown_text xs ++ (codes "end\n" ++ rest))
after_row [] rest = ((λ e. let bad : 25966 ≡ 28769 = e in omega (arith, bad)), (λ e. let bad : 25966 ≡ 24930 = e in omega (arith, bad)), (λ e. let bad : 25966 ≡ 30305 = e in omega (arith, bad)), (λ e. let bad : 25966 ≡ 28532 = e in omega (arith, bad)))
after_row (x ∷ xs) rest = look_begins x.look
  where
    look_begins : (look : Look Term) → FollowsRow (((look_text look ++ written x.triples) ++ flat_map shown_text xs) ++ (codes "end\n" ++ rest))
    look_begins (Out s p) = ((λ e. let bad : 28533 ≡ 28769 = e in omega (arith, bad)), (λ e. let bad : 28533 ≡ 24930 = e in omega (arith, bad)), (λ e. let bad : 28533 ≡ 30305 = e in omega (arith, bad)), (λ e. let bad : 28533 ≡ 28532 = e in omega (arith, bad)))
    look_begins (In p s) = ((λ e. let bad : 26990 ≡ 28769 = e in omega (arith, bad)), (λ e. let bad : 26990 ≡ 24930 = e in omega (arith, bad)), (λ e. let bad : 26990 ≡ 30305 = e in omega (arith, bad)), (λ e. let bad : 26990 ≡ 28532 = e in omega (arith, bad)))
    look_begins (OutAny s) = ((λ e. let bad : 24942 ≡ 28769 = e in omega (arith, bad)), (λ e. let bad : 24942 ≡ 24930 = e in omega (arith, bad)), (λ e. let bad : 24942 ≡ 30305 = e in omega (arith, bad)), (λ e. let bad : 24942 ≡ 28532 = e in omega (arith, bad)))

-- the parts of a block
pub block_split : (b : Block) (rest : List ℕ) → block_text b ++ rest ≡ two_lines (codes "shape ") (codes "at ") (b.shape, b.focus) ++ (row_text b.row ++ (flat_map shown_text b.looks ++ (codes "end\n" ++ rest)))
block_split b rest = regroup (term_line (codes "shape") b.shape) (term_line (codes "at") b.focus) (row_text b.row) (flat_map shown_text b.looks) (codes "end\n") rest
  where
    regroup : (a b c d e f : List ℕ) → a ++ b ++ c ++ d ++ e ++ f ≡ a ++ b ++ (c ++ (d ++ (e ++ f)))
    regroup a b c d e f = simp append_assoc

module _ (text : List ℕ) where
  pub no_aim : Finds AreReadable (two_lines (codes "shape ") (codes "at ")) Anything text None → FindsBlock text None
  no_aim f = record { sound = tt; every = λ b rest r e. absurd (f.every (b.shape, b.focus) _ (r.shape, r.focus) tt (e ∙ block_split b rest)) }

  module _ (aim : Term × Term) (behind : Bor (List ℕ)) (f : Finds AreReadable (two_lines (codes "shape ") (codes "at ")) Anything text (Some (aim, behind))) where
    aimed : (b : Block) (rest : List ℕ) → IsReadableBlock b → text ≡ block_text b ++ rest → (aim ≡ (b.shape, b.focus)) × (behind.now ≡ row_text b.row ++ (flat_map shown_text b.looks ++ (codes "end\n" ++ rest)))
    aimed b rest r e = f.every (b.shape, b.focus) (row_text b.row ++ (flat_map shown_text b.looks ++ (codes "end\n" ++ rest))) (r.shape, r.focus) tt (e ∙ block_split b rest)

    pub no_row_there : Finds IsReadableRow row_text FollowsRow behind.now None → FindsBlock text None
    no_row_there g = record { sound = tt; every = λ b rest r e. absurd (g.every b.row _ r.row (after_row b.looks rest) (aimed b rest r e).1) }

    pub block_found : (row : ResultRow) (next : Bor (List ℕ)) (looks : List ShownLook) (last : List ℕ) → Finds IsReadableRow row_text FollowsRow behind.now (Some (row, next)) → FindsAll IsReadableShown shown_text FollowsLooks next.now looks last
        → FindsBlock text (Some (record { shape = aim.0; focus = aim.1; row = row; looks = looks }))
    block_found row next looks last g h = record {
      sound = record { shape = f.sound.0; focus = f.sound.1; row = g.sound; looks = h.sound };
      every = λ b rest r e. (
          let s = aimed b rest r e in
          let k = g.every b.row (flat_map shown_text b.looks ++ (codes "end\n" ++ rest)) r.row (after_row b.looks rest) s.1 in
          let l = h.every b.looks (codes "end\n" ++ rest) r.looks refl k.1 in
          λ i. Some (record { shape = (s.0 i).0; focus = (s.0 i).1; row = k.0 i; looks = l.0 i })
          );
    }

-- the block behind its number
pub numbered_split : (n : ℕ) (b : Block) (more : List ℕ) → numbered_block n b ++ more ≡ (codes "result " ++ decimal n ++ codes "\n") ++ (block_text b ++ more)
numbered_split n b more = regroup (codes "result ") (decimal n) (codes "\n") (block_text b) more
  where
    regroup : (a b c d e : List ℕ) → a ++ b ++ c ++ d ++ e ≡ a ++ b ++ c ++ (d ++ e)
    regroup a b c d e = simp append_assoc

pub other_number : (n : ℕ) (text : List ℕ) → HasNot (codes "result " ++ decimal n ++ codes "\n") text → IsNextBlock n text None
other_number n text h b behind r e = h (block_text b ++ behind) (e ∙ numbered_split n b behind)

module _ (n : ℕ) (text behind : List ℕ) (is : text ≡ (codes "result " ++ decimal n ++ codes "\n") ++ behind) where
  behind_number : (b : Block) (more : List ℕ) → text ≡ numbered_block n b ++ more → behind ≡ block_text b ++ more
  behind_number b more e = append_cancel_left (codes "result " ++ decimal n ++ codes "\n") behind (block_text b ++ more) (sym is ∙ e ∙ numbered_split n b more)

  pub next_missing : FindsBlock behind None → IsNextBlock n text None
  next_missing f b more r e = (let k : None ≡ Some b = f.every b more r (behind_number b more e) in cc)

  module _ (found : Block) (f : FindsBlock behind (Some found)) where
    same_block : (b : Block) (more : List ℕ) → IsReadableBlock b → text ≡ numbered_block n b ++ more → found ≡ b
    same_block b more r e = let k : Some found ≡ Some b = f.every b more r (behind_number b more e) in cc

    pub next_spelled_otherwise : HasNot (block_text found) behind → IsNextBlock n text None
    next_spelled_otherwise h b more r e = h more (behind_number b more e ∙ ap (λ (c : Block). block_text c ++ more) (sym (same_block b more r e)))

    pub next_found : (rest : Bor (List ℕ)) → behind ≡ block_text found ++ rest.now → IsNextBlock n text (Some (found, rest))
    next_found rest e = (f.sound, is ∙ ap (λ (l : List ℕ). (codes "result " ++ decimal n ++ codes "\n") ++ l) e ∙ sym (numbered_split n found rest.now), same_block)
