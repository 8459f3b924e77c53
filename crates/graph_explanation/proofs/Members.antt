-- What explains a validation is the same for graphs with the same members; and where it is empty.
use Rattle.std.proofs.Common.{◌≡◌, ℕ, List, [], ◌∷◌, refl, sym, subst, arith}
use Rattle.std.specs.Prelude.{◌↔◌, false}
use Rattle.std.specs.List.{Contains}
use Rattle.collections.proofs.Members.{has_head}
use Rattle.rdf_model.specs.declared.look.Look.{Look}
use Rattle.rdf_model.specs.declared.term.Term.{Term}
use Rattle.rdf_model.specs.declared.triple.Triple.{Triple}
use Rattle.shape_model.specs.declared.result_row.ResultRow.{ResultRow}
use Rattle.shape_model.specs.Looks.{LookRow}
use Rattle.shape_model.specs.NodeLooks.{IsLook}
use Rattle.shape_model.specs.Paths.{Path}
use Rattle.shape_model.specs.Validation.{Listing, NoResult}
use Rattle.shape_model.specs.Walks.{Walks}
use Rattle.shape_model.proofs.Covers.{cover_law}
use Rattle.shape_model.proofs.Walks.{walk_same}
use Rattle.parallel_validate.proofs.Members.{same_listing}
use Rattle.evidence_blocks.specs.declared.block.Block.{Block}
use Rattle.evidence_blocks.specs.declared.block.ShownLook.{ShownLook}
use Rattle.evidence_blocks.specs.Blocks.{Gives, HasTriples, IsEvidence, IsLeastAim}
use Rattle.evidence_blocks.specs.BlockText.{numbered_blocks}
use Rattle.graph_explanation.specs.Explanations.{IsExplanation, rows_of}

-- graphs with the same members
abbrev AreSame : List Triple → List Triple → Type 0
AreSame g h = (t : Triple) → Contains g t ↔ Contains h t

turned : (g h : List Triple) → AreSame g h → AreSame h g
turned g h same t = ((same t).1, (same t).0)

to_walks : (g h : List Triple) → AreSame g h → (ps : List Path) (x y : Term) → Walks g ps x y → Walks h ps x y
to_walks g h same [] x y w = w
to_walks g h same (p ∷ ps) x y w = (w.0, (walk_same g h x p false [] x refl (λ row i z v t m. same t) w.0).0 w.1, to_walks g h same ps w.0 y w.2)

to_look : (g h : List Triple) → AreSame g h → (rows : LookRow → Type 0) (f : Term) (look : Look Term) → IsLook g rows f look → IsLook h rows f look
to_look g h same rows f look l = (l.0, l.1, (l.2.0, to_walks g h same l.0.way f l.2.0 l.2.1, l.2.2))

to_gives : (g h : List Triple) → AreSame g h → (s : List Triple) (r : ResultRow) (shape f : Term) → Gives g s r shape f → Gives h s r shape f
to_gives g h same s r shape f i = let law = cover_law g h s shape f (λ row k z w t m. same t) in (law.0.0 i.0, (law.1 r).0 i.1)

to_aim : (g h : List Triple) → AreSame g h → (s : List Triple) (r : ResultRow) (shape f : Term) → IsLeastAim g s r shape f → IsLeastAim h s r shape f
to_aim g h same s r shape f a = record {
  gives = to_gives g h same s r shape f a.gives;
  least = λ other k gives. a.least other k (to_gives h g (turned g h same) s r other k gives);
}

to_triples : (g h : List Triple) → AreSame g h → (x : ShownLook) → HasTriples g x → HasTriples h x
to_triples g h same x l = record {
  ascending = l.ascending;
  members = λ t. (λ c. let k = (l.members t).0 c in ((same t).0 k.0, k.1), λ k. (l.members t).1 ((same t).1 k.0, k.1));
}

to_evidence : (g h : List Triple) → AreSame g h → (s : List Triple) (b : Block) → IsEvidence g s b → IsEvidence h s b
to_evidence g h same s b e = record {
  aim = to_aim g h same s b.row b.shape b.focus e.aim;
  looks = record {
    ascending = e.looks.ascending;
    members = λ look. (λ c. to_look g h same _ b.focus look ((e.looks.members look).0 c), λ l. (e.looks.members look).1 (to_look h g (turned g h same) _ b.focus look l));
  };
  triples = λ k d lt. to_triples g h same _ (e.triples k d lt);
}

pub same_explanation : (g h s : List Triple) → ((t : Triple) → Contains g t ↔ Contains h t) → (text : List ℕ) → IsExplanation g s text → IsExplanation h s text
same_explanation g h s same text e = (
  e.0,
  record { listing = same_listing g h s same (rows_of e.0) e.1.listing; each = λ k d lt. to_evidence g h same s _ (e.1.each k d lt) },
  e.2,
)

-- there is a block where there is a result
none_written : (g s : List Triple) (n : ℕ) (bs : List Block) → Listing g s (rows_of bs) → (numbered_blocks n bs ≡ []) ↔ NoResult g s
none_written g s n [] l = (λ e r i. let c = (l.members r).1 i in absurd (omega (arith, c.1)), λ none. refl)
none_written g s n (b ∷ bs) l = (λ e. cc, λ none. absurd (none b.row ((l.members b.row).0 (has_head b.row (rows_of bs)))))

pub empty_where_none : (g s : List Triple) (text : List ℕ) → IsExplanation g s text → (text ≡ []) ↔ NoResult g s
empty_where_none g s text e = subst (λ (t : List ℕ). (t ≡ []) ↔ NoResult g s) (sym e.2) (none_written g s 1 e.0 e.1.listing)
