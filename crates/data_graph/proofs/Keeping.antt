-- The results that are kept of a graph stay so by other numbers of its triples, and where more terms are named.
use Rattle.std.proofs.Common.{◌≡◌, true, false, cond, List, [], ◌∷◌, ◌++◌, length-append, sym, subst, arith, inl, inr}
use Rattle.std.specs.List.{Contains}
use Rattle.std.proofs.Math.ListN.{get_or-append}
use Rattle.collections.specs.Ordered.{has_item}
use Rattle.collections.proofs.Members.{has_head, has_tail}
use Rattle.rdf_model.specs.declared.change.Change.{Change}
use Rattle.rdf_model.specs.declared.term.Term.{Term}
use Rattle.rdf_model.specs.declared.term.Term.TheVariants.{Blank}
use Rattle.rdf_model.specs.declared.triple.Triple.{Triple}
use Rattle.rdf_model.specs.Terms.{term_cmp}
use Rattle.shape_model.specs.Readings.{reading}
use Rattle.shape_model.specs.ShapeSyntax.{IsShape}
use Rattle.shape_model.specs.Targets.{HasTarget}
use Rattle.shape_model.specs.Triples.{Has}
use Rattle.shape_model.proofs.Bridges.{makes_shape}
use Rattle.shape_model.proofs.Covers.{has_target}
use Rattle.term_dict.specs.Names.{with_terms}
use Rattle.change_laws.specs.Checks.{SameMembers}
use Rattle.change_laws.specs.Pairs.{PairedRow}
use Rattle.change_laws.proofs.SameGraphs.{members_law}
use Rattle.kept_rows.specs.declared.kept_row.KeptRow.{KeptRow}
use Rattle.kept_rows.specs.Laws.{AreBoundRows, ChecksPairs, KeepsResults, paired_row, paired_rows}

none_in : {X : Type 0} → (x : X) → Contains [] x → ⊥
none_in x c = absurd (omega (arith, c.1))

-- one term more at the end
same_rows : (terms : List Term) (u : Term) (kept : List KeptRow) → AreBoundRows terms kept → paired_rows (terms ++ u ∷ []) kept ≡ paired_rows terms kept
same_rows terms u [] bound = λ i. []
same_rows terms u (k ∷ ks) bound =
    let here = bound k (has_head k ks) in
    let shape = get_or-append terms (u ∷ []) (Blank 0 0) k.shape here.0 in
    let focus = get_or-append terms (u ∷ []) (Blank 0 0) k.focus here.1 in
    let one : paired_row (terms ++ u ∷ []) k ≡ paired_row terms k = λ i. record { shape = shape i; focus = focus i; row = k.row } in
    let more = same_rows terms u ks (λ q c. bound q (has_tail k ks q c)) in
    λ i. one i ∷ more i

one_more : (terms : List Term) (u : Term) (g s : List Triple) (kept : List KeptRow) → KeepsResults terms g s kept → KeepsResults (terms ++ u ∷ []) g s kept
one_more terms u g s kept k =
    let l = length-append terms (u ∷ []) in
    let same = same_rows terms u kept k.bound in
    record {
      bound = λ q c. let n = k.bound q c in (omega (arith, l, n.0), omega (arith, l, n.1));
      results = λ p. (
        λ c. (k.results p).0 (subst (λ (ps : List PairedRow). Contains ps p) same c),
        λ r. subst (λ (ps : List PairedRow). Contains ps p) (sym same) ((k.results p).1 r),
      );
    }

all_more : (terms ts : List Term) (g s : List Triple) (kept : List KeptRow) → KeepsResults terms g s kept → KeepsResults (with_terms terms ts) g s kept
all_more terms [] g s kept k = k
all_more terms (t ∷ ts) g s kept k = elim (has_item term_cmp t terms) as (λ b. KeepsResults (with_terms (cond b terms (terms ++ t ∷ [])) ts) g s kept) [
  | true ↦ all_more terms ts g s kept k
  | false ↦ all_more (terms ++ t ∷ []) ts g s kept (one_more terms t g s kept k)
]

pub kept_more : (terms more ts : List Term) (g s : List Triple) (kept : List KeptRow) → more ≡ with_terms terms ts → KeepsResults terms g s kept → KeepsResults more g s kept
kept_more terms more ts g s kept e k = subst (λ (us : List Term). KeepsResults us g s kept) (sym e) (all_more terms ts g s kept k)

-- the order of a graph's triples is no matter
pub same_kept : (terms : List Term) (g h s : List Triple) (kept : List KeptRow) → SameMembers g h → KeepsResults terms g s kept → KeepsResults terms h s kept
same_kept terms g h s kept same k = record {
  bound = k.bound;
  results = λ p.
      let law = members_law g h s same p.shape p.focus in (
        λ c. let r = (k.results p).0 c in (law.0.0 r.0, (law.1 p.row).0 r.1),
        λ r. (k.results p).1 (law.0.1 r.0, (law.1 p.row).1 r.1),
      );
}

-- without shapes there is none
pub none_kept : (terms : List Term) (g s : List Triple) → ((shape : Term) → IsShape s shape → ⊥) → KeepsResults terms g s []
none_kept terms g s none = record {
  bound = λ k c. absurd (none_in k c);
  results = λ p. (
    λ c. absurd (none_in p c),
    λ r. absurd (none p.shape (makes_shape s p.shape (has_target g s p.shape p.focus r.0))),
  );
}

-- nor is a pair touched
pub none_checked : (terms : List Term) (g s : List Triple) (net : List Change) → ((shape : Term) → IsShape s shape → ⊥) → ChecksPairs terms g s net []
none_checked terms g s net none =
    let never : (shape : Term) → HasTarget (reading s shape) → ⊥ = λ shape t. none shape (makes_shape s shape t) in
    record {
      bound = λ p c. absurd (none_in p c);
      checked = record {
        pairs = λ shape f. (λ h. absurd (none_in h.0 h.1), λ t. absurd (never shape t.0));
        rows = λ c i. absurd (none_in c i);
      };
    }

-- without a triple there is no shape
nowhere : (x p y : Term) → Has [] x p y → ⊥
nowhere x p y c = absurd (omega arith)

pub no_shape : (n : Term) → IsShape [] n → ⊥
no_shape n = elim [
  | inl i ↦ nowhere _ _ _ i.1
  | inr (inl i) ↦ nowhere _ _ _ i.1
  | inr (inr (inl i)) ↦ nowhere _ _ _ i.3
  | inr (inr (inr (inl i))) ↦ nowhere _ _ _ i.3
  | inr (inr (inr (inr i))) ↦ nowhere _ _ _ i.5
]
