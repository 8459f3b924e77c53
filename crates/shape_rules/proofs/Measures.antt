-- The rows of shapes by the rules past 39, as they are found.
use Rattle.std.proofs.Common.{◌≡◌, List, None, sym, subst, ap, inl, inr}
use Rattle.std.specs.Prelude.{◌⊎◌, ◌↔◌}
use Rattle.std.specs.List.{Contains}
use Rattle.rdf_model.specs.declared.term.Term.{Term}
use Rattle.rdf_model.specs.declared.triple.Triple.{Triple}
use Rattle.shape_syntax.specs.Gathering.{Gives}
use Rattle.shape_rules.specs.declared.rule_row.RuleRow.{RuleRow}
use Rattle.shape_sizes.specs.References.{HasLongChain}
use Rattle.shape_rules.specs.Rows.{row}
use Rattle.shape_rules.specs.Steps.{IsLimitRow, MeasureRow}
use Rattle.shape_properties.specs.Syntax.{IsShape}

-- the row names its node, which is a shape
node_of : (s : List Triple) (n : Term) (r : RuleRow) → MeasureRow s n r → r.node ≡ n
node_of s n r h = elim h [
  | inl p ↦ ap (λ (q : RuleRow). q.node) p.1
  | inr (inl z) ↦ ap (λ (q : RuleRow). q.node) z.1
  | inr (inr l) ↦ ap (λ (q : RuleRow). q.node) l.1
]

shape_of : (s : List Triple) (n : Term) (r : RuleRow) → MeasureRow s n r → IsShape s n
shape_of s n r h = elim h [ inl p ↦ p.0.0 | inr (inl z) ↦ z.0.0 | inr (inr l) ↦ l.0.0 ]

-- the rows of all shapes are those of all nodes
pub all_measured : (s : List Triple) (nodes : List Term) → ((n : Term) → Contains nodes n ↔ IsShape s n) → (r : RuleRow) → Gives (MeasureRow s) nodes r ↔ MeasureRow s r.node r
all_measured s nodes all r = (
  λ h. subst (λ (n : Term). MeasureRow s n r) (sym (node_of s h.0 r h.2)) h.2,
  λ h. (r.node, (all r.node).1 (shape_of s r.node r h), h),
)

-- a row by a rule past 39 is one of those or that of a chain
pub limit_row : (s : List Triple) (r : RuleRow) → (MeasureRow s r.node r ⊎ (HasLongChain s r.node × (r ≡ row r.node 41 None))) ↔ IsLimitRow s r
limit_row s r = (
  λ h. elim h [
    | inl (inl p) ↦ inl (inr p.0, p.1)
    | inl (inr k) ↦ inr k
    | inr c ↦ inl (inl c.0, c.1)
  ],
  λ h. elim h [
    | inl d ↦ elim d.0 [ inl c ↦ inr (c, d.1) | inr p ↦ inl (inl (p, d.1)) ]
    | inr k ↦ inl (inr k)
  ],
)
