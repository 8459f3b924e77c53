use Rattle.std.proofs.Common.{◌≡◌, refl, subst, arith, inl, inr}
use Rattle.std.specs.List.{Contains}
use Rattle.rdf_model.specs.declared.triple.Triple.{Triple}
use Rattle.shape_syntax.proofs.Scans.{cases_more, in_all, read_in}
use Rattle.plain_terms.proofs.ways.says_all.Goals as goal

pub returns-then-not-says_no_more : goal.returns-then-not-says_no_more
returns-then-not-says_no_more c = (
  λ h. cc,
  λ all.
      let t = c.triple-item.result in
      let k = c.says_no_more.ensures.1 (λ e. all t.predicate t.object (subst (λ (u : Triple). Contains c.args.graph.now u) (λ i. record { subject = e i; predicate = t.predicate; object = t.object }) (read_in c.args.graph.now c.loop-triple.triple-index t (omega arith) c.triple-item.is))) in
      cc (k, c.if-not-says_no_more.true),
)

pub loop-triple-preserved : goal.loop-triple-preserved
loop-triple-preserved c = λ t h. elim (cases_more c.args.graph.now c.loop-triple.triple-index c.triple-item.result (omega arith) c.triple-item.is t h) [
  | inl d ↦ c.loop-triple.invariant t d
  | inr f ↦ subst (λ (u : Triple). u.subject ≡ c.args.first.now.subject → (u.predicate ≡ c.args.first.now.predicate) × (u.object ≡ c.args.first.now.object)) f (c.says_no_more.ensures.0 (let k = c.if-not-says_no_more.false in cc))
]

pub returns : goal.returns
returns c = (
  λ h p v has. c.loop-triple.invariant (record { subject = c.args.first.now.subject; predicate = p; object = v }) (in_all c.args.graph.now c.loop-triple.triple-index (omega arith) (record { subject = c.args.first.now.subject; predicate = p; object = v }) has) refl,
  λ all. refl,
)
