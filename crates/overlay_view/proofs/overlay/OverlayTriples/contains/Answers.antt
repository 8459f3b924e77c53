use Rattle.std.proofs.Common.{◌∙◌, sym, refl}
use Rattle.overlay_view.proofs.Lasting.{laid_added, laid_base, base_laid}
use Rattle.overlay_view.proofs.overlay.OverlayTriples.contains.Goals as goal

pub returns-then-contains : goal.returns-then-contains
returns-then-contains g c = (λ e. laid_added (g.R.Triples.triples c.args.self.now.base.now) c.args.self.now.added c.args.self.now.removed c.args.triple (c.contains.ensures.0 c.if-contains.true), λ d. refl)

pub returns-then-contains-2 : goal.returns-then-contains-2
returns-then-contains-2 g c = (
  λ e. laid_base (g.R.Triples.triples c.args.self.now.base.now) c.args.self.now.added c.args.self.now.removed c.args.triple (c.contains-2.ensures.0 c.if-contains-2.true) (sym c.stays.ensures ∙ e),
  λ d. c.stays.ensures ∙ (base_laid (g.R.Triples.triples c.args.self.now.base.now) c.args.self.now.added c.args.self.now.removed c.args.triple (λ a. let p = c.contains.ensures.1 a in let q = c.if-contains.false in cc (p, q)) d).1,
)

pub returns-else-contains-2 : goal.returns-else-contains-2
returns-else-contains-2 g c = (
  λ e. let q = c.if-contains-2.false in absurd (cc (e, q)),
  λ d. c.contains-2.ensures.1 (base_laid (g.R.Triples.triples c.args.self.now.base.now) c.args.self.now.added c.args.self.now.removed c.args.triple (λ a. let p = c.contains.ensures.1 a in let q = c.if-contains.false in cc (p, q)) d).0,
)
