use Rattle.std.proofs.Common.{◌∙◌, ◌++◌, ℕ, List, ap}
use Rattle.std.specs.Prelude.{filter}
use Rattle.rdf_model.specs.Numbers.{IsEdge}
use Rattle.overlay_view.specs.Overlays.{is_left, overlaid, triple_of}
use Rattle.triple_index.proofs.Listings.{listing_as}
use Rattle.overlay_view.proofs.Lasting.{pairs_laid}
use Rattle.overlay_view.proofs.overlay.OverlayTriples.edges.Goals as goal

pub returns : goal.returns
returns g c = listing_as (IsEdge (overlaid (g.R.Triples.triples c.args.self.now.base.now) c.args.self.now.added c.args.self.now.removed) c.args.subject)
    (pairs_laid (λ (e : ℕ × ℕ). triple_of c.args.subject e.0 e.1) (g.R.Triples.triples c.args.self.now.base.now) c.args.self.now.added c.args.self.now.removed c.in_ok-beneath.beneath.items c.in_ok-more.more.items c.in_ok-edges.edges.items c.add_pairs.new.into.items c.in_ok-beneath.ensures c.in_ok-more.ensures
    (c.in_ok-edges.ensures ∙ ap (λ (es : List (ℕ × ℕ)). filter (λ (e : ℕ × ℕ). is_left c.args.self.now.removed ((λ (e : ℕ × ℕ). triple_of c.args.subject e.0 e.1) e)) es) c.deref.ensures.value)
    (c.in_ok-add_pairs.ensures ∙ ap (λ (es : List (ℕ × ℕ)). c.in_ok-edges.edges.items ++ es) c.deref-2.ensures.value)) c.in_ok-sorted_once.ensures
