use Rattle.std.proofs.Common.{◌∙◌, ℕ, List, ap}
use Rattle.std.specs.Prelude.{filter}
use Rattle.rdf_model.specs.Numbers.{IsFound}
use Rattle.overlay_view.specs.Overlays.{is_left, overlaid, triple_found}
use Rattle.triple_index.proofs.Listings.{listing_as}
use Rattle.overlay_view.proofs.Lasting.{found_laid}
use Rattle.overlay_view.proofs.overlay.OverlayTriples.find.Goals as goal

pub returns : goal.returns
returns g c = listing_as (IsFound c.args.look.now (overlaid (g.R.Triples.triples c.args.self.now.base.now) c.args.self.now.added c.args.self.now.removed))
    (found_laid c.args.look.now c.requires (g.R.Triples.triples c.args.self.now.base.now) c.args.self.now.added c.args.self.now.removed c.in_ok-beneath.beneath.items c.in_ok-found.found.items c.add_found.new.found.items c.in_ok-beneath.ensures
    (c.in_ok-found.ensures ∙ ap (λ (ns : List ℕ). filter (λ n. is_left c.args.self.now.removed (triple_found c.args.look.now n)) ns) c.deref.ensures.value) c.in_ok-add_found.ensures.found) c.in_ok-sorted_once.ensures
