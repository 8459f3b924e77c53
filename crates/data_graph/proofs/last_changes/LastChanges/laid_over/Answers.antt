use Rattle.std.proofs.Common.{◌≡◌, ◌∙◌, ℕ, List, ◌++◌, ap, sym, rules}
use Rattle.std.specs.Prelude.{Ok, filter}
use Rattle.std.proofs.lemmas.Fn.{filter_same}
use Rattle.std.proofs.lemmas.List.{map-id}
use Rattle.std.proofs.lemmas.Iterator.Adapters.{fact_from_extend}
use Rattle.std.proofs.lemmas.Iterator.Consumers.{YieldsList-from_rest}
use Rattle.rdf_model.specs.declared.triple.Triple.{Triple}
use Rattle.data_graph.proofs.Laid.{is_kept, laid_has}
use Rattle.data_graph.proofs.last_changes.LastChanges.laid_over.Goals as goal

pub returns : goal.returns
returns c =
    let ts = c.args.triples.items in
    let added = c.args.self.added.keys in
    let removed = c.args.self.removed.keys in
    let left = c.retain.new.self.items in
    let laid = c.extend.new.self.items in
    let kept : left ≡ filter (is_kept removed) ts = filter_same _ (is_kept removed) _ (λ x b f' k. search rules) _ _ c.retain.ensures.filtered in
    let more : laid ≡ left ++ added = fact_from_extend {E = ℕ} (λ x. x) (Ok tt) c.in_ok-extend.ensures.ran (λ it b. YieldsList-from_rest added (search rules)) (λ xs e h. h.0 ∙ ap (λ (l : List Triple). left ++ l) (sym (map-id xs) ∙ e)) in
    laid_has ts added removed laid (more ∙ ap (λ (l : List Triple). l ++ added) kept)
