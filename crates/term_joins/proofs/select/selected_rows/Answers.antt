use Rattle.std.proofs.Common.{ℕ, Global, List, Vec, map, subst, sym, ◌≡◌}
use Rattle.std.proofs.lemmas.Result.{err_from_is_err_and}
use Rattle.rdf_model.specs.Numbers.{term_at}
use Rattle.term_joins.specs.Numbered.{AreRowsBelow}
use Rattle.term_joins.proofs.Naming.{row_below}
use Rattle.term_joins.proofs.Selecting.{selected, stopped}
use Rattle.term_joins.proofs.select.selected_rows.Goals as goal

pub returns-in_err-rows-clause-fault : goal.returns-in_err-rows-clause-fault
returns-in_err-rows-clause-fault g c =
    let k = err_from_is_err_and c.from_residual.result c.from_residual.ensures.1 in
    stopped (g.N.Names.terms c.args.names.now) (g.R.Triples.triples c.args.set.now) c.requires.numbering c.requires.numbered c.args.numbered.now
    c.from_residual.result k.0 c.in_err-rows.field-0.0 k.1 k.2 c.in_err-rows.ensures.many

pub read_rows-requires : goal.read_rows-requires
read_rows-requires g c =
    let terms = g.N.Names.terms c.args.names.now in
    subst (λ (rs : List (Vec ℕ Global)). AreRowsBelow terms (map (λ (v : Vec ℕ Global). v.items) rs)) (sym c.deref.ensures.value)
    (λ xs i. row_below terms (g.R.Triples.triples c.args.set.now) c.requires.numbered c.args.numbered.now xs ((c.in_ok-rows.ensures.bindings.listing.members xs).0 i))

pub returns-clause-rows : goal.returns-clause-rows
returns-clause-rows g c =
    let terms = g.N.Names.terms c.args.names.now in
    let items = λ (v : Vec ℕ Global). v.items in
    λ ps at. selected terms (g.R.Triples.triples c.args.set.now) c.requires.numbered ps c.requires.numbering c.args.numbered.now at
    (map items c.in_ok-rows.rows.items) c.in_ok-named.named.items c.in_ok-sorted_once.field-0.items c.in_ok-rows.ensures.bindings
    (subst (λ (rs : List (Vec ℕ Global)). c.in_ok-named.named.items ≡ map (map (term_at terms)) (map items rs)) c.deref.ensures.value c.in_ok-named.ensures) c.in_ok-sorted_once.ensures
