use Rattle.std.proofs.Common.{◌≡◌, ℕ, IfOk, OnOk, Option, Some, None, false, sym, subst}
use Rattle.std.proofs.lemmas.Result.{IfOk-weaker}
use Rattle.std.specs.Ordering.{nat_cmp}
use Rattle.collections.specs.Listings.{IsListing}
use Rattle.path_ast.specs.declared.path.Path.{Path}
use Rattle.path_eval.specs.Naming.{AddsLooks, AreValues, Numbered}
use Rattle.shape_eval.specs.ValueNodes.{AreValueNodes, AtNumbers}
use Rattle.rdf_model.specs.Numbers.{graph_of, term_at}
use Rattle.path_eval.proofs.Footprints.{looks_none}
use Rattle.shape_ast.specs.Readings.{read_optional_path}
use Rattle.shape_eval.specs.Looks.{OptionalReads}
use Rattle.shape_eval.proofs.Looking.{always}
use Rattle.shape_eval.proofs.Values.{alone_is, walked_are}
use Rattle.shape_eval.proofs.value_nodes.value_nodes.Goals as goal

pub returns-in-None-clause-values : goal.returns-in-None-clause-values
returns-in-None-clause-values g c =
    let ids = g.R.Triples.triples c.args.graph.now in
    let f = c.args.focus in
    subst (λ (p : Option (Path ℕ)). IfOk c.alone.result (λ values. AtNumbers ids p f (λ terms. AreValueNodes terms ids p f values.items))) (sym c.in-None.is)
    (IfOk-weaker c.alone.result (λ values. IsListing nat_cmp (λ n. f ≡ n) values.items) (λ values. AtNumbers ids None f (λ terms. AreValueNodes terms ids None f values.items))
    (λ values listing terms numbering numbered bound lt. alone_is terms ids f values.items lt listing) c.alone.ensures)

pub returns-in-Some-clause-values : goal.returns-in-Some-clause-values
returns-in-Some-clause-values g c =
    let ids = g.R.Triples.triples c.args.graph.now in
    let f = c.args.focus in
    let path = c.in-Some.path in
    subst (λ (p : Option (Path ℕ)). IfOk c.values.result (λ values. AtNumbers ids p f (λ terms. AreValueNodes terms ids p f values.items))) (sym c.in-Some.is)
    (IfOk-weaker c.values.result (λ values. Numbered ids path f (λ terms. AreValues terms ids false path f values.items)) (λ values. AtNumbers ids (Some path) f (λ terms. AreValueNodes terms ids (Some path) f values.items))
    (λ values h terms numbering numbered bound lt. walked_are terms ids path f values.items (h terms numbering numbered bound lt)) c.values.ensures.values)

pub returns-in-None-clause-looks : goal.returns-in-None-clause-looks
returns-in-None-clause-looks g c =
    let ids = g.R.Triples.triples c.args.graph.now in
    let old = c.args.footprint.now in
    subst (λ (p : Option (Path ℕ)). OnOk c.alone.result (AtNumbers ids p c.args.focus (λ terms. AddsLooks terms (OptionalReads (graph_of terms ids) (read_optional_path (term_at terms) p) (term_at terms c.args.focus)) old old))) (sym c.in-None.is)
    (always c.alone.result (λ values. AtNumbers ids None c.args.focus (λ terms. AddsLooks terms (OptionalReads (graph_of terms ids) None (term_at terms c.args.focus)) old old))
    (λ values terms numbering numbered bound lt. looks_none terms (OptionalReads (graph_of terms ids) None (term_at terms c.args.focus)) (λ look never. never) old))

pub returns-in-Some-clause-looks : goal.returns-in-Some-clause-looks
returns-in-Some-clause-looks g c =
    let ids = g.R.Triples.triples c.args.graph.now in
    subst (λ (p : Option (Path ℕ)). OnOk c.values.result (AtNumbers ids p c.args.focus (λ terms. AddsLooks terms (OptionalReads (graph_of terms ids) (read_optional_path (term_at terms) p) (term_at terms c.args.focus)) c.args.footprint.now c.values.new.footprint))) (sym c.in-Some.is) c.values.ensures.looks

pub returns-in-None-clause-kept : goal.returns-in-None-clause-kept
returns-in-None-clause-kept g c = λ look h. h

pub returns-in-Some-clause-kept : goal.returns-in-Some-clause-kept
returns-in-Some-clause-kept g c = c.values.ensures.kept
