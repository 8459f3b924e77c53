use Rattle.std.proofs.Common.{◌<◌, ℕ, IfOk, List, length, map, sym, subst}
use Rattle.std.specs.List.{Contains}
use Rattle.std.proofs.lemmas.List.Elements.{All-contains}
use Rattle.rdf_model.specs.Numbers.{term_at}
use Rattle.shape_model.specs.declared.component.Component.TheVariants as components
use Rattle.component_rows.specs.Listed.{ListsRows, at_nodes, with_list}
use Rattle.component_rows.specs.Nodes.{HasNode}
use Rattle.shape_ast.specs.declared.component.ListComponent.{ListComponent}
use Rattle.shape_ast.specs.Components.{list_component}
use Rattle.shape_eval.proofs.by_list.list_rows.Goals as goal

pub returns-in-LanguageIn : goal.returns-in-LanguageIn
returns-in-LanguageIn g c =
    let terms = c.args.site.now.terms in
    let t = at_nodes (HasNode terms c.args.site.now.values) in
    let f = term_at terms c.args.site.now.focus in
    let q = term_at terms c.args.site.now.parameter in
    subst (λ (k : ListComponent). IfOk c.language_in.result (λ rows. ListsRows (list_component k) t (with_list (map (term_at terms) c.args.members.now)) c.args.site.now.source f q rows.items)) (sym c.in-LanguageIn.is)
    (subst (λ (ns : List ℕ). IfOk c.language_in.result (λ rows. ListsRows components.LanguageIn t (with_list (map (term_at terms) ns)) c.args.site.now.source f q rows.items)) c.as_slice.ensures c.language_in.ensures)

pub language_in-requires : goal.language_in-requires
language_in-requires g c =
    let terms = c.args.site.now.terms in
    subst (λ (ns : List ℕ). (n : ℕ) → Contains ns n → n < length terms) (sym c.as_slice.ensures) (λ n i. All-contains (λ n. n < length terms) c.args.members.now n c.requires i)

pub returns-in-In : goal.returns-in-In
returns-in-In g c =
    let terms = c.args.site.now.terms in
    subst (λ (k : ListComponent). IfOk c.in_rows.result (λ rows. ListsRows (list_component k) (at_nodes (HasNode terms c.args.site.now.values)) (with_list (map (term_at terms) c.args.members.now))
    c.args.site.now.source (term_at terms c.args.site.now.focus) (term_at terms c.args.site.now.parameter) rows.items)) (sym c.in-In.is) c.in_rows.ensures
