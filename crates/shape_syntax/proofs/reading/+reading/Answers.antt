use Rattle.std.proofs.Common.{◌≡◌, ◌+◌, ◌-◌, ◌*◌, ◌<◌, ℕ, List, map, sym, subst, arith}
use borrow.Author.Tests.{eqb-true}
use Rattle.std.specs.Vec.{vec_len}
use Rattle.std.specs.Prelude.{MatchOption}
use Rattle.std.proofs.lemmas.Result.{IfOk-weaker}
use Rattle.std.specs.List.{Contains}
use Rattle.rdf_model.specs.declared.term.Term.{Term}
use Rattle.shape_syntax.proofs.Scans.{contains_member}
use Rattle.shape_model.specs.Paths as defined
use Rattle.path_ast.specs.PathReadings.{defined_path, members}
use Rattle.shape_syntax.specs.PathDepth.{IsRead, IsDeep}
use Rattle.shape_syntax.specs.PathWays.{modified, joined, AreDeep, AreReadPaths}
use Rattle.shape_syntax.specs.declared.way.Join.TheVariants as joins
use Rattle.shape_syntax.proofs.PathWays.{blank_path, deep_at_none, listed_inner, offered_inner, modified_inner, path_nodes_of, list_deep, list_read}
use Rattle.shape_syntax.proofs.PathParts.{sequence_found, alternative_found, modified_found, each_more, found_nodes, some_read, first_read}
use Rattle.shape_syntax.proofs.reading.+reading.Goals as goal

pub read_at-returns-then-levels-eq0 : goal.read_at-returns-then-levels-eq0
read_at-returns-then-levels-eq0 t c = deep_at_none c.args.graph.now c.args.node.now c.args.levels (omega (arith, c.if-levels-eq0.true)) (λ i. let k = c.is_iri.ensures.1 i in cc) c.requires.path

pub read_at-read_below-requires : goal.read_at-read_below-requires
read_at-read_below-requires t c =
    let less : 5 * (c.args.levels - 1) + 4 < 5 * c.args.levels = omega (arith, c.if-levels-eq0.false) in
    (subst (λ (n : ℕ). 5 * (c.args.levels - 1) + 4 < n) c.decreases less, (c.requires.graph, (blank_path c.args.graph.now c.args.node.now (λ i. let k = c.is_iri.ensures.1 i in cc) c.requires.path, c.requires.path)))

pub read_below-read_list-requires : goal.read_below-read_list-requires
read_below-read_list-requires t c =
    let less : 5 * c.args.levels + 2 < 5 * c.args.levels + 4 = omega arith in
    (subst (λ (n : ℕ). 5 * c.args.levels + 2 < n) c.decreases less, (c.requires.graph, listed_inner c.args.graph.now c.args.node.now c.requires.blank c.in_default.ensures c.requires.path))

pub read_below-read_list-requires-in_default-modifier_of : goal.read_below-read_list-requires-in_default-modifier_of
read_below-read_list-requires-in_default-modifier_of t c =
    let less : 5 * c.args.levels + 2 < 5 * c.args.levels + 4 = omega arith in
    (subst (λ (n : ℕ). 5 * c.args.levels + 2 < n) c.decreases less, (c.requires.graph, offered_inner c.args.graph.now c.args.node.now c.in-Some.triple.now.predicate c.in-Some.triple.now.object c.in-Some.ensures c.requires.blank c.in_default-modifier_of.ensures c.requires.path))

pub read_below-returns-in_default : goal.read_below-returns-in_default
read_below-returns-in_default t c =
    let s = c.args.graph.now in
    let n = c.args.node.now in
    IfOk-weaker c.read_list.result (λ found. MatchOption found (AreDeep s n c.args.levels) (λ path. (ps : defined.Paths) × AreReadPaths s n c.args.levels ps × (defined_path path ≡ joined joins.Sequence ps)))
    (λ found. MatchOption found (IsDeep s n (c.args.levels + 1)) (λ path. IsRead s n (c.args.levels + 1) (defined_path path)))
    (λ found h. sequence_found s n c.args.levels c.requires.blank found h)
    c.read_list.ensures

pub read_below-returns-in_default-modifier_of : goal.read_below-returns-in_default-modifier_of
read_below-returns-in_default-modifier_of t c =
    let s = c.args.graph.now in
    let n = c.args.node.now in
    let p = c.in-Some.triple.now.predicate in
    let m = c.in-Some.triple.now.object in
    IfOk-weaker c.read_list-in_default-modifier_of.result (λ found. MatchOption found (AreDeep s m c.args.levels) (λ path. (ps : defined.Paths) × AreReadPaths s m c.args.levels ps × (defined_path path ≡ joined joins.Alternative ps)))
    (λ found. MatchOption found (IsDeep s n (c.args.levels + 1)) (λ path. IsRead s n (c.args.levels + 1) (defined_path path)))
    (λ found h. alternative_found s n p m c.in-Some.ensures c.requires.blank c.args.levels c.in_default-modifier_of.ensures c.requires.path found h)
    c.read_list-in_default-modifier_of.ensures

pub read_below-read_modified-requires : goal.read_below-read_modified-requires
read_below-read_modified-requires t c =
    let less : 5 * c.args.levels + 3 < 5 * c.args.levels + 4 = omega arith in
    (subst (λ (n : ℕ). 5 * c.args.levels + 3 < n) c.decreases less, (c.requires.graph, modified_inner c.args.graph.now c.args.node.now c.in-Some.triple.now.predicate c.in-Some.triple.now.object c.in-Some.ensures c.requires.blank c.in-Some-modifier_of.modifier c.in-Some-modifier_of.ensures c.requires.path))

pub read_below-returns : goal.read_below-returns
read_below-returns t c =
    let s = c.args.graph.now in
    let n = c.args.node.now in
    let p = c.in-Some.triple.now.predicate in
    let m = c.in-Some.triple.now.object in
    let modifier = c.in-Some-modifier_of.modifier in
    IfOk-weaker c.read_modified.result (λ found. MatchOption found (IsDeep s m c.args.levels) (λ path. (q : defined.Path) × IsRead s m c.args.levels q × (defined_path path ≡ modified modifier q)))
    (λ found. MatchOption found (IsDeep s n (c.args.levels + 1)) (λ path. IsRead s n (c.args.levels + 1) (defined_path path)))
    (λ found h. modified_found s n p m c.in-Some.ensures c.requires.blank c.args.levels modifier c.in-Some-modifier_of.ensures found h)
    c.read_modified.ensures

pub read_modified-returns-in_ok-modified_path-in-Some : goal.read_modified-returns-in_ok-modified_path-in-Some
read_modified-returns-in_ok-modified_path-in-Some t c = (defined_path c.in-Some.path, rw c.in-Some.is at c.in_ok-path.ensures, c.in_ok-modified_path-in-Some.ensures)

pub read_each-loop-node-preserved : goal.read_each-loop-node-preserved
read_each-loop-node-preserved t c =
    rw c.in_ok-push.ensures.items (each_more c.args.graph.now c.args.nodes.now c.loop-node.node-index c.node-item.result c.args.levels c.loop-node.paths.items c.in-Some.path (omega (arith, c.loop-node-test.true)) c.node-item.is c.loop-node.invariant (rw c.in-Some.is at c.in_ok-path.ensures))

pub read_list-returns-in_default : goal.read_list-returns-in_default
read_list-returns-in_default t c =
    let list = path_nodes_of c.args.graph.now c.args.head.now c.requires.list in
    let never = rw c.in_default.is at c.in_ok-nodes.ensures in
    absurd (never list.0 list.1)

pub read_list-read_each-requires : goal.read_list-read_each-requires
read_list-read_each-requires t c =
    let less : 5 * c.args.levels + 1 < 5 * c.args.levels + 2 = omega arith in
    let found = found_nodes c.args.graph.now c.args.head.now c.in-Some.nodes c.requires.list (rw c.in-Some.is at c.in_ok-nodes.ensures) in
    (subst (λ (n : ℕ). 5 * c.args.levels + 1 < n) c.decreases less, (c.requires.graph, λ n there. found.0 n (contains_member c.in-Some.nodes n (subst (λ (xs : List Term). Contains xs n) c.as_slice.ensures there))))

pub read_list-returns-in_default-2 : goal.read_list-returns-in_default-2
read_list-returns-in_default-2 t c =
    let list = rw c.in-Some.is at c.in_ok-nodes.ensures in
    let found = found_nodes c.args.graph.now c.args.head.now c.in-Some.nodes c.requires.list list in
    let deep = rw c.as_slice.ensures at (rw c.in_default-2.is at c.in_ok-paths.ensures) in
    list_deep c.args.graph.now c.args.head.now c.in-Some.nodes c.args.levels found.1 list found.0 deep.0 (contains_member c.in-Some.nodes deep.0 deep.1) deep.2

pub read_list-returns-then-is_empty : goal.read_list-returns-then-is_empty
read_list-returns-then-is_empty t c =
    let found = found_nodes c.args.graph.now c.args.head.now c.in-Some.nodes c.requires.list (rw c.in-Some.is at c.in_ok-nodes.ensures) in
    let read = rw c.as_slice.ensures at (rw c.in-Some-2.is at c.in_ok-paths.ensures) in
    let none : vec_len c.in-Some-2.paths ≡ 0 = eqb-true (vec_len c.in-Some-2.paths) 0 (sym c.if-is_empty.ensures) in
    absurd (some_read c.args.graph.now c.in-Some.nodes c.args.levels c.in-Some-2.paths.items found.1 read (omega (arith, none)))

pub read_list-returns : goal.read_list-returns
read_list-returns t c =
    let list = rw c.in-Some.is at c.in_ok-nodes.ensures in
    let found = found_nodes c.args.graph.now c.args.head.now c.in-Some.nodes c.requires.list list in
    let read = rw c.as_slice.ensures at (rw c.in-Some-2.is at c.in_ok-paths.ensures) in
    let first = defined_path c.remove-first.result in
    let others = map defined_path c.remove-first.new.self.items in
    let a = first_read c.args.graph.now c.in-Some.nodes c.args.levels c.in-Some-2.paths.items c.remove-first.result c.remove-first.new.self.items found.1 read c.remove-first.ensures.value c.remove-first.ensures.items in
    (members first others, list_read c.args.graph.now c.args.head.now c.in-Some.nodes c.args.levels first others found.1 list a, c.in_ok-joined_path.ensures)
