use Rattle.std.proofs.Common.{◌≡◌, ◌+◌, ◌++◌, ◌∷◌, [], List, take, subst, arith}
use Rattle.std.specs.Prelude.{MatchOption, codes}
use Rattle.std.proofs.lemmas.Result.{IfOk-weaker}
use Rattle.rdf_model.specs.declared.term.Term.{Term}
use Rattle.shape_model.specs.Paths.{Path, Paths}
use Rattle.shape_model.specs.Vocabulary.{sh}
use Rattle.shape_syntax.specs.PathDepth.{IsRead}
use Rattle.shape_syntax.specs.PathWays.{AreReadPaths}
use Rattle.plain_terms.specs.declared.ways.Join.TheVariants as ways
use Rattle.plain_terms.specs.Ways.{AreRelationsAt, AreUnread, IsOf, IsRelationAt, IsUnread, joined, modified}
use Rattle.plain_terms.proofs.Found.{flat_unread, literal_unread, offered_found, predicate_found, sequence_found, modified_found}
use Rattle.plain_terms.proofs.Made.{taken_more}
use Rattle.plain_terms.proofs.PathMembers.{joined_is, member_unread, no_list_unread, relations_push, short_unread}
use Rattle.plain_terms.proofs.Modifiers.{modified_is}
use Rattle.plain_terms.proofs.reading.+relations.Goals.{relation_at-then-levels-eq0-via-then-levels-eq0, relation_at-then-levels-eq0-via-else-levels-eq0+then-not-is_blank}
use Rattle.plain_terms.proofs.reading.+relations.Goals as goal

pub relation_at-returns-then-is_iri : goal.relation_at-returns-then-is_iri
relation_at-returns-then-is_iri t c = predicate_found c.args.graph.now c.args.shapes.now c.args.node.now (c.is_iri.ensures.0 c.if-is_iri.true) c.args.levels c.in_ok-of_predicate.field-0 c.in_ok-of_predicate.ensures

pub relation_at-returns-then-levels-eq0 : goal.relation_at-returns-then-levels-eq0
relation_at-returns-then-levels-eq0 t c =
    let s = c.args.shapes.now in
    let n = c.args.node.now in
    elim c.then-levels-eq0.branch [
      | relation_at-then-levels-eq0-via-then-levels-eq0 w ↦ flat_unread s n c.args.levels (λ i. let k = c.is_iri.ensures.1 i in cc (k, c.if-is_iri.false)) w.if-levels-eq0.true
      | relation_at-then-levels-eq0-via-else-levels-eq0+then-not-is_blank w ↦ literal_unread s n c.args.levels (λ i. let k = c.is_iri.ensures.1 i in cc (k, c.if-is_iri.false)) (λ b. let k = w.is_blank.ensures.1 b in cc (k, w.if-not-is_blank.true))
    ]

pub relation_below-returns-in_default : goal.relation_below-returns-in_default
relation_below-returns-in_default t c =
    let g = c.args.graph.now in
    let s = c.args.shapes.now in
    let n = c.args.node.now in
    IfOk-weaker c.listed_relation.result (λ found. MatchOption found (AreUnread s n c.args.levels) (λ r. (ps : Paths) × AreReadPaths s n c.args.levels ps × IsOf g (joined ways.Sequence ps) r))
    (λ found. MatchOption found (IsUnread s n (c.args.levels + 1)) (IsRelationAt g s n (c.args.levels + 1)))
    (λ found h. sequence_found g s n c.args.levels c.requires c.in_default.ensures found h)
    c.listed_relation.ensures

pub relation_below-returns-in_default-modifier_of : goal.relation_below-returns-in_default-modifier_of
relation_below-returns-in_default-modifier_of t c =
    let g = c.args.graph.now in
    let s = c.args.shapes.now in
    let n = c.args.node.now in
    let p = c.in-Some.triple.now.predicate in
    let m = c.in-Some.triple.now.object in
    IfOk-weaker c.offered_relation.result
    (λ found. MatchOption found (p ≡ sh (codes "alternativePath") → AreUnread s m c.args.levels) (λ r. (p ≡ sh (codes "alternativePath")) × ((ps : Paths) × AreReadPaths s m c.args.levels ps × IsOf g (joined ways.Alternative ps) r)))
    (λ found. MatchOption found (IsUnread s n (c.args.levels + 1)) (IsRelationAt g s n (c.args.levels + 1)))
    (λ found h. offered_found g s n c.args.levels c.requires p m c.in-Some.ensures c.in_default-modifier_of.ensures found h)
    c.offered_relation.ensures

pub relation_below-returns : goal.relation_below-returns
relation_below-returns t c =
    let g = c.args.graph.now in
    let s = c.args.shapes.now in
    let n = c.args.node.now in
    let p = c.in-Some.triple.now.predicate in
    let m = c.in-Some.triple.now.object in
    let modifier = c.in-Some-modifier_of.modifier in
    IfOk-weaker c.modified_relation.result (λ found. MatchOption found (IsUnread s m c.args.levels) (λ r. (q : Path) × IsRead s m c.args.levels q × IsOf g (modified modifier q) r))
    (λ found. MatchOption found (IsUnread s n (c.args.levels + 1)) (IsRelationAt g s n (c.args.levels + 1)))
    (λ found h. modified_found g s n c.args.levels c.requires p m c.in-Some.ensures modifier c.in-Some-modifier_of.ensures found h)
    c.modified_relation.ensures

pub modified_relation-returns-in_ok-modified_by-in-Some : goal.modified_relation-returns-in_ok-modified_by-in-Some
modified_relation-returns-in_ok-modified_by-in-Some t c =
    let h = rw c.in-Some.is at c.in_ok-relation.ensures in
    (h.0, h.1, modified_is c.args.graph.now h.0 c.in-Some.relation h.2 c.args.modifier c.in_ok-modified_by-in-Some.field-0 c.in_ok-modified_by-in-Some.ensures)

pub listed_relation-returns-in_default : goal.listed_relation-returns-in_default
listed_relation-returns-in_default t c = no_list_unread c.args.shapes.now c.args.levels c.args.head.now (rw c.in_default.is at c.in_ok-members.ensures)

pub listed_relation-returns-then-len-lt2 : goal.listed_relation-returns-then-len-lt2
listed_relation-returns-then-len-lt2 t c =
    let e = c.len.ensures in
    short_unread c.args.shapes.now c.args.levels c.args.head.now c.in-Some.members (rw c.in-Some.is at c.in_ok-members.ensures) (omega (arith, e, c.if-len-lt2.true))

pub listed_relation-returns : goal.listed_relation-returns
listed_relation-returns t c =
    member_unread c.args.shapes.now c.args.levels c.args.head.now c.in-Some.members (rw c.in-Some.is at c.in_ok-members.ensures) (rw c.as_slice.ensures at (rw c.in-None.is at c.in_ok-relations.ensures))

pub listed_relation-returns-in-Some-2 : goal.listed_relation-returns-in-Some-2
listed_relation-returns-in-Some-2 t c =
    let e = c.len.ensures in
    joined_is c.args.graph.now c.args.shapes.now c.args.levels c.args.join c.args.head.now c.in-Some.members c.in-Some-2.relations.items c.in_ok-join_relations-in-Some-2.field-0 (omega (arith, e, c.if-len-lt2.false)) (rw c.in-Some.is at c.in_ok-members.ensures)
    (rw c.as_slice.ensures at (rw c.in-Some-2.is at c.in_ok-relations.ensures)) (rw c.deref.ensures.value at c.in_ok-join_relations-in-Some-2.ensures)

pub relations_at-loop-node-preserved : goal.relations_at-loop-node-preserved
relations_at-loop-node-preserved t c =
    let ns = c.args.nodes.now in
    let i = c.loop-node.node-index in
    let n = c.node-item.result in
    rw c.in_ok-push.ensures.items
    (subst (λ (front : List Term). AreRelationsAt c.args.graph.now c.args.shapes.now front c.args.levels (c.loop-node.relations.items ++ c.in-Some.relation ∷ [])) (taken_more ns i n c.loop-node-test.true c.node-item.is)
    (relations_push c.args.graph.now c.args.shapes.now c.args.levels (take i ns) c.loop-node.relations.items n c.in-Some.relation c.loop-node.invariant (rw c.in-Some.is at c.in_ok-relation.ensures)))
