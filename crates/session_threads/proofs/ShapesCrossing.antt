-- Compiled shapes may go to another thread, and threads may share them. A pattern keeps a `Regex`, of which this is shown
-- part by part.
use Rattle.std.proofs.Crossing.{crosses, Box-send, Box-sync, Vec-send, Vec-sync}
use denote.Param.Send.{IsSend, IsSync, sendable}
use denote.Param.SendFields.{as_row_send, as_row_sync, declared_send, declared_sync}
use denote.RattleType.{RattleType}
use Rattle.std.specs.Borrow.{u32 as word}
use Rattle.std.specs.contracts.prelude.U32Ord.TheImpl as word_order
use Rattle.std.specs.contracts.prelude.U32PartialEq.TheImpl as word_equality
use Rattle.std.specs.contracts.prelude.U32PartialOrd.TheImpl as word_comparison
use Rattle.regex.specs.contracts.pattern.Pattern as regex_pattern
use Rattle.regex.specs.contracts.string.regex.Regex as regex
use Rattle.regex_meta.specs.contracts.program.Program as program
use Rattle.regex_hir.proofs.hir.Hir.TheLaws.TheKnot as hir_knot
use Rattle.regex_hir.proofs.look.Look.TheSendSync as look_sent
use Rattle.regex_dfa.proofs.dfa.Dfa.TheSendSync as dfa_sent
use Rattle.regex_literal.proofs.ladder.Ladder.TheSendSync as ladder_sent
use Rattle.regex_literal.proofs.prefilter.Prefilter.TheSendSync as prefilter_sent
use Rattle.collections.proofs.sequence.Sequence.TheSendSync as sequence_sent
use Rattle.rdf_model.proofs.term.Term.TheSendSync as term_sent
use Rattle.path_ast.proofs.path.Path.TheLaws.TheKnot as path_knot
use Rattle.path_ast.specs.contracts.path.Path as path
use Rattle.shape_ast.proofs.target.Target.TheSendSync as target_sent
use Rattle.shape_ast.proofs.constraint.Constraint.TheSendSync as constraint_sent
use Rattle.shape_ast.proofs.members.Members.TheSendSync as members_sent
use Rattle.shape_ast.specs.contracts.pattern.CompiledPattern as pattern
use Rattle.shape_ast.specs.contracts.shape.Shape as shape
use Rattle.shape_ast.specs.contracts.shape.Shapes as shapes
use Rattle.rdf_model.specs.contracts.term.Term as term
use Rattle.rdf_model.specs.contracts.term.TermOrd.TheImpl as term_order
use Rattle.rdf_model.specs.contracts.term.TermPartialEq.TheImpl as term_equality
use Rattle.rdf_model.specs.contracts.term.TermPartialOrd.TheImpl as term_comparison
use Rattle.shape_ast.specs.contracts.bound.Bound as bound
use Rattle.focus_affected.specs.contracts.plan.NumberedLook as numbered_look
use Rattle.focus_affected.specs.contracts.plan.ShapePlan as shape_plan
use Rattle.focus_affected.specs.contracts.index.IndexedPlans as indexed_plans
use Rattle.shape_plans.specs.contracts.planned.PlannedShapes as planned

program_send : IsSend program.the_row
program_send = search (dfa_sent.the_field_send, look_sent.the_field_send, ladder_sent.the_field_send, prefilter_sent.the_send, crosses, hir_knot.crosses, sendable) depth 60 fits 20000

program_sync : IsSync program.the_row
program_sync = search (dfa_sent.the_field_sync, look_sent.the_field_sync, ladder_sent.the_field_sync, prefilter_sent.the_sync, crosses, hir_knot.crosses, sendable) depth 60 fits 20000

source_send : IsSend regex_pattern.the_row
source_send = declared_send regex_pattern.the_type (search (crosses, sendable) depth 60 fits 20000, (search (crosses, sendable) depth 60 fits 20000, (search (crosses, sendable) depth 60 fits 20000, (program_send, tt))))

source_sync : IsSync regex_pattern.the_row
source_sync = declared_sync regex_pattern.the_type (search (crosses, sendable) depth 60 fits 20000, (search (crosses, sendable) depth 60 fits 20000, (search (crosses, sendable) depth 60 fits 20000, (program_sync, tt))))

pub regex_send : IsSend regex.the_row
regex_send = declared_send regex.the_type (source_send, tt)

pub regex_sync : IsSync regex.the_row
regex_sync = declared_sync regex.the_type (source_sync, tt)

path_send : (P : RattleType) → IsSend P → IsSend (path.the_row P)
path_send P sent = as_row_send (path.the_field P) (path_knot.send-Path P sent Box-send Vec-send)

path_sync : (P : RattleType) → IsSync P → IsSync (path.the_row P)
path_sync P sent = as_row_sync (path.the_field P) (path_knot.sync-Path P sent Box-sync Vec-sync)

pattern_send : IsSend (pattern.the_row term.the_row)
pattern_send = search (regex_send, regex_sync, term_sent.the_send, crosses, sendable) depth 60 fits 20000

pattern_sync : IsSync (pattern.the_row term.the_row)
pattern_sync = search (regex_send, regex_sync, term_sent.the_sync, crosses, sendable) depth 60 fits 20000

shape_send : IsSend (shape.the_row term.the_row term_order.ghosts term_equality.ghosts term_comparison.ghosts)
shape_send = search (pattern_send, path_send, term_sent.the_send, target_sent.the_send, constraint_sent.the_send, members_sent.the_send, sequence_sent.the_send, crosses, sendable) depth 60 fits 20000

shape_sync : IsSync (shape.the_row term.the_row term_order.ghosts term_equality.ghosts term_comparison.ghosts)
shape_sync = search (pattern_sync, path_sync, term_sent.the_sync, target_sent.the_sync, constraint_sent.the_sync, members_sent.the_sync, sequence_sent.the_sync, crosses, sendable) depth 60 fits 20000

pub shapes_send : IsSend shapes.the_row
shapes_send = search (shape_send, sequence_sent.the_send, crosses, sendable) depth 60 fits 20000

pub shapes_sync : IsSync shapes.the_row
shapes_sync = search (shape_sync, sequence_sent.the_sync, crosses, sendable) depth 60 fits 20000

-- shapes over numbers of terms
pattern_by_number_send : IsSend (pattern.the_row word)
pattern_by_number_send = search (regex_send, regex_sync, crosses, sendable) depth 60 fits 20000

pattern_by_number_sync : IsSync (pattern.the_row word)
pattern_by_number_sync = search (regex_send, regex_sync, crosses, sendable) depth 60 fits 20000

shape_by_number_send : IsSend (shape.the_row word word_order.ghosts word_equality.ghosts word_comparison.ghosts)
shape_by_number_send = search (pattern_by_number_send, path_send, target_sent.the_send, constraint_sent.the_send, sequence_sent.the_send, crosses, sendable) depth 60 fits 20000

shape_by_number_sync : IsSync (shape.the_row word word_order.ghosts word_equality.ghosts word_comparison.ghosts)
shape_by_number_sync = search (pattern_by_number_sync, path_sync, target_sent.the_sync, constraint_sent.the_sync, sequence_sent.the_sync, crosses, sendable) depth 60 fits 20000

-- shapes by number with their plans
bound_send : IsSend bound.the_row
bound_send = search (shape_by_number_send, sequence_sent.the_send, crosses, sendable) depth 60 fits 20000

bound_sync : IsSync bound.the_row
bound_sync = search (shape_by_number_sync, sequence_sent.the_sync, crosses, sendable) depth 60 fits 20000

numbered_look_send : IsSend numbered_look.the_row
numbered_look_send = search (path_send, crosses, sendable) depth 60 fits 20000

numbered_look_sync : IsSync numbered_look.the_row
numbered_look_sync = search (path_sync, crosses, sendable) depth 60 fits 20000

plan_send : IsSend shape_plan.the_row
plan_send = search (numbered_look_send, sequence_sent.the_send, crosses, sendable) depth 60 fits 20000

plan_sync : IsSync shape_plan.the_row
plan_sync = search (numbered_look_sync, sequence_sent.the_sync, crosses, sendable) depth 60 fits 20000

indexed_send : IsSend indexed_plans.the_row
indexed_send = search (plan_send, crosses, sendable) depth 60 fits 20000

indexed_sync : IsSync indexed_plans.the_row
indexed_sync = search (plan_sync, crosses, sendable) depth 60 fits 20000

pub planned_send : IsSend planned.the_row
planned_send = declared_send planned.the_type (bound_send, (search (crosses, sendable) depth 60 fits 20000, (indexed_send, tt)))

pub planned_sync : IsSync planned.the_row
planned_sync = declared_sync planned.the_type (bound_sync, (search (crosses, sendable) depth 60 fits 20000, (indexed_sync, tt)))
