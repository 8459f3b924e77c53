use Rattle.std.proofs.Common.{◌≡◌, length, take}
use Rattle.rdf_model.specs.Numbers.{AreNumbered, graph_of}
use Rattle.numbered_lists.specs.Meeting.{AreMet}
use Rattle.numbered_lists.proofs.ordered.in_order.Given as goal

abbrev pub invariant-loop-triple : goal.invariant-loop-triple
invariant-loop-triple l = record {
  numbered : AreNumbered l.meeting.met.items l.found.items;
  graph : graph_of l.meeting.met.items l.found.items ≡ graph_of l.fn.terms.items (take l.triple-index l.triples);
  left : length l.meeting.left.items ≡ length l.fn.terms.items;
  long : length l.meeting.places.items ≡ length l.fn.terms.items;
  met : AreMet l.fn.terms.items l.meeting.left.items l.meeting.met.items l.meeting.places.items;
}
