use Rattle.std.proofs.Common.{◌≡◌, length, string_bytes}
use denote.Text.{Utf8}
use denote.Shadow.{shadow}
use Rattle.iri_ref.specs.DotSegments.{output_after, without_dot_segments}
use Rattle.iri_ref.proofs.dot_segments.remove_dot_segments.Given as goal

abbrev pub invariant-loop-input : goal.invariant-loop-input
invariant-loop-input l = shadow (Utf8 l.input) × (output_after (length l.input) (record { input = l.input; output = string_bytes l.output }) ≡ without_dot_segments l.fn.path)

abbrev pub decreases-loop-input : goal.decreases-loop-input
decreases-loop-input l = length l.input
