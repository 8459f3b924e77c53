use Rattle.iri_ref.proofs.Marks.{before_last-found}
use Rattle.iri_ref.proofs.dot_segments.remove_last_segment.Goals as goal

pub returns : goal.returns
returns c =
    let found = before_last-found c.as_str.result.now c.rfind.result c.rfind.ensures.cases in
    rw (← c.as_str.ensures.value) (rw found (cc (c.truncate.ensures.bytes, c.unwrap_or-length.ensures, c.as_str.ensures.value)))
