-- Events as they are kept, and what they stand for.
use Rattle.std.specs.Prelude.{ℕ, ◌<◌, List, [], ◌∷◌, length}
use Rattle.std.specs.List.{AllByRecursion}
use Rattle.rdf_model.specs.declared.term.Term.{Term}
use Rattle.store_model.specs.declared.event.Event.{Event}
use Rattle.store_model.specs.declared.event.Reply.{Reply}
use Rattle.store_model.specs.declared.event.Reply.TheVariants.{Named}
use Rattle.triple_index.specs.Changes.{IsNumberedChange}
use Rattle.event_history.specs.declared.kept.KeptEvent.{KeptEvent}
use Rattle.event_history.specs.declared.kept.KeptEvent.TheVariants.{Whole, Block, Accepted}
use Rattle.event_history.specs.declared.kept.Meaning.{Meaning}
use Rattle.event_history.specs.Named.{accepted_commit, named_block, net_at, terms_at}

-- what an event tells, by the names of its numbers
abbrev pub told : List Term → KeptEvent → Event
told names (Whole e) = e
told names (Block b) = named_block b.session b.kind (terms_at names b.numbers)
told names (Accepted c) = accepted_commit c (net_at names c.net)

-- each of its numbers has a term
abbrev pub HasTerms : List Term → KeptEvent → Type 0
HasTerms names (Whole e) = Unit {0}
HasTerms names (Block b) = AllByRecursion (λ n. n < length names) b.numbers
HasTerms names (Accepted c) = AllByRecursion (IsNumberedChange names) c.net

-- what its numbers stand for, and the event with that
abbrev pub meaning : List Term → KeptEvent → Meaning
meaning names (Whole e) = record { terms = []; net = [] }
meaning names (Block b) = record { terms = terms_at names b.numbers; net = [] }
meaning names (Accepted c) = record { terms = []; net = net_at names c.net }

abbrev pub event_with : KeptEvent → Meaning → Event
event_with (Whole e) m = e
event_with (Block b) m = named_block b.session b.kind m.terms
event_with (Accepted c) m = accepted_commit c m.net

-- each event with what its numbers stand for
abbrev pub events_with : List KeptEvent → List Meaning → List Event
events_with [] ms = []
events_with (k ∷ ks) [] = []
events_with (k ∷ ks) (m ∷ ms) = event_with k m ∷ events_with ks ms

-- what doesn't rest on names
abbrev pub session_of : KeptEvent → ℕ
session_of (Whole e) = e.session
session_of (Block b) = b.session
session_of (Accepted c) = c.session

abbrev pub reply_of : KeptEvent → Reply
reply_of (Whole e) = e.reply
reply_of (Block b) = Named
reply_of (Accepted c) = c.reply
