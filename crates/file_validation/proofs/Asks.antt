-- What the maker is asked for of the text of the shapes.
use Rattle.std.proofs.Common.{ℕ, List, Result, Ok, Err, refl, sym, subst}
use Rattle.rdf_lexical.specs.declared.refusal.RefusalKind.{RefusalKind}
use Rattle.rdf_model.specs.declared.triple.Triple.{Triple}
use Rattle.outside.specs.Faults.{Refusal, Request}
use Rattle.turtle_reader.specs.Document.{reads}
use Rattle.shape_reader.specs.Asked.{AsksBeforeFault, AsksSome}
use Rattle.shape_reader.specs.Faults as causes
use Rattle.shape_reader.specs.declared.fault.ShapeFault.{ShapeFault}
use Rattle.shape_reader.specs.declared.fault.ShapeFault.TheVariants as reader
use Rattle.shape_reader.proofs.Requests.{all_some, asks_nothing}
use Rattle.file_validation.specs.Asked.{AsksInVain, AsksOfText, AsksSomeOf}
use Rattle.file_validation.specs.Validations.{HasData, IsCause, IsRead, input_fault}

pub some_of_none : (r : Result (List Triple × ℕ) (ℕ × RefusalKind)) (xs : List Request) → AsksSomeOf r xs xs
some_of_none (Ok r) xs = asks_nothing r.0 xs
some_of_none (Err e) xs = refl

some_of : (text : List ℕ) (s : List Triple) (old new : List Request) → IsRead 2 text s → AsksSome s old new → AsksSomeOf (reads text 2 1) old new
some_of text s old new read h = subst (λ (r : Result (List Triple × ℕ) (ℕ × RefusalKind)). AsksSomeOf r old new) (sym read.1) h

-- where no shapes were read
pub fault_told : (text : List ℕ) (s : List Triple) (f : ShapeFault) (old new : List Request) → IsRead 2 text s → AsksBeforeFault s f old new → AsksInVain text (input_fault f) old new
fault_told text s (reader.Rule r) old new read h = h
fault_told text s (reader.Pattern n) old new read h = (s, read, h)
fault_told text s reader.Memory old new read h = some_of text s old new read h

-- where the results were not listed
pub asked_all : (text : List ℕ) (old new : List Request) → AsksOfText text old new → AsksSomeOf (reads text 2 1) old new
asked_all text old new h = some_of text h.0 old new h.1 (all_some h.0 old new h.2)

-- why no shapes were read, where the data were
pub cause_told : (bytes text : List ℕ) (s : List Triple) (f : ShapeFault) (old new : List Refusal) → HasData bytes → IsRead 2 text s → causes.IsCause s f old new → IsCause bytes text old new (input_fault f)
cause_told bytes text s (reader.Rule r) old new d read h = (s, d, read, h.0, h.1)
cause_told bytes text s (reader.Pattern n) old new d read h = (s, d, read, h.0, h.1)
cause_told bytes text s reader.Memory old new d read h = h
