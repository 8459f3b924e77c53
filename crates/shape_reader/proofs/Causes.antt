-- The fault of a pattern is told as it is.
use Rattle.std.proofs.Common.{◌≡◌, List, sym, subst}
use Rattle.rdf_model.specs.declared.term.Term.{Term}
use Rattle.rdf_model.specs.declared.triple.Triple.{Triple}
use Rattle.outside.specs.declared.maker.MakeFault.{MakeFault}
use Rattle.outside.specs.declared.maker.MakeFault.TheVariants as make
use Rattle.outside.specs.Faults.{Refusal}
use Rattle.shape_rules.specs.Broken.{IsWellFormed}
use Rattle.shape_reader.specs.declared.fault.CompileFault.{CompileFault}
use Rattle.shape_reader.specs.declared.fault.CompileFault.TheVariants as compile_faults
use Rattle.shape_reader.specs.Faults.{IsCause, IsCompileCause, shape_fault}
use Rattle.shape_reader.specs.Parts.{IsMakeFault, IsPatternFault, IsRefused}

pub cause_of : (s : List Triple) (n own : Term) (old new : List Refusal) (f : MakeFault) (r : CompileFault) → own ≡ n → IsMakeFault s n f old new → IsPatternFault own f r → IsCompileCause s r old new
cause_of s n own old new make.Refused r e h k = subst (λ (x : CompileFault). IsCompileCause s x old new) (sym k) (subst (λ (m : Term). IsRefused s m old new) (sym e) h)
cause_of s n own old new make.Memory r e h k = subst (λ (x : CompileFault). IsCompileCause s x old new) (sym k) h

-- nothing was refused before
pub cause_since : (s : List Triple) (f : CompileFault) (old mid new : List Refusal) → mid ≡ old → IsCompileCause s f mid new → IsCompileCause s f old new
cause_since s f old mid new e h = subst (λ (refused : List Refusal). IsCompileCause s f refused new) e h

-- what kept the shapes of a well-formed graph from being compiled kept them from being read
pub cause_told : (s : List Triple) (f : CompileFault) (old new : List Refusal) → IsWellFormed s → IsCompileCause s f old new → IsCause s (shape_fault f) old new
cause_told s (compile_faults.Pattern n) old new well h = (well, h)
cause_told s compile_faults.Memory old new well h = h
