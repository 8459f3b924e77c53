-- Where nothing is wrong with the words, only memory is left.
use Rattle.std.proofs.Common.{◌≡◌, [], inl, inr, subst}
use Rattle.clap.specs.Words.{HasKind, Kinds, kind_of}
use Rattle.clap.specs.declared.error.Error.{Error}
use Rattle.clap.specs.declared.error.kind.ErrorKind.TheVariants.{OutOfMemory}

of_none : (e : Error) → HasKind [] e → kind_of e ≡ OutOfMemory
of_none e (inl memory) = memory
of_none e (inr among) = absurd among

pub memory_where_free : (kinds : Kinds) (e : Error) → kinds ≡ [] → HasKind kinds e → kind_of e ≡ OutOfMemory
memory_where_free kinds e none h = of_none e (subst (λ (ks : Kinds). HasKind ks e) none h)
