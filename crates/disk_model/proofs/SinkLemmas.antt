-- Writes to a sink, one after another.
use Rattle.std.proofs.Common.{ℕ, List, [], ◌∷◌, ◌++◌, Result, is_err, refl, sym, ◌∙◌, arith}
use Rattle.std.proofs.lemmas.List.{append-nil}
use Rattle.disk_model.specs.Sink.{SinkView, SomeWrites, IsWrite}
use Rattle.disk_model.specs.declared.fault.Failed.{Failed}
use Rattle.disk_model.proofs.RanLemmas.{grows_then}

pub no_writes : (sink : SinkView) → SomeWrites sink sink
no_writes sink = record { done = []; goes_on = record { later = omega arith; tells = refl }; calls = record { told = λ t. t; more = λ t. sym (append-nil sink.calls) } }

pub one_write : {T : Type 0} (bytes : List ℕ) (result : Result T Failed) (old new : SinkView) → IsWrite bytes result old new → SomeWrites old new
one_write bytes result old new write = record { done = record { bytes = bytes; failed = is_err result } ∷ []; goes_on = write.goes_on; calls = write.calls }

pub writes_then : (old mid new : SinkView) → SomeWrites old mid → SomeWrites mid new → SomeWrites old new
writes_then old mid new one two = record {
  done = one.done ++ two.done;
  goes_on = record { later = (let a = one.goes_on.later in let b = two.goes_on.later in omega arith); tells = two.goes_on.tells ∙ one.goes_on.tells };
  calls = grows_then _ _ _ _ _ _ _ _ one.calls two.calls;
}
