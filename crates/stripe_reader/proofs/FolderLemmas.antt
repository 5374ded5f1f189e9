-- Calls that only read a folder, one after another.
use Rattle.std.proofs.Common.{List, [], ◌∷◌, ◌++◌, refl, sym, ap, ◌∙◌, append_assoc, arith}
use Rattle.std.proofs.lemmas.List.{append-nil}
use Rattle.disk_model.specs.declared.answer.Answer.{Answer}
use Rattle.disk_model.specs.Folder.{FolderView, FolderCall, FolderDone, FolderGoesOn, IsFolderReading}
use Rattle.disk_model.proofs.CountLemmas.{counts_none, folder_writes_then}
use Rattle.stripe_reader.specs.Column.{ReadsBy}

pub goes_on_then : (old mid new : FolderView) (first back : List FolderDone) → FolderGoesOn old mid first → FolderGoesOn mid new back → FolderGoesOn old new (first ++ back)
goes_on_then old mid new first back one two = record {
  later = omega (arith, one.later, two.later);
  writes = folder_writes_then first back old.writes mid.writes new.writes one.writes two.writes;
  keeps = two.keeps ∙ one.keeps;
  closed = two.closed ∙ one.closed;
  tells = two.tells ∙ one.tells;
  calls = record {
    told = λ t. one.calls.told (two.calls.told t);
    more = λ t. two.calls.more t ∙ ap (λ cs. cs ++ back) (one.calls.more (two.calls.told t)) ∙ append_assoc old.calls first back;
  };
}

-- without a call
pub reads_nothing : (P : List FolderDone → Type 0) (v : FolderView) → P [] → ReadsBy P v v
reads_nothing P v none = record {
  done = [];
  are = none;
  goes_on = record { later = omega arith; writes = counts_none v.writes; keeps = refl; closed = refl; tells = refl; calls = record { told = λ t. t; more = λ t. sym (append-nil v.calls) } };
  tree = λ t. refl;
}

-- some calls, and then others
pub reads_then : (P Q R : List FolderDone → Type 0) (old mid new : FolderView) (one : ReadsBy P old mid) (two : ReadsBy Q mid new) → R (one.done ++ two.done) → ReadsBy R old new
reads_then P Q R old mid new one two are = record {
  done = one.done ++ two.done;
  are = are;
  goes_on = goes_on_then old mid new one.done two.done one.goes_on two.goes_on;
  tree = λ t. two.tree (one.goes_on.tells ∙ t) ∙ one.tree t;
}

-- one call
pub reads_once : (P : List FolderDone → Type 0) {old new : FolderView} {call : FolderCall} {answer : Answer} → IsFolderReading call answer old new
    → P (record { call = call; answer = answer } ∷ []) → ReadsBy P old new
reads_once P read are = record { done = _; are = are; goes_on = read.called.goes_on; tree = read.tree }

-- one call, and then another
pub reads_twice : (P : List FolderDone → Type 0) {old mid new : FolderView} {call other : FolderCall} {answer other_answer : Answer}
    → IsFolderReading call answer old mid → IsFolderReading other other_answer mid new
    → P (record { call = call; answer = answer } ∷ record { call = other; answer = other_answer } ∷ []) → ReadsBy P old new
reads_twice P {old = old} {mid = mid} {new = new} one two are = record {
  done = _;
  are = are;
  goes_on = goes_on_then old mid new _ _ one.called.goes_on two.called.goes_on;
  tree = λ t. two.tree (one.called.goes_on.tells ∙ t) ∙ one.tree t;
}
