-- Calls of a folder, one after another, and the two names of a record that they touch.
use Rattle.std.proofs.Common.{◌≡◌, Bool, true, false, ◌||◌, List, [], ◌∷◌, ◌++◌, All, refl, sym, ap, ap₂, ◌∙◌, append_assoc, subst, arith, Option, None, Some, ℕ, get_or, length, if◌then◌else◌}
use Rattle.std.proofs.lemmas.List.{append-nil, map-append}
use Rattle.std.proofs.lemmas.List.Elements.{All-append, All-cons, All-nil}
use Rattle.std.proofs.lemmas.List.Folds.{list_any-append}
use Rattle.std.specs.FinMap as map
use Rattle.disk_model.specs.Answer.{is_failure, is_missing}
use Rattle.disk_model.specs.Folder.{FolderView, FolderCall, FolderDone, FolderGoesOn, Look, ReadAt, IsFolder, TreeStays, SomeFolderCalls}
use Rattle.disk_model.specs.Stopped.{MayBeLeft}
use Rattle.disk_model.specs.Tree.{Tree, File, file_of, path_of}
use Rattle.disk_model.specs.Writing.{ChangesFile, IsFolderWrite, made, or_added, moved, renamed}
use Rattle.disk_model.specs.declared.answer.Answer.{Answer}
use Rattle.disk_model.specs.declared.answer.Answer.TheVariants.{Failed, OutOfMemory, Missing, Done, Saw, Bytes, Kept}
use Rattle.disk_model.specs.declared.meta.Stamp.{Stamp}
use Rattle.disk_model.proofs.AnsweredLemmas.{write_is_left, left_then, left_later, left_is_tree}
use Rattle.disk_model.proofs.TreeLemmas.{set_other, gone_other, own_name}
use Rattle.disk_model.proofs.CountLemmas.{counts_none}
use Rattle.snap_report.specs.Answer.{broke_folder, is_reading}
use Rattle.stripe_reader.specs.Column.{ReadsBy}
use Rattle.stripe_reader.specs.FolderCalls.{AreCellCalls, AreColumnCalls, AreFetchCalls}
use Rattle.stripe_reader.specs.Reading.{CellReading, NoBlock, Nowhere, Beyond, Unread, Gone, Part, Whole, Task, Known, Fetch}
use Rattle.stripe_reader.proofs.FolderLemmas.{goes_on_then}
use Rattle.file_restorer.specs.State.{AnyCall, AreStepCalls, StopsAtMissing, WellCall, FolderMakes, FolderMakesBy, OthersStay, StepMakes, calls_made, has_missing}

-- ---- which calls

pub makes_none : (P : FolderDone → Type 0) (v : FolderView) → FolderMakes P v v
makes_none P v = record {
  done = [];
  each = All-nil P;
  goes_on = record { later = omega arith; writes = counts_none v.writes; keeps = refl; closed = refl; tells = refl; calls = record { told = λ t. t; more = λ t. sym (append-nil v.calls) } };
  left = λ told is. refl;
}

-- one call that writes or reads, of which P holds with its answer
pub makes_write : (P : FolderDone → Type 0) {call : FolderCall} {answer : Answer} {old new : FolderView} → IsFolder new → IsFolderWrite call answer old new
    → P (record { call = call; answer = answer }) → FolderMakes P old new
makes_write P {call = call} {answer = answer} {old = old} {new = new} formed wrote is = record {
  done = record { call = call; answer = answer } ∷ [];
  each = All-cons P _ [] is (All-nil P);
  goes_on = wrote.called.goes_on;
  left = λ told tree. write_is_left call answer old new told formed wrote;
}

pub makes_then : (P : FolderDone → Type 0) {old mid new : FolderView} → FolderMakes P old mid → FolderMakes P mid new → FolderMakes P old new
makes_then P {old = old} {mid = mid} {new = new} one two = record {
  done = one.done ++ two.done;
  each = All-append P one.done two.done one.each two.each;
  goes_on = goes_on_then old mid new one.done two.done one.goes_on two.goes_on;
  left = λ told is.
      let first : MayBeLeft old.keeps one.done old.tree mid.tree = one.left told is in
      let more = two.left (one.goes_on.tells ∙ told) (left_is_tree old.keeps one.done old.tree mid.tree is first) in
      left_then old.keeps one.done two.done old.tree mid.tree new.tree first (subst (λ (keeps : Stamp → Bool). MayBeLeft keeps two.done mid.tree new.tree) one.goes_on.keeps more);
}

pub makes_wider : (P Q : FolderDone → Type 0) {old new : FolderView} → ((done : FolderDone) → P done → Q done) → FolderMakes P old new → FolderMakes Q old new
makes_wider P Q wider one = record { done = one.done; each = λ k d within. wider (get_or one.done k d) (one.each k d within); goes_on = one.goes_on; left = one.left }

pub makes_some : (P : FolderDone → Type 0) {old new : FolderView} → FolderMakes P old new → SomeFolderCalls old new
makes_some P one = record { done = one.done; goes_on = one.goes_on }

pub some_none : (v : FolderView) → SomeFolderCalls v v
some_none v = makes_some (WellCall (λ (call : FolderCall). Unit {0})) (makes_none (WellCall (λ (call : FolderCall). Unit {0})) v)

pub calls_then : {old mid new : FolderView} → SomeFolderCalls old mid → SomeFolderCalls mid new → SomeFolderCalls old new
calls_then {old = old} {mid = mid} {new = new} one two = record { done = one.done ++ two.done; goes_on = goes_on_then old mid new one.done two.done one.goes_on two.goes_on }

-- calls that only read leave what there was
pub makes_reading : (P : FolderDone → Type 0) {old new : FolderView} (done : List FolderDone) → All P done → FolderGoesOn old new done → TreeStays old new → FolderMakes P old new
makes_reading P {old = old} {new = new} done each goes_on stays = record {
  done = done;
  each = each;
  goes_on = goes_on;
  left = λ told is. subst (λ (tree : Tree). MayBeLeft old.keeps done old.tree tree) (sym (stays told)) (left_later old.keeps [] done old.tree old.tree is refl);
}

-- ---- calls of which none failed but readings, and such that may have failed

pub unbroken : (call : FolderCall) (answer : Answer) → is_failure answer ≡ false → broke_folder (record { call = call; answer = answer }) ≡ false
unbroken call answer well = by (is_reading call)
  where
    by : (reading : Bool) → (if reading then false else is_failure answer) ≡ false
    by true = refl
    by false = well

pub well_wider : (P Q : FolderCall → Type 0) → ((call : FolderCall) → P call → Q call) → (done : FolderDone) → WellCall P done → WellCall Q done
well_wider P Q wider done is = (wider done.call is.0, is.1)

pub makes_well_wider : (P Q : FolderCall → Type 0) {old new : FolderView} → ((call : FolderCall) → P call → Q call) → FolderMakes (WellCall P) old new → FolderMakes (WellCall Q) old new
makes_well_wider P Q wider one = makes_wider (WellCall P) (WellCall Q) (well_wider P Q wider) one

pub makes_any_wider : (P Q : FolderCall → Type 0) {old new : FolderView} → ((call : FolderCall) → P call → Q call) → FolderMakes (AnyCall P) old new → FolderMakes (AnyCall Q) old new
makes_any_wider P Q wider one = makes_wider (AnyCall P) (AnyCall Q) (λ done is. wider done.call is) one

pub makes_any : (P : FolderCall → Type 0) {old new : FolderView} → FolderMakes (WellCall P) old new → FolderMakes (AnyCall P) old new
makes_any P one = makes_wider (WellCall P) (AnyCall P) (λ done is. is.0) one

-- ---- the calls of a step, of which one may have found no file

-- what holds of lists of calls holds of wider ones
pub makes_by_wider : (P Q : List FolderDone → Type 0) {old new : FolderView} → ((done : List FolderDone) → P done → Q done) → FolderMakesBy P old new → FolderMakesBy Q old new
makes_by_wider P Q wider one = record { done = one.done; are = wider one.done one.are; goes_on = one.goes_on; left = one.left }

pub makes_by_then : (P Q B : List FolderDone → Type 0) {old mid new : FolderView} → ((first more : List FolderDone) → P first → Q more → B (first ++ more))
    → FolderMakesBy P old mid → FolderMakesBy Q mid new → FolderMakesBy B old new
makes_by_then P Q B {old = old} {mid = mid} {new = new} joins one two = record {
  done = one.done ++ two.done;
  are = joins one.done two.done one.are two.are;
  goes_on = goes_on_then old mid new one.done two.done one.goes_on two.goes_on;
  left = λ told is.
      let first : MayBeLeft old.keeps one.done old.tree mid.tree = one.left told is in
      let more = two.left (one.goes_on.tells ∙ told) (left_is_tree old.keeps one.done old.tree mid.tree is first) in
      left_then old.keeps one.done two.done old.tree mid.tree new.tree first (subst (λ (keeps : Stamp → Bool). MayBeLeft keeps two.done mid.tree new.tree) one.goes_on.keeps more);
}

pub makes_by_none : (P : List FolderDone → Type 0) (v : FolderView) → P [] → FolderMakesBy P v v
makes_by_none P v none = record {
  done = [];
  are = none;
  goes_on = record { later = omega arith; writes = counts_none v.writes; keeps = refl; closed = refl; tells = refl; calls = record { told = λ t. t; more = λ t. sym (append-nil v.calls) } };
  left = λ told is. refl;
}

-- each of them is of this kind
pub makes_each : (P : List FolderDone → Type 0) (Q : FolderDone → Type 0) {old new : FolderView} → ((done : List FolderDone) → P done → All Q done) → FolderMakesBy P old new → FolderMakes Q old new
makes_each P Q each one = record { done = one.done; each = each one.done one.are; goes_on = one.goes_on; left = one.left }

pub no_step : (P : FolderCall → Type 0) → AreStepCalls P [] false []
no_step P = record {
  each = All-nil (WellCall P);
  found = refl;
  just = λ none. refl;
  stops = λ gone. absurd (let clash : false ≡ true = gone in cc);
}

pub step_none : (P : FolderCall → Type 0) (v : FolderView) → StepMakes P [] false v v
step_none P v = makes_by_none (AreStepCalls P [] false) v (no_step P)

-- behind calls that were made, of which each found its file
stops_then : (ones others : List FolderCall) (first more : List FolderDone) → calls_made first ≡ ones → has_missing first ≡ false
    → StopsAtMissing others more → StopsAtMissing (ones ++ others) (first ++ more)
stops_then ones others first more made found stops =
    let behind = stops.call ∷ stops.rest in
    record {
      front = first ++ stops.front;
      found = list_any-append (λ (done : FolderDone). is_missing done.answer) first stops.front ∙ ap₂ (λ (a b : Bool). a || b) found stops.found;
      call = stops.call;
      rest = stops.rest;
      calls_are = ap₂ (λ (a b : List FolderCall). a ++ b) (sym made) stops.calls_are
          ∙ sym (append_assoc (calls_made first) (calls_made stops.front) behind)
          ∙ ap (λ (calls : List FolderCall). calls ++ behind) (sym (map-append (λ (done : FolderDone). done.call) first stops.front));
      done_is = ap (λ (done : List FolderDone). first ++ done) stops.done_is ∙ sym (append_assoc first stops.front (record { call = stops.call; answer = Missing } ∷ []));
    }

-- those that were not made may be more
stops_before : (calls more : List FolderCall) (done : List FolderDone) → StopsAtMissing calls done → StopsAtMissing (calls ++ more) done
stops_before calls more done stops = record {
  front = stops.front;
  found = stops.found;
  call = stops.call;
  rest = stops.rest ++ more;
  calls_are = ap (λ (all : List FolderCall). all ++ more) stops.calls_are ∙ append_assoc (calls_made stops.front) (stops.call ∷ stops.rest) more;
  done_is = stops.done_is;
}

-- after calls of which each found its file
step_calls_then : (P : FolderCall → Type 0) (ones others : List FolderCall) (missing : Bool) (first more : List FolderDone) → AreStepCalls P ones false first
    → AreStepCalls P others missing more → AreStepCalls P (ones ++ others) missing (first ++ more)
step_calls_then P ones others missing first more one two = record {
  each = All-append (WellCall P) first more one.each two.each;
  found = list_any-append (λ (done : FolderDone). is_missing done.answer) first more ∙ ap₂ (λ (a b : Bool). a || b) one.found two.found;
  just = λ none. map-append (λ (done : FolderDone). done.call) first more ∙ ap₂ (λ (a b : List FolderCall). a ++ b) (one.just refl) (two.just none);
  stops = λ gone. stops_then ones others first more (one.just refl) one.found (two.stops gone);
}

pub step_then : (P : FolderCall → Type 0) (missing : Bool) {ones others : List FolderCall} {old mid new : FolderView} → StepMakes P ones false old mid → StepMakes P others missing mid new
    → StepMakes P (ones ++ others) missing old new
step_then P missing {ones = ones} {others = others} one two =
    makes_by_then (AreStepCalls P ones false) (AreStepCalls P others missing) (AreStepCalls P (ones ++ others) missing) (step_calls_then P ones others missing) one two

-- where a file was gone, more calls may have been to be made
pub step_before : (P : FolderCall → Type 0) (calls more : List FolderCall) {old new : FolderView} → StepMakes P calls true old new → StepMakes P (calls ++ more) true old new
step_before P calls more one = makes_by_wider (AreStepCalls P calls true) (AreStepCalls P (calls ++ more) true)
    (λ done are. record {
      each = are.each;
      found = are.found;
      just = λ none. absurd (let clash : true ≡ false = none in cc);
      stops = λ gone. stops_before calls more done (are.stops gone);
    }) one

pub step_calls_wider : (P Q : FolderCall → Type 0) (calls : List FolderCall) (missing : Bool) → ((call : FolderCall) → P call → Q call) → (done : List FolderDone)
    → AreStepCalls P calls missing done → AreStepCalls Q calls missing done
step_calls_wider P Q calls missing wider done are = record {
  each = λ k none within. well_wider P Q wider (get_or done k none) (are.each k none within);
  found = are.found;
  just = are.just;
  stops = are.stops;
}

pub step_wider : (P Q : FolderCall → Type 0) (calls : List FolderCall) (missing : Bool) {old new : FolderView} → ((call : FolderCall) → P call → Q call) → StepMakes P calls missing old new
    → StepMakes Q calls missing old new
step_wider P Q calls missing wider one = makes_by_wider (AreStepCalls P calls missing) (AreStepCalls Q calls missing) (step_calls_wider P Q calls missing wider) one

pub step_makes : (P : FolderCall → Type 0) (calls : List FolderCall) (missing : Bool) {old new : FolderView} → StepMakes P calls missing old new → FolderMakes (WellCall P) old new
step_makes P calls missing one = makes_each (AreStepCalls P calls missing) (WellCall P) (λ done are. are.each) one

-- one call, which found no file
missing_answer : (answer : Answer) → (is_missing answer || false) ≡ true → answer ≡ Missing
missing_answer Failed is = absurd (let clash : false ≡ true = is in cc)
missing_answer OutOfMemory is = absurd (let clash : false ≡ true = is in cc)
missing_answer Missing is = refl
missing_answer Done is = absurd (let clash : false ≡ true = is in cc)
missing_answer (Saw meta) is = absurd (let clash : false ≡ true = is in cc)
missing_answer (Bytes n) is = absurd (let clash : false ≡ true = is in cc)
missing_answer (Kept kept) is = absurd (let clash : false ≡ true = is in cc)

stops_one : (call : FolderCall) (answer : Answer) → (is_missing answer || false) ≡ true → StopsAtMissing (call ∷ []) (record { call = call; answer = answer } ∷ [])
stops_one call answer is = record {
  front = [];
  found = refl;
  call = call;
  rest = [];
  calls_are = refl;
  done_is = ap (λ (it : Answer). record { call = call; answer = it } ∷ []) (missing_answer answer is);
}

-- one call that writes and did not fail
pub step_write : (P : FolderCall → Type 0) (missing : Bool) {call : FolderCall} {answer : Answer} {old new : FolderView} → IsFolder new → IsFolderWrite call answer old new
    → is_failure answer ≡ false → (is_missing answer || false) ≡ missing → P call → StepMakes P (call ∷ []) missing old new
step_write P missing {call = call} {answer = answer} {old = old} {new = new} formed wrote well found is = record {
  done = record { call = call; answer = answer } ∷ [];
  are = record { each = All-cons (WellCall P) _ [] (is, unbroken call answer well) (All-nil (WellCall P)); found = found; just = λ none. refl; stops = λ gone. stops_one call answer (found ∙ gone) };
  goes_on = wrote.called.goes_on;
  left = λ told tree. write_is_left call answer old new told formed wrote;
}

-- ---- the readings of cells

module _ (P : FolderCall → Type 0) (looks : (path : List ℕ) (lost : Bool) → P (Look path lost)) (reads : (path : List ℕ) (lost : Bool) (at n : ℕ) → P (ReadAt path lost at n)) where
  look_one : (path : List ℕ) (lost : Bool) (one : Answer) → All (WellCall P) (record { call = Look path lost; answer = one } ∷ [])
  look_one path lost one = All-cons (WellCall P) _ [] (looks path lost, refl) (All-nil (WellCall P))

  look_two : (path : List ℕ) (lost : Bool) (at n : ℕ) (one two : Answer) → All (WellCall P) (record { call = Look path lost; answer = one } ∷ record { call = ReadAt path lost at n; answer = two } ∷ [])
  look_two path lost at n one two = All-cons (WellCall P) _ (record { call = ReadAt path lost at n; answer = two } ∷ []) (looks path lost, refl) (All-cons (WellCall P) _ [] (reads path lost at n, refl) (All-nil (WellCall P)))

  well_fetch : (path : List ℕ) (lost : Bool) (at n : ℕ) (reading : CellReading) (done : List FolderDone) → AreFetchCalls path lost at n reading done → All (WellCall P) done
  well_fetch path lost at n NoBlock done are = absurd are
  well_fetch path lost at n Nowhere done are = absurd are
  well_fetch path lost at n Beyond done are = absurd are
  well_fetch path lost at n (Unread None) done are = subst (All (WellCall P)) (sym are) (look_one path lost Failed)
  well_fetch path lost at n (Unread (Some seen)) done are = subst (All (WellCall P)) (sym are) (look_two path lost at n (Saw seen) Failed)
  well_fetch path lost at n (Gone None) done are = subst (All (WellCall P)) (sym are) (look_one path lost Missing)
  well_fetch path lost at n (Gone (Some seen)) done are = subst (All (WellCall P)) (sym are) (look_two path lost at n (Saw seen) Missing)
  well_fetch path lost at n (Part seen got) done are = subst (All (WellCall P)) (sym are) (look_two path lost at n (Saw seen) (Bytes got))
  well_fetch path lost at n (Whole seen bytes) done are = subst (All (WellCall P)) (sym are) (look_two path lost at n (Saw seen) (Bytes (length bytes)))

  pub well_cell : (task : Task) (reading : CellReading) (done : List FolderDone) → AreCellCalls task reading done → All (WellCall P) done
  well_cell (Known known) reading done are = subst (All (WellCall P)) (sym are) (All-nil (WellCall P))
  well_cell (Fetch path lost at n) reading done are = well_fetch path lost at n reading done are

  pub well_column : (tasks : List Task) (readings : List CellReading) (done : List FolderDone) → AreColumnCalls tasks readings done → All (WellCall P) done
  well_column [] readings done are = subst (All (WellCall P)) (sym are) (All-nil (WellCall P))
  well_column (task ∷ tasks) [] done are = absurd are
  well_column (task ∷ tasks) (reading ∷ readings) done are =
      subst (All (WellCall P)) (sym are.2) (All-append (WellCall P) are.0 are.1 (well_cell task reading are.0 are.3) (well_column tasks readings are.1 are.4))

  -- cells of a column were read
  pub makes_column_reading : (tasks : List Task) (readings : List CellReading) {old new : FolderView} → ReadsBy (AreColumnCalls tasks readings) old new → FolderMakes (WellCall P) old new
  makes_column_reading tasks readings read = makes_reading (WellCall P) read.done (well_column tasks readings read.done read.are) read.goes_on read.tree

-- ---- the names that are not touched

pub others_same : (path : List ℕ) (old new : Tree) → new ≡ old → OthersStay path old new
others_same path old new same name apart = ap (λ (t : Tree). file_of t name) same

pub others_then : (path : List ℕ) (old mid new : Tree) → OthersStay path old mid → OthersStay path mid new → OthersStay path old new
others_then path old mid new one two name apart = two name apart ∙ one name apart

pub others_changed : (path : List ℕ) (step : File → File → Type 0) (old new : Tree) → ChangesFile path step old new → OthersStay path old new
others_changed path step old new change name apart = by (file_of old path) refl
  where
    by : (o : Option File) → file_of old path ≡ o → file_of new name ≡ file_of old name
    by None is = ap (λ (t : Tree). file_of t name) (change.none is)
    by (Some before) is = let to = change.some before is in
        ap (λ (t : Tree). file_of t name) to.2 ∙ set_other old path to.0 name (λ same. apart false (same ∙ sym (own_name path)))

pub others_made : (path : List ℕ) (stamp : Stamp) (old new : Tree) → new ≡ made path stamp old → OthersStay path old new
others_made path stamp old new is name apart = ap (λ (t : Tree). file_of t name) is ∙ by (file_of old path)
  where
    by : (there : Option File) → file_of (or_added there path (record { stamp = stamp; bytes = [] }) old) name ≡ file_of old name
    by None = set_other old path _ name (λ same. apart false (same ∙ sym (own_name path)))
    by (Some file) = refl

pub others_renamed : (path : List ℕ) (old new : Tree) → new ≡ renamed (path_of path true) (path_of path false) old → OthersStay path old new
others_renamed path old new is name apart = ap (λ (t : Tree). file_of t name) is ∙ by (file_of old (path_of path true))
  where
    by : (there : Option File) → file_of (moved there (path_of path true) (path_of path false) old) name ≡ file_of old name
    by None = refl
    by (Some file) = set_other (map.remove old (path_of path true)) (path_of path false) file name (apart false) ∙ gone_other old (path_of path true) name (apart true)
