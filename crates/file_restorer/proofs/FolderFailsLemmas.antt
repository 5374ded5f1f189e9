-- Calls of a folder of which the last one failed: behind others, of a wider kind, and where a fix breaks off at one of several columns.
use Rattle.std.proofs.Common.{◌≡◌, inl, inr, ℕ, ◌<◌, ◌||◌, cond, List, [], ◌∷◌, ◌++◌, All, Bool, true, false, IsTrue, get_or, refl, sym, ap, ap₂, ◌∙◌, subst, arith, append_assoc}
use Rattle.std.specs.List.{list_any}
use Rattle.std.proofs.lemmas.Bool.{cases_lt}
use Rattle.std.proofs.lemmas.List.{map-append}
use Rattle.std.proofs.lemmas.List.Elements.{All-append, All-cons, All-nil}
use Rattle.std.proofs.lemmas.List.Folds.{list_any-append}
use Rattle.disk_model.specs.Answer.{is_missing}
use Rattle.disk_model.specs.Folder.{FolderView, FolderCall, FolderDone, IsFolder}
use Rattle.disk_model.specs.declared.answer.Answer.TheVariants.{Failed}
use Rattle.disk_model.specs.declared.meta.Stamp.{Stamp}
use Rattle.disk_model.specs.Stopped.{MayBeLeft}
use Rattle.disk_model.specs.Writing.{IsFolderWrite}
use Rattle.disk_model.proofs.AnsweredLemmas.{write_is_left, left_then, left_is_tree}
use Rattle.snap_report.specs.Answer.{Gained, broke_folder, is_reading}
use Rattle.stripe_reader.specs.Columns.{folder_at}
use Rattle.stripe_reader.proofs.FolderLemmas.{goes_on_then}
use Rattle.file_restorer.specs.Breaking.{FailsInColumn, FolderFails, StepFails}
use Rattle.file_restorer.specs.State.{AnyCall, WellCall, FolderMakes, StepMakes, calls_made}
use Rattle.file_restorer.proofs.FolderCallLemmas.{makes_any, makes_each, makes_none, well_wider}

-- ---- of one folder

-- one call failed
pub fails_one : (P : FolderCall → Type 0) (call : FolderCall) (old new : FolderView) → P call → is_reading call ≡ false → IsFolder new → IsFolderWrite call Failed old new
    → StepFails P (call ∷ []) old new
fails_one P call old new is writes formed wrote = record {
  fails = record {
    rose = wrote.called.cause cc;
    done = record { call = call; answer = Failed } ∷ [];
    fails = record { front = []; each = All-nil (WellCall P); call = call; is = is; writes = writes; done_is = refl };
    goes_on = wrote.called.goes_on;
    left = λ told tree. write_is_left call Failed old new told formed wrote;
  };
  found = refl;
  rest = [];
  calls_are = refl;
}

-- after others that went well
pub fails_then : (P : FolderCall → Type 0) (old mid new : FolderView) → FolderMakes (WellCall P) old mid → FolderFails P mid new → FolderFails P old new
fails_then P old mid new one two =
    let last = two.fails in
    record {
      rose = let later = one.goes_on.later in let rose = two.rose in omega arith;
      done = one.done ++ two.done;
      fails = record {
        front = one.done ++ last.front;
        each = All-append (WellCall P) one.done last.front one.each last.each;
        call = last.call;
        is = last.is;
        writes = last.writes;
        done_is = ap (λ (calls : List FolderDone). one.done ++ calls) last.done_is ∙ sym (append_assoc one.done last.front (record { call = last.call; answer = Failed } ∷ []));
      };
      goes_on = goes_on_then old mid new one.done two.done one.goes_on two.goes_on;
      left = λ told is.
          let first : MayBeLeft old.keeps one.done old.tree mid.tree = one.left told is in
          let more = two.left (one.goes_on.tells ∙ told) (left_is_tree old.keeps one.done old.tree mid.tree is first) in
          left_then old.keeps one.done two.done old.tree mid.tree new.tree first (subst (λ (keeps : Stamp → Bool). MayBeLeft keeps two.done mid.tree new.tree) one.goes_on.keeps more);
    }

-- after the calls of a step of which each found its file
pub step_fails_then : (P : FolderCall → Type 0) (ones others : List FolderCall) (old mid new : FolderView) → StepMakes P ones false old mid → StepFails P others mid new
    → StepFails P (ones ++ others) old new
step_fails_then P ones others old mid new one two =
    let last = two.fails.fails in
    let behind = last.call ∷ two.rest in
    record {
      fails = record {
        rose = let later = one.goes_on.later in let rose = two.fails.rose in omega (arith, later, rose);
        done = one.done ++ two.fails.done;
        fails = record {
          front = one.done ++ last.front;
          each = All-append (WellCall P) one.done last.front one.are.each last.each;
          call = last.call;
          is = last.is;
          writes = last.writes;
          done_is = ap (λ (done : List FolderDone). one.done ++ done) last.done_is ∙ sym (append_assoc one.done last.front (record { call = last.call; answer = Failed } ∷ []));
        };
        goes_on = goes_on_then old mid new one.done two.fails.done one.goes_on two.fails.goes_on;
        left = λ told is.
            let first : MayBeLeft old.keeps one.done old.tree mid.tree = one.left told is in
            let more = two.fails.left (one.goes_on.tells ∙ told) (left_is_tree old.keeps one.done old.tree mid.tree is first) in
            left_then old.keeps one.done two.fails.done old.tree mid.tree new.tree first (subst (λ (keeps : Stamp → Bool). MayBeLeft keeps two.fails.done mid.tree new.tree) one.goes_on.keeps more);
      };
      found = list_any-append (λ (done : FolderDone). is_missing done.answer) one.done last.front ∙ ap₂ (λ (a b : Bool). a || b) one.are.found two.found;
      rest = two.rest;
      calls_are = ap₂ (λ (a b : List FolderCall). a ++ b) (sym (one.are.just refl)) two.calls_are
          ∙ sym (append_assoc (calls_made one.done) (calls_made last.front) behind)
          ∙ ap (λ (calls : List FolderCall). calls ++ behind) (sym (map-append (λ (done : FolderDone). done.call) one.done last.front));
    }

-- before calls that were not made
pub step_fails_before : (P : FolderCall → Type 0) (calls more : List FolderCall) {old new : FolderView} → StepFails P calls old new → StepFails P (calls ++ more) old new
step_fails_before P calls more one = record {
  fails = one.fails;
  found = one.found;
  rest = one.rest ++ more;
  calls_are = ap (λ (all : List FolderCall). all ++ more) one.calls_are ∙ append_assoc (calls_made one.fails.fails.front) (one.fails.fails.call ∷ one.rest) more;
}

-- of a wider kind
pub fails_wider : (P Q : FolderCall → Type 0) {old new : FolderView} → ((call : FolderCall) → P call → Q call) → FolderFails P old new → FolderFails Q old new
fails_wider P Q wider one =
    let last = one.fails in
    record {
      rose = one.rose;
      done = one.done;
      fails = record {
        front = last.front;
        each = λ k none within. well_wider P Q wider (get_or last.front k none) (last.each k none within);
        call = last.call;
        is = wider last.call last.is;
        writes = last.writes;
        done_is = last.done_is;
      };
      goes_on = one.goes_on;
      left = one.left;
    }

pub step_fails_wider : (P Q : FolderCall → Type 0) (calls : List FolderCall) {old new : FolderView} → ((call : FolderCall) → P call → Q call) → StepFails P calls old new → StepFails Q calls old new
step_fails_wider P Q calls wider one =
    let last = one.fails.fails in
    record {
      fails = record {
        rose = one.fails.rose;
        done = one.fails.done;
        fails = record {
          front = last.front;
          each = λ k none within. well_wider P Q wider (get_or last.front k none) (last.each k none within);
          call = last.call;
          is = wider last.call last.is;
          writes = last.writes;
          done_is = last.done_is;
        };
        goes_on = one.fails.goes_on;
        left = one.fails.left;
      };
      found = one.found;
      rest = one.rest;
      calls_are = one.calls_are;
    }

-- they are such calls all the same
pub fails_any : (P : FolderCall → Type 0) {old new : FolderView} → FolderFails P old new → FolderMakes (AnyCall P) old new
fails_any P one =
    let last = one.fails in
    record {
      done = one.done;
      each = subst (All (AnyCall P)) (sym last.done_is)
          (All-append (AnyCall P) last.front (record { call = last.call; answer = Failed } ∷ []) (λ k none within. (last.each k none within).0)
          (All-cons (AnyCall P) (record { call = last.call; answer = Failed }) [] last.is (All-nil (AnyCall P))));
      goes_on = one.goes_on;
      left = one.left;
    }

any_last : (front : List FolderDone) (call : FolderCall) → is_reading call ≡ false → IsTrue (list_any broke_folder (front ++ record { call = call; answer = Failed } ∷ []))
any_last [] call writes = or_left (broke_folder (record { call = call; answer = Failed })) false (ap (λ (reads : Bool). cond reads false true) writes)
  where
    or_left : (a b : Bool) → a ≡ true → IsTrue (a || b)
    or_left true b is = cc
    or_left false b is = absurd cc
any_last (done ∷ front) call writes = or_right (broke_folder done) (list_any broke_folder (front ++ record { call = call; answer = Failed } ∷ [])) (any_last front call writes)
  where
    or_right : (a b : Bool) → IsTrue b → IsTrue (a || b)
    or_right true b is = cc
    or_right false b is = is

-- and one of them failed that does not read
pub fails_gained : (P : FolderCall → Type 0) {old new : FolderView} → FolderFails P old new → IsTrue new.tells_calls → Gained broke_folder old.calls new.calls
fails_gained P one tells = record {
  gained = one.done;
  now_is = one.goes_on.calls.more tells;
  one = subst (λ (calls : List FolderDone). IsTrue (list_any broke_folder calls)) (sym one.fails.done_is) (any_last one.fails.front one.fails.call one.fails.writes);
}

-- ---- of the folders of all columns

module _ (disk columns : ℕ) (Before : ℕ → List FolderDone → Type 0) (P : ℕ → FolderCall → Type 0) (olds news : List FolderView)
    (one : FailsInColumn disk columns Before P olds news) where
  pub in_column_any : ((d : ℕ) (done : List FolderDone) → Before d done → All (WellCall (P d)) done) → (d : ℕ) → d < columns
      → FolderMakes (AnyCall (P d)) (folder_at olds d) (folder_at news d)
  in_column_any well d below = elim (cases_lt d disk) [
    | inl near ↦ makes_any (P d) (makes_each (Before d) (WellCall (P d)) (well d) (one.before d near))
    | inr from ↦ elim (cases_lt disk d) [
      | inl past ↦ subst (FolderMakes (AnyCall (P d)) (folder_at olds d)) (sym (one.behind d past below)) (makes_none (AnyCall (P d)) (folder_at olds d))
      | inr not_past ↦
          let here : disk ≡ d = omega (arith, from, not_past) in
          subst (λ (k : ℕ). FolderMakes (AnyCall (P k)) (folder_at olds k) (folder_at news k)) here (fails_any (P disk) one.here)
    ]
  ]
