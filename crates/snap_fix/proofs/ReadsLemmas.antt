-- The calls by which a folder is read in a fix, one after another.
use Rattle.std.proofs.Common.{◌≡◌, inl, inr, ℕ, suc, ◌<◌, List, [], ◌∷◌, ◌++◌, All, length, get_or, filter, if◌then◌else◌, Bool, true, false, refl, sym, ap, ap₂, ◌∙◌, subst, arith, append_assoc}
use Rattle.std.proofs.lemmas.Bool.{cases_lt}
use Rattle.std.proofs.lemmas.List.{append-nil}
use Rattle.std.proofs.lemmas.List.Elements.{All-head, All-tail, filter-append}
use Rattle.disk_model.specs.Folder.{FolderView, FolderCall, FolderDone}
use Rattle.disk_model.specs.declared.answer.Answer.TheVariants.{Failed}
use Rattle.disk_model.proofs.CountLemmas.{counts_none}
use Rattle.snap_report.specs.Answer.{is_reading}
use Rattle.stripe_reader.specs.Column.{ReadsBy}
use Rattle.stripe_reader.specs.Columns.{folder_at}
use Rattle.stripe_reader.specs.FolderCalls.{AreColumnCalls}
use Rattle.stripe_reader.specs.Reading.{CellReading, NoBlock, Task, tasks_at}
use Rattle.stripe_reader.specs.Slot.{kept}
use Rattle.stripe_reader.specs.Starts.{StartsValue}
use Rattle.stripe_reader.proofs.FolderLemmas.{goes_on_then}
use Rattle.file_restorer.specs.Breaking.{FailsInColumn, FolderFails}
use Rattle.stripe_examiner.specs.Facts.{StripeFacts, slot_of}
use Rattle.stripe_examiner.specs.Looking.{facts_at, numbers_of}
use Rattle.repair_scope.specs.Plan.{FixPlan}
use Rattle.snap_fix.specs.Reads.{AreReadBy, FolderReads, IsQuiet, is_read}
use Rattle.file_restorer.specs.State.{FolderMakesBy, KeepsStarts, WellCall}
use Rattle.file_restorer.proofs.FolderCallLemmas.{well_column}
use Rattle.snap_fix.proofs.StartsKeptLemmas.{keeps_starts_same, keeps_starts_then}

-- ---- one after another

pub reads_then : (P Q B : List FolderDone → Type 0) {old mid new : FolderView} → ((first more : List FolderDone) → P first → Q more → B (first ++ more))
    → FolderReads P old mid → FolderReads Q mid new → FolderReads B old new
reads_then P Q B {old = old} {mid = mid} {new = new} joins one two = record {
  done = one.done ++ two.done;
  goes_on = goes_on_then old mid new one.done two.done one.goes_on two.goes_on;
  are = subst B (sym (filter-append is_read one.done two.done)) (joins (filter is_read one.done) (filter is_read two.done) one.are two.are);
}

-- and then none reads
pub reads_on : (P : List FolderDone → Type 0) {old mid new : FolderView} → FolderReads P old mid → FolderReads IsQuiet mid new → FolderReads P old new
reads_on P one two = reads_then P IsQuiet P (λ first more is none. subst P (sym (ap (λ (calls : List FolderDone). first ++ calls) none ∙ append-nil first)) is) one two

pub quiet_then : {old mid new : FolderView} → FolderReads IsQuiet old mid → FolderReads IsQuiet mid new → FolderReads IsQuiet old new
quiet_then one two = reads_on IsQuiet one two

pub quiet_none : (v : FolderView) → FolderReads IsQuiet v v
quiet_none v = record {
  done = [];
  goes_on = record { later = omega arith; writes = counts_none v.writes; keeps = refl; closed = refl; tells = refl; calls = record { told = λ t. t; more = λ t. sym (append-nil v.calls) } };
  are = refl;
}

-- ---- calls that write, and calls that read

none_read : (P : FolderCall → Type 0) → ((call : FolderCall) → P call → is_reading call ≡ false) → (done : List FolderDone) → All (WellCall P) done → filter is_read done ≡ []
none_read P writes [] all = refl
none_read P writes (one ∷ done) all =
    ap (λ (reading : Bool). if reading then one ∷ filter is_read done else filter is_read done) (writes one.call (All-head (WellCall P) one done all).0)
    ∙ none_read P writes done (All-tail (WellCall P) one done all)

all_read : (done : List FolderDone) → All (WellCall (λ (call : FolderCall). is_reading call ≡ true)) done → filter is_read done ≡ done
all_read [] all = refl
all_read (one ∷ done) all =
    let Reads : FolderDone → Type 0 = WellCall (λ (call : FolderCall). is_reading call ≡ true) in
    ap (λ (reading : Bool). if reading then one ∷ filter is_read done else filter is_read done) (All-head Reads one done all).0
    ∙ ap (λ (calls : List FolderDone). one ∷ calls) (all_read done (All-tail Reads one done all))

pub quiet_makes : (B : List FolderDone → Type 0) (P : FolderCall → Type 0) → ((call : FolderCall) → P call → is_reading call ≡ false) → ((done : List FolderDone) → B done → All (WellCall P) done)
    → {old new : FolderView} → FolderMakesBy B old new → FolderReads IsQuiet old new
quiet_makes B P writes each makes = record { done = makes.done; goes_on = makes.goes_on; are = none_read P writes makes.done (each makes.done makes.are) }

-- calls up to one that failed, which does not read
pub quiet_fails : (P : FolderCall → Type 0) → ((call : FolderCall) → P call → is_reading call ≡ false) → {old new : FolderView} → FolderFails P old new → FolderReads IsQuiet old new
quiet_fails P writes one = record {
  done = one.done;
  goes_on = one.goes_on;
  are =
      let last : FolderDone = record { call = one.fails.call; answer = Failed } in
      ap (filter is_read) one.fails.done_is ∙ filter-append is_read one.fails.front (last ∷ [])
      ∙ ap₂ (λ (a b : List FolderDone). a ++ b) (none_read P writes one.fails.front one.fails.each)
      (ap (λ (reading : Bool). if reading then last ∷ [] else []) one.fails.writes);
}

pub quiet_in_column : (disk columns : ℕ) (B : ℕ → List FolderDone → Type 0) (P : ℕ → FolderCall → Type 0) (olds news : List FolderView)
    → ((d : ℕ) (call : FolderCall) → P d call → is_reading call ≡ false) → ((d : ℕ) (done : List FolderDone) → B d done → All (WellCall (P d)) done)
    → FailsInColumn disk columns B P olds news → (d : ℕ) → d < columns → FolderReads IsQuiet (folder_at olds d) (folder_at news d)
quiet_in_column disk columns B P olds news writes each one d below = elim (cases_lt d disk) [
  | inl near ↦ quiet_makes (B d) (P d) (writes d) (each d) (one.before d near)
  | inr from ↦ elim (cases_lt disk d) [
    | inl past ↦ subst (FolderReads IsQuiet (folder_at olds d)) (sym (one.behind d past below)) (quiet_none (folder_at olds d))
    | inr not_past ↦
        let here : disk ≡ d = omega (arith, from, not_past) in
        subst (λ (k : ℕ). FolderReads IsQuiet (folder_at olds k) (folder_at news k)) here (quiet_fails (P disk) (writes disk) one.here)
  ]
]

-- cells of a column were read
pub column_reads : (tasks : List Task) (readings : List CellReading) {old new : FolderView} → ReadsBy (AreColumnCalls tasks readings) old new → FolderReads (AreColumnCalls tasks readings) old new
column_reads tasks readings read = record {
  done = read.done;
  goes_on = read.goes_on;
  are = subst (AreColumnCalls tasks readings) (sym (all_read read.done (well_column (λ (call : FolderCall). is_reading call ≡ true) (λ path lost. refl) (λ path lost at n. refl) tasks readings read.done read.are))) read.are;
}

-- ---- stripes, and then others

-- from where files stood before
read_since : (plan : FixPlan) (before begun ended : StartsValue) (d : ℕ) (stripes : List StripeFacts) (done : List FolderDone) → KeepsStarts before begun
    → AreReadBy plan begun ended d stripes done → AreReadBy plan before ended d stripes done
read_since plan before begun ended d [] done kept (stood, none) = (keeps_starts_then before begun ended kept stood, none)
read_since plan before begun ended d (facts ∷ stripes) done kept (starts, first, rest, stood, is, its, more) = (starts, first, rest, keeps_starts_then before begun starts kept stood, is, its, more)

-- to where they stand later
pub read_until : (plan : FixPlan) (begun ended after : StartsValue) (d : ℕ) (stripes : List StripeFacts) (done : List FolderDone) → KeepsStarts ended after
    → AreReadBy plan begun ended d stripes done → AreReadBy plan begun after d stripes done
read_until plan begun ended after d [] done kept (stood, none) = (keeps_starts_then begun ended after stood kept, none)
read_until plan begun ended after d (facts ∷ stripes) done kept (starts, first, rest, stood, is, its, more) =
    (starts, first, rest, stood, is, its, read_until plan starts ended after d stripes rest kept more)

pub read_append : (plan : FixPlan) (begun mid ended : StartsValue) (d : ℕ) (xs ys : List StripeFacts) (one two : List FolderDone)
    → AreReadBy plan begun mid d xs one → AreReadBy plan mid ended d ys two → AreReadBy plan begun ended d (xs ++ ys) (one ++ two)
read_append plan begun mid ended d [] ys one two (stood, none) later =
    subst (AreReadBy plan begun ended d ys) (sym (ap (λ (calls : List FolderDone). calls ++ two) none)) (read_since plan begun mid ended d ys two stood later)
read_append plan begun mid ended d (facts ∷ xs) ys one two (starts, first, rest, stood, is, its, more) later =
    (starts, first, rest ++ two, stood, ap (λ (calls : List FolderDone). calls ++ two) is ∙ append_assoc first rest two, its, read_append plan starts mid ended d xs ys rest two more later)

-- the calls of a window are those of its stripes that were looked at, and of the others
pub read_window_as : (plan : FixPlan) (starts : StartsValue) (d : ℕ) (ys : List StripeFacts) (behind : List ℕ) (readings : List CellReading) (done : List FolderDone)
    → AreColumnCalls (tasks_at plan.table starts d (numbers_of ys ++ behind)) readings done
    → ((k : ℕ) → k < length ys → slot_of (facts_at ys k) d ≡ kept plan.table.shape (get_or readings k NoBlock))
    → (first : List FolderDone) × (rest : List FolderDone) × (more : List CellReading) × (done ≡ first ++ rest)
    × AreReadBy plan starts starts d ys first × AreColumnCalls (tasks_at plan.table starts d behind) more rest
read_window_as plan starts d [] behind readings done are slots = ([], done, readings, refl, (keeps_starts_same starts, refl), are)
read_window_as plan starts d (facts ∷ ys) behind [] done are slots = absurd are
read_window_as plan starts d (facts ∷ ys) behind (reading ∷ readings) done (one, others, is, its, later) slots =
    let then_read = read_window_as plan starts d ys behind readings others later (λ k below. slots (suc k) (omega (arith, below))) in
    let first = then_read.0 in
    let rest = then_read.1 in (
      one ++ first,
      rest,
      then_read.2,
      is ∙ ap (λ (calls : List FolderDone). one ++ calls) then_read.3 ∙ sym (append_assoc one first rest),
      (starts, one, first, keeps_starts_same starts, refl, record { reading = reading; are = its; is_kept = slots 0 (omega arith) }, then_read.4),
      then_read.5,
    )

pub all_looked : (plan : FixPlan) (starts : StartsValue) (d : ℕ) (ys : List StripeFacts) (readings : List CellReading) (done : List FolderDone)
    → AreColumnCalls (tasks_at plan.table starts d (numbers_of ys ++ [])) readings done
    → ((k : ℕ) → k < length ys → slot_of (facts_at ys k) d ≡ kept plan.table.shape (get_or readings k NoBlock))
    → AreReadBy plan starts starts d ys done
all_looked plan starts d ys readings done are slots =
    let window = read_window_as plan starts d ys [] readings done are slots in
    subst (AreReadBy plan starts starts d ys) (sym (window.3 ∙ ap (λ (calls : List FolderDone). window.0 ++ calls) window.5 ∙ append-nil window.0)) window.4

pub reads_wider : (P Q : List FolderDone → Type 0) {old new : FolderView} → ((done : List FolderDone) → P done → Q done) → FolderReads P old new → FolderReads Q old new
reads_wider P Q wider one = record { done = one.done; goes_on = one.goes_on; are = wider (filter is_read one.done) one.are }

pub stripes_unread : (plan : FixPlan) (starts : StartsValue) (d : ℕ) (v : FolderView) → FolderReads (AreReadBy plan starts starts d []) v v
stripes_unread plan starts d v = reads_wider IsQuiet (AreReadBy plan starts starts d []) (λ done none. (keeps_starts_same starts, none)) (quiet_none v)
