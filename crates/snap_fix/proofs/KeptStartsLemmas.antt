-- Which calls the folders get for some stripes and then for others, and where these break off.
use Rattle.std.proofs.Common.{◌≡◌, inl, inr, ℕ, ◌<◌, List, [], ◌∷◌, ◌++◌, All, length, get_or, filter, not, if◌then◌else◌, Bool, true, false, refl, sym, ap, ap₂, ◌∙◌, subst, append_assoc}
use Rattle.std.specs.List.{Contains}
use Rattle.std.proofs.lemmas.List.{append-nil}
use Rattle.std.proofs.lemmas.List.Elements.{All-append, All-head, All-nil, All-tail, Contains-append_left, Contains-append_right, filter-append}
use Rattle.disk_model.specs.Folder.{FolderView, FolderCall, FolderDone, ListFiles, Look, ReadAt, Make, WriteAt, SetSize, SetStamp, Rename}
use Rattle.snap_report.specs.Answer.{is_reading}
use Rattle.snap_report.specs.declared.answer.RunFault.{RunFault}
use Rattle.snap_report.specs.declared.answer.RunFault.TheVariants.{Folder, Vault, Memory}
use Rattle.stripe_reader.specs.Columns.{folder_at}
use Rattle.stripe_reader.specs.Starts.{StartsValue}
use Rattle.file_restorer.specs.declared.state.FileState.{FileState}
use Rattle.snap_fix.specs.FixRun.{BreaksFolders}
use Rattle.snap_fix.specs.Fixing.{BreaksCells}
use Rattle.snap_fix.specs.Mended.{Mended}
use Rattle.repair_scope.specs.Plan.{FixPlan}
use Rattle.file_restorer.specs.Order.{is_writing}
use Rattle.snap_fix.specs.Reads.{FolderReads, IsQuiet}
use Rattle.file_restorer.specs.State.{AnyCall, WellCall, FolderMakes, FolderMakesBy, KeepsStarts}
use Rattle.snap_fix.specs.Underway.{AreAllMendCalls, AreFixable, AreMendCalls, AreStripeCalls, AreUnderway, IsMendCall, IsStripeCall}
use Rattle.file_restorer.proofs.FolderCallLemmas.{makes_any_wider, makes_by_none, makes_by_then, makes_by_wider, makes_each, makes_then, well_wider}
use Rattle.file_restorer.proofs.FolderFailsLemmas.{in_column_any}
use Rattle.file_restorer.proofs.OrderLemmas.{none_write}
use Rattle.snap_fix.proofs.ReadsLemmas.{quiet_in_column, quiet_makes}
use Rattle.snap_fix.proofs.StartsKeptLemmas.{keeps_starts_same, keeps_starts_then, mend_call_wider, mend_calls_before}

-- ---- which calls

-- those for the cells of some stripes, and then of others, whose files are looked for by later starts
cells_then : (plan : FixPlan) (before after : StartsValue) (d : ℕ) → KeepsStarts before after → (xs ys : List Mended) (one two : List FolderDone)
    → AreAllMendCalls plan before d xs one → AreAllMendCalls plan after d ys two → AreAllMendCalls plan before d (xs ++ ys) (one ++ two)
cells_then plan before after d stood [] [] one two are later =
    ap₂ (λ (a b : List FolderDone). a ++ b) are later
cells_then plan before after d stood [] (mended ∷ ys) one two are (first, rest, two_is, its, more) = (
  first,
  rest,
  ap (λ (calls : List FolderDone). calls ++ two) are ∙ two_is,
  mend_calls_before plan before after d mended stood first its,
  cells_then plan before after d stood [] ys [] rest refl more,
)
cells_then plan before after d stood (mended ∷ xs) ys one two (first, rest, one_is, its, more) later = (
  first,
  rest ++ two,
  ap (λ (calls : List FolderDone). calls ++ two) one_is ∙ append_assoc first rest two,
  its,
  cells_then plan before after d stood xs ys rest two more later,
)

module _ (plan : FixPlan) (before after : StartsValue) (stood : KeepsStarts before after) (d : ℕ) (xs ys : List Mended) where
  stripe_call_wider : (zs : List Mended) (from : StartsValue) → KeepsStarts before from → ((mended : Mended) → Contains zs mended → Contains (xs ++ ys) mended)
      → (call : FolderCall) → IsStripeCall plan from d zs call → IsStripeCall plan before d (xs ++ ys) call
  stripe_call_wider zs from kept more call (inl reads) = inl reads
  stripe_call_wider zs from kept more call (inr mends) = inr (mend_call_wider plan before from d zs (xs ++ ys) kept more call mends)

  stripes_then : (one two : List FolderDone) → AreStripeCalls plan before d xs one → AreStripeCalls plan after d ys two → AreStripeCalls plan before d (xs ++ ys) (one ++ two)
  stripes_then one two are later =
      let Call = IsStripeCall plan before d (xs ++ ys) in
      record {
        each = All-append (WellCall Call) one two
            (λ k none within. well_wider (IsStripeCall plan before d xs) Call
            (stripe_call_wider xs before (keeps_starts_same before) (Contains-append_left xs ys)) (get_or one k none) (are.each k none within))
            (λ k none within. well_wider (IsStripeCall plan after d ys) Call
            (stripe_call_wider ys after stood (Contains-append_right xs ys)) (get_or two k none) (later.each k none within));
        writes = subst (AreAllMendCalls plan before d (xs ++ ys)) (sym (filter-append is_writing one two))
            (cells_then plan before after d stood xs ys (filter is_writing one) (filter is_writing two) are.writes later.writes);
      }

  -- none of the calls failed but readings
  pub well_then : {old mid new : FolderView} → FolderMakesBy (AreStripeCalls plan before d xs) old mid → FolderMakesBy (AreStripeCalls plan after d ys) mid new
      → FolderMakesBy (AreStripeCalls plan before d (xs ++ ys)) old new
  well_then one two = makes_by_then (AreStripeCalls plan before d xs) (AreStripeCalls plan after d ys) (AreStripeCalls plan before d (xs ++ ys)) stripes_then one two

-- only cells were written, of some stripes and then of one more
pub cells_more : (plan : FixPlan) (before after : StartsValue) → KeepsStarts before after → (d : ℕ) (xs : List Mended) (mended : Mended) {old mid new : FolderView}
    → FolderMakesBy (AreAllMendCalls plan before d xs) old mid → FolderMakesBy (AreMendCalls plan after d mended) mid new → FolderMakesBy (AreAllMendCalls plan before d (xs ++ mended ∷ [])) old new
cells_more plan before after stood d xs mended first next =
    makes_by_then (AreAllMendCalls plan before d xs) (AreMendCalls plan after d mended) (AreAllMendCalls plan before d (xs ++ mended ∷ []))
    (λ one two are its. cells_then plan before after d stood xs (mended ∷ []) one two are (two, [], sym (append-nil two), its, refl)) first next

-- no call at all
pub no_stripe_calls : (plan : FixPlan) (starts : StartsValue) (d : ℕ) → AreStripeCalls plan starts d [] []
no_stripe_calls plan starts d = record { each = All-nil (WellCall (IsStripeCall plan starts d [])); writes = refl }

-- a call that writes a cell does not read
pub mend_writes : (plan : FixPlan) (starts : StartsValue) (d : ℕ) (stripes : List Mended) (call : FolderCall) → IsMendCall plan starts d stripes call → is_reading call ≡ false
mend_writes plan starts d stripes ListFiles is = refl
mend_writes plan starts d stripes (Look path lost) is = absurd is
mend_writes plan starts d stripes (ReadAt path lost at n) is = absurd is
mend_writes plan starts d stripes (Make path) is = refl
mend_writes plan starts d stripes (WriteAt path at bytes) is = refl
mend_writes plan starts d stripes (SetSize path size) is = refl
mend_writes plan starts d stripes (SetStamp path stamp) is = refl
mend_writes plan starts d stripes (Rename path lost) is = refl

all_write : (P : FolderCall → Type 0) → ((call : FolderCall) → P call → is_reading call ≡ false) → (done : List FolderDone) → All (WellCall P) done → filter is_writing done ≡ done
all_write P writes [] all = refl
all_write P writes (one ∷ done) all =
    ap (λ (reading : Bool). if not reading then one ∷ filter is_writing done else filter is_writing done) (writes one.call (All-head (WellCall P) one done all).0)
    ∙ ap (λ (calls : List FolderDone). one ∷ calls) (all_write P writes done (All-tail (WellCall P) one done all))

-- the calls for the cell of one stripe
one_stripe : (plan : FixPlan) (starts : StartsValue) (d : ℕ) (mended : Mended) (done : List FolderDone) → AreMendCalls plan starts d mended done → AreStripeCalls plan starts d (mended ∷ []) done
one_stripe plan starts d mended done are =
    let Call = IsMendCall plan starts d (mended ∷ []) in
    record {
      each = λ k none within. well_wider Call (IsStripeCall plan starts d (mended ∷ [])) (λ call is. inr is) (get_or done k none) (are.are.each k none within);
      writes = (done, [], all_write Call (mend_writes plan starts d (mended ∷ [])) done are.are.each ∙ sym (append-nil done), are, refl);
    }

pub stripe_makes : (plan : FixPlan) (starts : StartsValue) (d : ℕ) (mended : Mended) {old new : FolderView} → FolderMakesBy (AreMendCalls plan starts d mended) old new
    → FolderMakesBy (AreStripeCalls plan starts d (mended ∷ [])) old new
stripe_makes plan starts d mended makes = makes_by_wider (AreMendCalls plan starts d mended) (AreStripeCalls plan starts d (mended ∷ [])) (one_stripe plan starts d mended) makes

-- calls that read a folder are for no stripe in particular
pub reads_makes : (plan : FixPlan) (starts : StartsValue) (d : ℕ) {old new : FolderView} → FolderMakes (WellCall (λ (call : FolderCall). is_reading call ≡ true)) old new
    → FolderMakesBy (AreStripeCalls plan starts d []) old new
reads_makes plan starts d makes = record {
  done = makes.done;
  are = record {
    each = λ k none within. well_wider (λ (call : FolderCall). is_reading call ≡ true) (IsStripeCall plan starts d []) (λ call is. inl is) (get_or makes.done k none) (makes.each k none within);
    writes = none_write makes.done (λ k none within. (makes.each k none within).0);
  };
  goes_on = makes.goes_on;
  left = makes.left;
}

-- they are such calls all the same
pub stripes_any : (plan : FixPlan) (starts : StartsValue) (d : ℕ) (stripes : List Mended) {old new : FolderView} → FolderMakesBy (AreStripeCalls plan starts d stripes) old new
    → FolderMakes (AnyCall (IsStripeCall plan starts d stripes)) old new
stripes_any plan starts d stripes makes =
    makes_each (AreStripeCalls plan starts d stripes) (AnyCall (IsStripeCall plan starts d stripes)) (λ done are k none within. (are.each k none within).0) makes

-- ---- where they break off

-- the calls for the last stripe are calls for it all the same
pub cells_any : (fault : RunFault) (plan : FixPlan) (last : Mended) (starts : StartsValue) (states : List (List FileState))
    (olds news : List FolderView) → BreaksCells fault plan last starts states olds news
    → (d : ℕ) → d < length plan.table.columns
    → FolderMakes (AnyCall (IsMendCall plan starts d (last ∷ []))) (folder_at olds d) (folder_at news d)
cells_any (Folder disk) plan last starts states olds news one d below =
    in_column_any disk (length plan.table.columns) (λ (k : ℕ). AreMendCalls plan starts k last) (λ (k : ℕ). IsMendCall plan starts k (last ∷ [])) olds news one.in_column
    (λ k done are. are.are.each) d below
cells_any Vault plan last starts states olds news one d below =
    makes_each (AreMendCalls plan starts d last) (AnyCall (IsMendCall plan starts d (last ∷ []))) (λ done are k none within. (are.are.each k none within).0) (one.makes d below)
cells_any Memory plan last starts states olds news one d below = absurd one

module _ (plan : FixPlan) (fault : RunFault) where
  -- in the only stripe
  pub files_one : (starts : StartsValue) (states : List (List FileState)) (last : Mended) (olds news : List FolderView)
      → BreaksCells fault plan last starts states olds news → BreaksFolders plan starts states fault [] last olds news
  files_one starts states last olds news breaks = record {
    starts = starts;
    stood = keeps_starts_same starts;
    states = states;
    mids = olds;
    makes = λ d below. makes_by_none (AreStripeCalls plan starts d []) (folder_at olds d) (no_stripe_calls plan starts d);
    underway = λ before firsts fixable is. subst (λ (stripes : List Mended). AreUnderway plan stripes firsts olds starts states) (sym (append-nil before)) is;
    breaks = breaks;
  }

  -- after other stripes
  pub files_then : (before after : StartsValue) (before_states after_states : List (List FileState)) → KeepsStarts before after
      → (xs ys : List Mended) (last : Mended) (olds mids news : List FolderView)
      → ((d : ℕ) → d < length plan.table.columns → FolderMakesBy (AreStripeCalls plan before d xs) (folder_at olds d) (folder_at mids d))
      → ((earlier : List Mended) (firsts : List FolderView) → AreFixable plan firsts → AreUnderway plan earlier firsts olds before before_states → AreUnderway plan (earlier ++ xs) firsts mids after after_states)
      → BreaksFolders plan after after_states fault ys last mids news → BreaksFolders plan before before_states fault (xs ++ ys) last olds news
  files_then before after before_states after_states stood xs ys last olds mids news first underway broke = record {
    starts = broke.starts;
    stood = keeps_starts_then before after broke.starts stood broke.stood;
    states = broke.states;
    mids = broke.mids;
    makes = λ d below. well_then plan before after stood d xs ys (first d below) (broke.makes d below);
    underway = λ earlier firsts fixable is.
        subst (λ (stripes : List Mended). AreUnderway plan stripes firsts broke.mids broke.starts broke.states) (append_assoc earlier xs ys)
        (broke.underway (earlier ++ xs) firsts fixable (underway earlier firsts fixable is));
    breaks = broke.breaks;
  }

  -- they are such calls all the same
  pub files_any : (starts : StartsValue) (states : List (List FileState)) (earlier : List Mended) (last : Mended) (olds news : List FolderView)
      → BreaksFolders plan starts states fault earlier last olds news
      → (d : ℕ) → d < length plan.table.columns → FolderMakes (AnyCall (IsStripeCall plan starts d (earlier ++ last ∷ []))) (folder_at olds d) (folder_at news d)
  files_any starts states earlier last olds news broke d below =
      let one = last ∷ [] in
      let all = earlier ++ one in
      makes_then (AnyCall (IsStripeCall plan starts d all))
      (makes_any_wider (IsStripeCall plan starts d earlier) (IsStripeCall plan starts d all)
      (stripe_call_wider plan starts starts (keeps_starts_same starts) d earlier one earlier starts (keeps_starts_same starts) (Contains-append_left earlier one))
      (stripes_any plan starts d earlier (broke.makes d below)))
      (makes_any_wider (IsMendCall plan broke.starts d one) (IsStripeCall plan starts d all)
      (λ call is. inr (mend_call_wider plan starts broke.starts d one all broke.stood (Contains-append_right earlier one) call is))
      (cells_any fault plan last broke.starts broke.states broke.mids news broke.breaks d below))

-- ---- none of them reads

pub cell_quiet : (plan : FixPlan) (starts : StartsValue) (d : ℕ) (mended : Mended) {old new : FolderView} → FolderMakesBy (AreMendCalls plan starts d mended) old new → FolderReads IsQuiet old new
cell_quiet plan starts d mended makes =
    quiet_makes (AreMendCalls plan starts d mended) (IsMendCall plan starts d (mended ∷ [])) (mend_writes plan starts d (mended ∷ [])) (λ done are. are.are.each) makes

pub cells_quiet : (fault : RunFault) (plan : FixPlan) (last : Mended) (starts : StartsValue) (states : List (List FileState)) (olds news : List FolderView)
    → BreaksCells fault plan last starts states olds news → (d : ℕ) → d < length plan.table.columns → FolderReads IsQuiet (folder_at olds d) (folder_at news d)
cells_quiet (Folder disk) plan last starts states olds news one d below =
    quiet_in_column disk (length plan.table.columns) (λ (k : ℕ). AreMendCalls plan starts k last) (λ (k : ℕ). IsMendCall plan starts k (last ∷ [])) olds news
    (λ k. mend_writes plan starts k (last ∷ [])) (λ k done are. are.are.each) one.in_column d below
cells_quiet Vault plan last starts states olds news one d below = cell_quiet plan starts d last (one.makes d below)
cells_quiet Memory plan last starts states olds news one d below = absurd one
