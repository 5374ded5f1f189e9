-- Stripes that were looked at and written anew, and then others.
use Rattle.std.proofs.Common.{◌≡◌, ◌⊎◌, inl, inr, ℕ, ◌+◌, ◌<◌, ◌||◌, List, [], ◌∷◌, ◌++◌, length, get_or, All, Bool, true, false, refl, sym, ap, ap₂, ◌∙◌, subst, arith, append_assoc}
use Rattle.std.specs.List.{count_by, Contains}
use Rattle.std.proofs.Math.ListN.{get_or-map}
use Rattle.std.proofs.lemmas.Grind.{flat_map-append}
use Rattle.std.proofs.lemmas.List.{map-append, append-nil, length-map}
use Rattle.std.proofs.lemmas.List.Elements.{All-nil, All-cons, All-append}
use Rattle.std.proofs.lemmas.List.Folds.{list_any-append}
use Rattle.std.proofs.lemmas.List.Sums.{sum_by-append}
use Rattle.folder_listing.proofs.JoinedLemmas.{AllPairs-across}
use Rattle.disk_model.specs.Cause.{RoseBy}
use Rattle.disk_model.specs.Folder.{FolderView}
use Rattle.disk_model.specs.Sink.{SinkView}
use Rattle.disk_model.specs.Vault.{VaultView, VaultDone, GoesOn}
use Rattle.parity_writer.specs.LevelReading.{LevelReading, has_failed}
use Rattle.snap_report.specs.Answer.{is_parity_io}
use Rattle.snap_report.specs.Report.{ReportView}
use Rattle.snap_report.specs.declared.answer.RunFault.{RunFault}
use Rattle.snap_report.specs.declared.answer.RunFault.TheVariants.{Folder, Vault, Memory}
use Rattle.snap_report.specs.declared.events.Event.{Event}
use Rattle.snap_report.proofs.ToldLemmas.{told_then, told_nothing}
use Rattle.stripe_reader.specs.Columns.{folder_at}
use Rattle.snap_fix.specs.declared.fixing.Totals.{Totals}
use Rattle.stripe_examiner.specs.Asking.{AsksSpare}
use Rattle.snap_fix.specs.BrokenStripe.{BreaksLevels, broken_events}
use Rattle.stripe_examiner.specs.Facts.{StripeFacts}
use Rattle.snap_fix.specs.FixRun.{AreAscending, BreaksInLast, FixesAll, HoldAllWrong, MendsAll, TellsInLast}
use Rattle.snap_fix.specs.Fixing.{AreTotals, FixScene, FixesStripe, MendsVault, SceneFits, Writes, facts_of, levels_begun, unwritten, was_written, with_answers}
use Rattle.stripe_examiner.specs.Known.{AreFacts}
use Rattle.stripe_examiner.specs.Looking.{AreAllLevelsOf, numbers_of, unread_in}
use Rattle.snap_fix.specs.Mended.{AnswersFit, Mended, all_mended_events, is_wrong_level, mended_events}
use Rattle.repair_scope.specs.Plan.{FixPlan}
use Rattle.stripe_examiner.specs.Spare.{SpareView}
use Rattle.snap_fix.specs.Underway.{AddsZeros, AreStripeCalls, AreUnderway, HoldsWrong, IsMendedLevel, done_well}
use Rattle.snap_fix.specs.Windows.{AreWindows, FixWindow, IsFull, all_wrong_writes, mend_calls, stripes_in, window_reads}
use Rattle.snap_fix.proofs.AskedLemmas.{asks_none, asks_then}
use Rattle.snap_fix.proofs.BreakingLemmas.{breaks_then}
use Rattle.file_restorer.proofs.FolderCallLemmas.{makes_by_none}
use Rattle.snap_fix.proofs.KeptStartsLemmas.{no_stripe_calls, stripe_makes, well_then}
use Rattle.stripe_examiner.proofs.LookingLemmas.{vault_goes_on}
use Rattle.snap_fix.proofs.MendedVaultLemmas.{Precede, all_levels_append, goes_on_none, holds_append, holds_still, levels_before, mends_append, mends_nothing, zeros_append}
use Rattle.snap_fix.proofs.StartsKeptLemmas.{keeps_starts_same, keeps_starts_then}
use Rattle.snap_fix.proofs.WindowsLemmas.{calls_append, no_windows, parity_io_few, stripes_append, windows_append}

-- ---- the facts and events of stripes, and then of others

pub facts_append : (xs ys : List Mended) → facts_of (xs ++ ys) ≡ facts_of xs ++ facts_of ys
facts_append xs ys = map-append (λ (mended : Mended). mended.facts) xs ys

-- and of others that were not written
facts_unwritten : (stripes : List StripeFacts) → facts_of (unwritten stripes) ≡ stripes
facts_unwritten [] = refl
facts_unwritten (facts ∷ stripes) = ap (λ (its : List StripeFacts). facts ∷ its) (facts_unwritten stripes)

pub facts_beside : (xs : List Mended) (ahead : List StripeFacts) → facts_of (xs ++ unwritten ahead) ≡ facts_of xs ++ ahead
facts_beside xs ahead = facts_append xs (unwritten ahead) ∙ ap (λ (its : List StripeFacts). facts_of xs ++ its) (facts_unwritten ahead)

pub events_append : (plan : FixPlan) (xs ys : List Mended) → all_mended_events plan (xs ++ ys) ≡ all_mended_events plan xs ++ all_mended_events plan ys
events_append plan xs ys = flat_map-append (mended_events plan) xs ys

-- the facts of stripes, and of the last one
pub facts_last : (stripes earlier : List Mended) (last : Mended) → stripes ≡ earlier ++ last ∷ [] → facts_of stripes ≡ facts_of earlier ++ last.facts ∷ []
facts_last stripes earlier last are = ap facts_of are ∙ facts_append earlier (last ∷ [])

pub facts_then : (plan : FixPlan) (xs ys : List Mended) → All (AreFacts plan) (facts_of xs) → All (AreFacts plan) (facts_of ys) → All (AreFacts plan) (facts_of (xs ++ ys))
facts_then plan xs ys one two = subst (All (AreFacts plan)) (sym (facts_append xs ys)) (All-append (AreFacts plan) (facts_of xs) (facts_of ys) one two)

number_in : (stripes : List StripeFacts) (facts : StripeFacts) → Contains stripes facts → Contains (numbers_of stripes) facts.stripe
number_in stripes facts (k, below, is) =
    let number = λ (it : StripeFacts). it.stripe in
    (k, omega (arith, below, length-map stripes number), get_or-map number stripes k facts ∙ ap number is)

-- of ascending stripes the first ones come before the others
pub precede : (xs ys : List StripeFacts) → AreAscending (numbers_of xs ++ numbers_of ys) → Precede xs ys
precede xs ys ascending one other first second =
    AllPairs-across (λ (a b : ℕ). a < b) (numbers_of xs) (numbers_of ys) ascending one.stripe other.stripe
    (number_in xs one first) (number_in ys other second)

-- ---- the vault, the spare and the answers of stripes, and then of others

pub mends_then : (plan : FixPlan) (xs ys : List Mended) (old mid new : VaultView) → MendsVault plan (facts_of xs) old mid → MendsVault plan (facts_of ys) mid new → MendsVault plan (facts_of (xs ++ ys)) old new
mends_then plan xs ys old mid new one two =
    subst (λ (stripes : List StripeFacts). MendsVault plan stripes old new) (sym (facts_append xs ys)) (mends_append plan (facts_of xs) (facts_of ys) old mid new one two)

pub asked_then : (plan : FixPlan) (xs ys : List Mended) (old mid new : SpareView) → AsksSpare plan (facts_of xs) old mid → AsksSpare plan (facts_of ys) mid new → AsksSpare plan (facts_of (xs ++ ys)) old new
asked_then plan xs ys old mid new one two =
    subst (λ (stripes : List StripeFacts). AsksSpare plan stripes old new) (sym (facts_append xs ys)) (asks_then plan (facts_of xs) (facts_of ys) old mid new one two)

-- levels that were read later were read of the vault as it was before
pub levels_then : (plan : FixPlan) (xs ys : List Mended) (old mid : VaultView) (rs ss : List (List LevelReading)) → MendsVault plan (facts_of xs) old mid → Precede (facts_of xs) (facts_of ys)
    → AreAllLevelsOf plan.table.shape.block_size old (facts_of xs) rs → AreAllLevelsOf plan.table.shape.block_size mid (facts_of ys) ss → AreAllLevelsOf plan.table.shape.block_size old (facts_of (xs ++ ys)) (rs ++ ss)
levels_then plan xs ys old mid rs ss mends before one two =
    let size = plan.table.shape.block_size in
    subst (λ (stripes : List StripeFacts). AreAllLevelsOf size old stripes (rs ++ ss)) (sym (facts_append xs ys))
    (all_levels_append size old (facts_of xs) (facts_of ys) rs ss one (levels_before plan (facts_of xs) (facts_of ys) old mid mends before ss two))

pub unread_then : (rs ss : List (List LevelReading)) (before mid after : ℕ) → RoseBy (unread_in rs) before mid → RoseBy (unread_in ss) mid after → RoseBy (unread_in (rs ++ ss)) before after
unread_then rs ss before mid after one two =
    let counted : unread_in (rs ++ ss) ≡ unread_in rs + unread_in ss = sum_by-append (count_by has_failed) rs ss in
    omega (arith, counted, one, two)

-- as far as a folder told its files before, it tells them later
pub answered_then : (plan : FixPlan) (xs ys : List Mended) (olds mids : List FolderView) → ((d : ℕ) → d < length plan.table.columns → (folder_at mids d).tells ≡ (folder_at olds d).tells)
    → All (AnswersFit plan olds) xs → All (AnswersFit plan mids) ys → All (AnswersFit plan olds) (xs ++ ys)
answered_then plan xs ys olds mids same one two =
    All-append (AnswersFit plan olds) xs ys one (λ k none within d below told. two k none within d below (same d below ∙ told))

-- ---- which levels were written

or_left : (a b : Bool) → a ≡ true → (a || b) ≡ true
or_left true b is = refl
or_left false b is = let clash : false ≡ true = is in absurd cc

or_right : (a b : Bool) → b ≡ true → (a || b) ≡ true
or_right true b is = refl
or_right false b is = is

or_either : (a b : Bool) → (a || b) ≡ true → (a ≡ true) ⊎ (b ≡ true)
or_either true b is = inl refl
or_either false b is = inr is

pub writes_none : (plan : FixPlan) (written : List Bool) → Writes plan [] written written
writes_none plan written = (
  refl,
  λ r below. (
    λ is. inl is,
    λ was. elim was [
      | inl is ↦ is
      | inr none ↦ let clash : false ≡ true = none in absurd cc
    ],
  ),
)

pub writes_then : (plan : FixPlan) (xs ys : List Mended) (old mid new : List Bool) → Writes plan xs old mid → Writes plan ys mid new → Writes plan (xs ++ ys) old new
writes_then plan xs ys old mid new (length_one, one) (length_two, two) = (length_two ∙ length_one, λ r below. (there r below, back r below))
  where
    some : (r : ℕ) → was_written plan (xs ++ ys) r ≡ (was_written plan xs r || was_written plan ys r)
    some r = list_any-append (λ (mended : Mended). is_wrong_level plan mended.facts r) xs ys

    near : (r : ℕ) → r < length old → r < length mid
    near r below = omega (arith, below, length_one)

    there : (r : ℕ) → r < length old → get_or new r false ≡ true → (get_or old r false ≡ true) ⊎ (was_written plan (xs ++ ys) r ≡ true)
    there r below is = elim ((two r (near r below)).0 is) [
      | inl mid_is ↦ elim ((one r below).0 mid_is) [
        | inl old_is ↦ inl old_is
        | inr was ↦ inr (some r ∙ or_left (was_written plan xs r) (was_written plan ys r) was)
      ]
      | inr was ↦ inr (some r ∙ or_right (was_written plan xs r) (was_written plan ys r) was)
    ]

    back : (r : ℕ) → r < length old → (get_or old r false ≡ true) ⊎ (was_written plan (xs ++ ys) r ≡ true) → get_or new r false ≡ true
    back r below (inl old_is) = (two r (near r below)).1 (inl ((one r below).1 (inl old_is)))
    back r below (inr was) = elim (or_either (was_written plan xs r) (was_written plan ys r) (sym (some r) ∙ was)) [
      | inl first ↦ (two r (near r below)).1 (inl ((one r below).1 (inr first)))
      | inr second ↦ (two r (near r below)).1 (inr second)
    ]

-- ---- all of it

begun_append : (fault : RunFault) (xs earlier : List StripeFacts) (last : StripeFacts) → levels_begun fault (xs ++ earlier) last ≡ xs ++ levels_begun fault earlier last
begun_append (Folder disk) xs earlier last = refl
begun_append Vault xs earlier last = append_assoc xs earlier (last ∷ [])
begun_append Memory xs earlier last = refl

-- those before the last one, and what was begun of it
pub begun_one : (fault : RunFault) (xs : List StripeFacts) (last : StripeFacts) → levels_begun fault xs last ≡ xs ++ levels_begun fault [] last
begun_one (Folder disk) xs last = sym (append-nil xs)
begun_one Vault xs last = refl
begun_one Memory xs last = sym (append-nil xs)

-- where the last stripe's levels were not begun, they stayed
pub begun_all : (fault : RunFault) (plan : FixPlan) (earlier : List StripeFacts) (last : StripeFacts) (old new : VaultView) → MendsVault plan (levels_begun fault earlier last) old new
    → MendsVault plan (earlier ++ last ∷ []) old new
begun_all (Folder disk) plan earlier last old new mends = mends_append plan earlier (last ∷ []) old new new mends (mends_nothing plan (last ∷ []) new)
begun_all Vault plan earlier last old new mends = mends
begun_all Memory plan earlier last old new mends = mends_append plan earlier (last ∷ []) old new new mends (mends_nothing plan (last ∷ []) new)

-- the calls for some windows, and then those up to the writes of the stripe that broke off
pub breaks_in_last : (fault : RunFault) (plan : FixPlan) (level : ℕ) (xs ys : List Mended) (last : Mended) (behind : List StripeFacts) (windows : List FixWindow)
    (firsts more : List (List LevelReading)) (old mid new : VaultView) → Precede (facts_of xs) (facts_of (ys ++ last ∷ [])) → All (IsFull plan) windows → AreWindows plan windows (facts_of xs) firsts
    → GoesOn old mid (mend_calls plan windows) → MendsVault plan (facts_of xs) old mid → HoldAllWrong plan (facts_of xs) mid
    → BreaksInLast plan fault level (facts_of ys) last.facts behind more mid new → BreaksInLast plan fault level (facts_of (xs ++ ys)) last.facts behind (firsts ++ more) old new
breaks_in_last fault plan level xs ys last behind windows firsts more old mid new before full windows_are ran mends holds broke =
    let one = facts_of xs in
    let two = facts_of ys in
    let facts = facts_append xs ys in
    let calls = mend_calls plan windows in
    let here = window_reads plan broke.window ++ done_well (all_wrong_writes plan broke.front) in
    let apart : (one ++ two) ++ last.facts ∷ behind ≡ one ++ (two ++ last.facts ∷ behind) = append_assoc one two (last.facts ∷ behind) in
    let then : Precede one (two ++ last.facts ∷ []) = subst (Precede one) (facts_append ys (last ∷ [])) before in
    let mended = begun_all fault plan two last.facts mid new broke.vault in
    record {
      windows = windows ++ broke.windows;
      window = broke.window;
      windows_are = subst (λ (stripes : List StripeFacts). AreWindows plan ((windows ++ broke.windows) ++ broke.window ∷ []) stripes (firsts ++ more))
          (sym (ap (λ (stripes : List StripeFacts). stripes ++ last.facts ∷ behind) facts ∙ apart))
          (subst (λ (its : List FixWindow). AreWindows plan its (one ++ (two ++ last.facts ∷ behind)) (firsts ++ more))
          (sym (append_assoc windows broke.windows (broke.window ∷ [])))
          (windows_append plan windows (broke.windows ++ broke.window ∷ []) one (two ++ last.facts ∷ behind) firsts more full windows_are broke.windows_are));
      front = broke.front;
      earlier_are = facts ∙ ap₂ (λ (a b : List StripeFacts). a ++ b) windows_are.stripes_are broke.earlier_are
          ∙ sym (append_assoc (stripes_in windows) (stripes_in broke.windows) broke.front)
          ∙ ap (λ (stripes : List StripeFacts). stripes ++ broke.front) (sym (stripes_append windows broke.windows));
      window_is = broke.window_is;
      ran = subst (λ (calls_before : List VaultDone). BreaksLevels fault plan last.facts level calls_before old new)
          (sym (append_assoc calls (mend_calls plan broke.windows) here) ∙ ap (λ (before_it : List VaultDone). before_it ++ here) (sym (calls_append plan windows broke.windows)))
          (breaks_then fault plan last.facts level calls (mend_calls plan broke.windows ++ here) old mid new ran broke.ran);
      vault = subst (λ (stripes : List StripeFacts). MendsVault plan stripes old new)
          (sym (ap (λ (stripes : List StripeFacts). levels_begun fault stripes last.facts) facts ∙ begun_append fault one two last.facts))
          (mends_append plan one (levels_begun fault two last.facts) old mid new mends broke.vault);
      holds = subst (λ (stripes : List StripeFacts). HoldAllWrong plan stripes new) (sym facts)
          (λ told. All-append (λ (its : StripeFacts). HoldsWrong plan its new.files) one two (holds_still plan one (two ++ last.facts ∷ []) mid new then mended holds told) (broke.holds told));
    }

-- ---- what was told where the last stripe broke off

-- it is what was found and written
pub tells_exact : (plan : FixPlan) (fault : RunFault) (level : ℕ) (earlier : List Mended) (last : Mended) (first : List Event)
    → TellsInLast plan fault level earlier last first
    → first ≡ all_mended_events plan earlier ++ broken_events fault plan last level
tells_exact plan fault level earlier last first tells =
    tells.first_is ∙ ap (λ (told : List Event). all_mended_events plan earlier ++ told) tells.tells.told_is

-- it is a prefix of all events
pub tells_first : (plan : FixPlan) (fault : RunFault) (level : ℕ) (stripes earlier : List Mended) (last : Mended) (first : List Event) → stripes ≡ earlier ++ last ∷ []
    → (tells : TellsInLast plan fault level earlier last first) → all_mended_events plan stripes ≡ first ++ tells.tells.rest
tells_first plan fault level stripes earlier last first are tells =
    let front = all_mended_events plan earlier in
    ap (all_mended_events plan) are ∙ events_append plan earlier (last ∷ [])
    ∙ ap (λ (events : List Event). front ++ events) (append-nil (mended_events plan last) ∙ tells.tells.events)
    ∙ sym (append_assoc front tells.told tells.tells.rest)
    ∙ ap (λ (events : List Event). events ++ tells.tells.rest) (sym tells.first_is)

-- after the events of others
pub tells_then : (plan : FixPlan) (fault : RunFault) (level : ℕ) (xs earlier : List Mended) (last : Mended) (first : List Event)
    → TellsInLast plan fault level earlier last first
    → TellsInLast plan fault level (xs ++ earlier) last (all_mended_events plan xs ++ first)
tells_then plan fault level xs earlier last first tells =
    let front = all_mended_events plan xs in
    record {
      told = tells.told;
      first_is = ap (λ (events : List Event). front ++ events) tells.first_is
          ∙ sym (append_assoc front (all_mended_events plan earlier) tells.told)
          ∙ ap (λ (events : List Event). events ++ tells.told) (sym (events_append plan xs earlier));
      tells = tells.tells;
    }

module _ {W R : Type 0} (view : W → SinkView) (standing : R → ReportView) (stands : R → List Event → Type 0) (plan : FixPlan) where
  -- no stripe was written anew
  pub mend_none : (totals : Totals) (s : FixScene W R) → SceneFits plan s → AreTotals plan [] totals → MendsAll view standing stands plan [] s s totals
  mend_none totals s fits none = record {
    fits = fits;
    told = told_nothing view standing stands plan.table.columns s.lines s.reports;
    totals_are = none;
    written = writes_none plan s.written;
    answered = All-nil (AnswersFit plan s.folders);
    stood = keeps_starts_same s.starts;
    vault = mends_nothing plan [] s.vault;
    zeros = λ told level at x outside short has. absurd (omega (arith, short, has.within));
    holds = λ told. All-nil (λ (facts : StripeFacts). HoldsWrong plan facts s.vault.files);
    makes = λ d below. makes_by_none (AreStripeCalls plan s.starts d []) (folder_at s.folders d) (no_stripe_calls plan s.starts d);
    underway = λ before firsts fixable is. subst (λ (stripes : List Mended). AreUnderway plan stripes firsts s.folders s.starts s.states) (sym (append-nil before)) is;
  }

  -- one was
  pub mend_one : (facts : StripeFacts) (old new : FixScene W R) (totals : Totals) (it : FixesStripe view standing stands plan facts old new totals)
      → MendsAll view standing stands plan (with_answers facts it.answers ∷ []) old new totals
  mend_one facts old new totals it =
      let mended = with_answers facts it.answers in
      let only : mended_events plan mended ++ [] ≡ mended_events plan mended = append-nil (mended_events plan mended) in
      record {
        fits = it.fits;
        told = rw (only) it.told;
        totals_are = it.totals_are;
        written = it.written;
        answered = All-cons (AnswersFit plan old.folders) mended [] it.answers_fit (All-nil (AnswersFit plan old.folders));
        stood = it.stood;
        vault = it.vault;
        zeros = it.zeros;
        holds = λ told. All-cons (λ (its : StripeFacts). HoldsWrong plan its new.vault.files) facts [] (it.holds told) (All-nil (λ (its : StripeFacts). HoldsWrong plan its new.vault.files));
        makes = λ d below. stripe_makes plan old.starts d mended (it.makes d below);
        underway = it.underway;
      }

  -- some were, and then others
  pub mend_then : (xs ys : List Mended) (one two both : Totals) (old mid new : FixScene W R) → Precede (facts_of xs) (facts_of ys)
      → ((stripes others : List Mended) → AreTotals plan stripes one → AreTotals plan others two → AreTotals plan (stripes ++ others) both)
      → MendsAll view standing stands plan xs old mid one → MendsAll view standing stands plan ys mid new two → MendsAll view standing stands plan (xs ++ ys) old new both
  mend_then xs ys one two both old mid new before and first back =
      let size = plan.table.shape.block_size in
      let events = events_append plan xs ys in
      let facts = facts_append xs ys in
      let tells : mid.vault.tells ≡ old.vault.tells = first.vault.calls.goes_on.tells in
      record {
        fits = back.fits;
        told = rw (events) (told_then view standing stands plan.table.columns (all_mended_events plan xs) (all_mended_events plan ys) old.lines mid.lines new.lines old.reports mid.reports new.reports first.told back.told);
        totals_are = and xs ys first.totals_are back.totals_are;
        written = writes_then plan xs ys old.written mid.written new.written first.written back.written;
        answered = answered_then plan xs ys old.folders mid.folders (λ d below. (first.makes d below).goes_on.tells) first.answered back.answered;
        stood = keeps_starts_then old.starts mid.starts new.starts first.stood back.stood;
        vault = mends_then plan xs ys old.vault mid.vault new.vault first.vault back.vault;
        zeros = λ told. subst (λ (stripes : List StripeFacts). AddsZeros size (IsMendedLevel plan stripes) old.vault.files new.vault.files) (sym facts)
            (zeros_append plan (facts_of xs) (facts_of ys) old.vault.files mid.vault.files new.vault.files (back.vault.changes.reads (tells ∙ told)) (first.zeros told) (back.zeros (tells ∙ told)));
        holds = subst (λ (stripes : List StripeFacts). HoldAllWrong plan stripes new.vault) (sym facts)
            (holds_append plan (facts_of xs) (facts_of ys) mid.vault new.vault before back.vault first.holds back.holds);
        makes = λ d below. well_then plan old.starts mid.starts first.stood d xs ys (first.makes d below) (back.makes d below);
        underway = λ earlier firsts fixable is. subst (λ (stripes : List Mended). AreUnderway plan stripes firsts new.folders new.starts new.states) (append_assoc earlier xs ys)
            (back.underway (earlier ++ xs) firsts fixable (first.underway earlier firsts fixable is));
      }

  -- no window was looked at
  unfoldable pub fixes_none : (totals : Totals) (s : FixScene W R) → SceneFits plan s → AreTotals plan [] totals → FixesAll view standing stands plan [] s s totals
  fixes_none totals s fits none = record {
    are = All-nil (AreFacts plan);
    mends = mend_none totals s fits none;
    windows = [];
    readings = [];
    windows_are = no_windows plan;
    read = tt;
    unread = omega arith;
    ran = goes_on_none s.vault;
    spare = asks_none plan s.spare;
  }

  -- some were, and then others
  unfoldable pub fixes_then : (xs ys : List Mended) (one two both : Totals) (old mid new : FixScene W R) → Precede (facts_of xs) (facts_of ys)
      → ((stripes others : List Mended) → AreTotals plan stripes one → AreTotals plan others two → AreTotals plan (stripes ++ others) both)
      → (first : FixesAll view standing stands plan xs old mid one) → All (IsFull plan) first.windows → FixesAll view standing stands plan ys mid new two
      → FixesAll view standing stands plan (xs ++ ys) old new both
  fixes_then xs ys one two both old mid new before and first full back =
      let readings = first.readings ++ back.readings in
      record {
        are = facts_then plan xs ys first.are back.are;
        mends = mend_then xs ys one two both old mid new before and first.mends back.mends;
        windows = first.windows ++ back.windows;
        readings = readings;
        windows_are = subst (λ (stripes : List StripeFacts). AreWindows plan (first.windows ++ back.windows) stripes readings) (sym (facts_append xs ys))
            (windows_append plan first.windows back.windows (facts_of xs) (facts_of ys) first.readings back.readings full first.windows_are back.windows_are);
        read = levels_then plan xs ys old.vault mid.vault first.readings back.readings first.mends.vault before first.read back.read;
        unread = unread_then first.readings back.readings old.vault.faults mid.vault.faults new.vault.faults first.unread back.unread;
        ran = subst (GoesOn old.vault new.vault) (sym (calls_append plan first.windows back.windows))
            (vault_goes_on old.vault mid.vault new.vault (mend_calls plan first.windows) (mend_calls plan back.windows) first.ran back.ran);
        spare = asked_then plan xs ys old.spare mid.spare new.spare first.spare back.spare;
      }

  -- the vault's count of faults rose by no less than the failed readings of levels that were told
  pub parity_io_rose : (stripes : List Mended) (totals : Totals) (old new : FixScene W R) → FixesAll view standing stands plan stripes old new totals
      → RoseBy (count_by is_parity_io (all_mended_events plan stripes)) old.vault.faults new.vault.faults
  parity_io_rose stripes totals old new fixes =
      let few = parity_io_few plan old.vault stripes fixes.readings fixes.read in
      omega (arith, few, fixes.unread)
