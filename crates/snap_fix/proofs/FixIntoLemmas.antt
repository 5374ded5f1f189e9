-- The stripes of a window, examined and then written anew one after another, and how that breaks off.
use Rattle.std.proofs.Common.{◌≡◌, ℕ, ◌+◌, ◌<◌, ◌≤◌, ◌||◌, List, [], ◌∷◌, ◌++◌, length, take, drop, All, Bool, true, false, IsTrue, refl, sym, ap, ◌∙◌, subst, arith, append_assoc}
use Rattle.std.specs.List.{count_by, list_any}
use Rattle.std.proofs.lemmas.List.{map-append, append-nil, length-map, take_all, take_more, take-append-drop}
use Rattle.std.proofs.lemmas.List.Elements.{All-nil, All-cons}
use Rattle.std.proofs.lemmas.List.Sums.{sum_by-append}
use Rattle.disk_model.specs.Cause.{RoseBy}
use Rattle.disk_model.specs.Folder.{FolderView, FolderDone, FolderGoesOn, SomeFolderCalls}
use Rattle.disk_model.specs.Sink.{SinkView}
use Rattle.disk_model.specs.Vault.{VaultView, VaultDone, GoesOn, SomeCalls}
use Rattle.parity_writer.specs.LevelReading.{has_failed}
use Rattle.snap_report.specs.Answer.{Gained, broke_folder, is_parity_io}
use Rattle.file_restorer.specs.Breaking.{broke_parity}
use Rattle.snap_report.specs.Report.{ReportView}
use Rattle.snap_report.specs.declared.answer.RunFault.{RunFault}
use Rattle.snap_report.specs.declared.answer.RunFault.TheVariants.{Folder, Vault, Memory}
use Rattle.snap_report.specs.declared.events.Event.{Event}
use Rattle.snap_report.proofs.ToldLemmas.{told_then}
use Rattle.stripe_reader.specs.Columns.{folder_at}
use Rattle.stripe_reader.specs.WindowValue.{WindowValue}
use Rattle.snap_fix.specs.declared.fixing.Totals.{Totals}
use Rattle.stripe_examiner.specs.Asking.{AsksSpare}
use Rattle.stripe_examiner.specs.Facts.{StripeFacts}
use Rattle.stripe_examiner.specs.Spare.{SpareView}
use Rattle.snap_fix.specs.BrokenStripe.{BreaksLevels}
use Rattle.snap_fix.specs.FixRun.{AreAscending, BreaksFolders, BreaksInLast, BreaksInto, FixesInto, HasBrokenInto, MendsAll, MendsInto, MendsNotInto, RoseBeyond}
use Rattle.snap_fix.specs.Fixing.{AreTotals, BreaksStripe, FixScene, FixesStripe, IsBrokenBy, MendsVault, SceneFits, facts_of, fix_scene, levels_begun, with_answers}
use Rattle.stripe_examiner.specs.Known.{AreFacts}
use Rattle.stripe_examiner.specs.Looking.{AreAllLevelsOf, LevelsAreRead, facts_at, no_facts, numbers_of, unread_in}
use Rattle.stripe_examiner.specs.Marks.{slots_at}
use Rattle.snap_fix.specs.Mended.{AnswersFit, Mended, all_mended_events}
use Rattle.repair_scope.specs.Plan.{FixPlan}
use Rattle.file_restorer.specs.State.{AnyCall}
use Rattle.snap_fix.specs.Underway.{AreAllMendCalls, FixUnderway, IsMendCall, done_well, wrong_writes}
use Rattle.snap_fix.specs.Windows.{AreWindows, FixWindow, all_wrong_writes, window_calls, window_of, window_reads, window_size}
use Rattle.snap_fix.proofs.BreakingLemmas.{breaks_then}
use Rattle.snap_fix.proofs.FixAllLemmas.{answered_then, begun_all, begun_one, facts_append, mend_none, mend_one, mend_then, precede, tells_first}
use Rattle.snap_fix.proofs.FixCountLemmas.{count_append}
use Rattle.snap_fix.proofs.FixedVaultLemmas.{mends_since, reading_calls, zeros_since}
use Rattle.snap_fix.proofs.WindowsLemmas.{SplitLevels, ascending_first, many_levels, one_window, parity_io_few, split_levels, writes_more}
use Rattle.file_restorer.proofs.FolderCallLemmas.{makes_by_none, makes_some}
use Rattle.snap_fix.proofs.KeptStartsLemmas.{cell_quiet, cells_any, cells_more, cells_quiet, files_one, files_then}
use Rattle.snap_fix.proofs.MendedVaultLemmas.{Precede, goes_on_none, holds_still, mends_append}
use Rattle.snap_fix.proofs.ReadsLemmas.{quiet_none, quiet_then}
use Rattle.stripe_examiner.proofs.LookingLemmas.{vault_goes_on}

-- ---- calls that were gained, after others

any_later : {A : Type 0} (p : A → Bool) (front back : List A) → IsTrue (list_any p back) → IsTrue (list_any p (front ++ back))
any_later p [] back one = one
any_later p (x ∷ front) back one = by (p x) (any_later p front back one)
  where
    by : (b : Bool) {rest : Bool} → rest ≡ true → (b || rest) ≡ true
    by true is = refl
    by false is = is

gained_after : {A : Type 0} (p : A → Bool) (old mid now front : List A) → mid ≡ old ++ front → Gained p mid now → Gained p old now
gained_after {A = A} p old mid now front grown gained = record {
  gained = front ++ gained.gained;
  now_is = gained.now_is ∙ ap (λ (calls : List A). calls ++ gained.gained) grown ∙ append_assoc old front gained.gained;
  one = any_later p front gained.gained gained.one;
}

pub folder_gained : (old mid new : FolderView) {first more : List FolderDone} → FolderGoesOn old mid first → FolderGoesOn mid new more
    → (IsTrue new.tells_calls → Gained broke_folder mid.calls new.calls) → IsTrue new.tells_calls → Gained broke_folder old.calls new.calls
folder_gained old mid new {first = first} one two call tells =
    gained_after broke_folder old.calls mid.calls new.calls first (one.calls.more (two.calls.told tells)) (call tells)

pub vault_gained : (old mid new : VaultView) → SomeCalls old mid → SomeCalls mid new
    → (IsTrue new.tells_calls → Gained broke_parity mid.calls new.calls) → IsTrue new.tells_calls → Gained broke_parity old.calls new.calls
vault_gained old mid new one two call tells =
    gained_after broke_parity old.calls mid.calls new.calls one.done (one.goes_on.calls.more (two.goes_on.calls.told tells)) (call tells)

-- a prefix has no more of them
pub count_first : (p : Event → Bool) (events first rest : List Event) → events ≡ first ++ rest → count_by p first ≤ count_by p events
count_first p events first rest is = omega (arith, ap (λ (es : List Event). count_by p es) is, count_append p first rest)

module _ {W R : Type 0} (view : W → SinkView) (standing : R → ReportView) (stands : R → List Event → Type 0) (plan : FixPlan) where
  -- a fix goes on to be underway
  pub still_underway : (stripes : List Mended) (totals : Totals) (old new : FixScene W R) → FixUnderway plan old.folders old.starts old.states
      → MendsAll view standing stands plan stripes old new totals → FixUnderway plan new.folders new.starts new.states
  still_underway stripes totals old new before mends = record {
    stripes = before.stripes ++ stripes;
    firsts = before.firsts;
    fixable = before.fixable;
    underway = mends.underway before.stripes before.firsts before.fixable before.underway;
  }

  -- ---- the stripes are written anew, one after another

  pub into_none : (totals : Totals) (s : FixScene W R) → SceneFits plan s → AreTotals plan [] totals → MendsInto view standing stands plan [] s s totals
  into_none totals s fits counted = record {
    stripes = [];
    facts_are = refl;
    mends = mend_none view standing stands plan totals s fits counted;
    cells = λ d below. makes_by_none (AreAllMendCalls plan s.starts d []) (folder_at s.folders d) refl;
    wrote = goes_on_none s.vault;
    spare = refl;
    quiet = λ d below. quiet_none (folder_at s.folders d);
  }

  -- all of them were
  pub into_whole : (all : List StripeFacts) (i : ℕ) (totals : Totals) (old new : FixScene W R) → length all ≤ i → MendsInto view standing stands plan (take i all) old new totals
      → MendsInto view standing stands plan all old new totals
  into_whole all i totals old new enough it = subst (λ (its : List StripeFacts). MendsInto view standing stands plan its old new totals) (take_all i all enough) it

  module _ (all : List StripeFacts) (ascending : AreAscending (numbers_of all)) (i : ℕ) (within : i < length all) (one : Totals) (old mid : FixScene W R)
      (so_far : MendsInto view standing stands plan (take i all) old mid one) where
    abbrev next : StripeFacts
    next = facts_at all i

    -- the first ones with this one
    facts_more : facts_of so_far.stripes ++ next ∷ [] ≡ take (i + 1) all
    facts_more = ap (λ (its : List StripeFacts). its ++ next ∷ []) so_far.facts_are ∙ sym (take_more all i no_facts within)

    -- it comes after those before it
    before_it : Precede (facts_of so_far.stripes) (next ∷ [])
    before_it =
        precede (facts_of so_far.stripes) (next ∷ [])
        (subst AreAscending (ap numbers_of (sym facts_more) ∙ map-append (λ (it : StripeFacts). it.stripe) (facts_of so_far.stripes) (next ∷ [])) (ascending_first (i + 1) all ascending))

    -- one stripe more
    pub into_more : (two both : Totals) (new : FixScene W R)
        → ((stripes others : List Mended) → AreTotals plan stripes one → AreTotals plan others two → AreTotals plan (stripes ++ others) both)
        → FixesStripe view standing stands plan next mid new two → MendsInto view standing stands plan (take (i + 1) all) old new both
    into_more two both new and it =
        let mended = with_answers next it.answers in
        let xs = so_far.stripes in
        let facts = facts_append xs (mended ∷ []) in
        record {
          stripes = xs ++ mended ∷ [];
          facts_are = facts ∙ facts_more;
          mends = mend_then view standing stands plan xs (mended ∷ []) one two both old mid new before_it and so_far.mends (mend_one view standing stands plan next mid new two it);
          cells = λ d below. cells_more plan old.starts mid.starts so_far.mends.stood d xs mended (so_far.cells d below) (it.makes d below);
          wrote = subst (GoesOn old.vault new.vault) (sym (ap (λ (its : List StripeFacts). done_well (all_wrong_writes plan its)) facts ∙ writes_more plan (facts_of xs) next))
              (vault_goes_on old.vault mid.vault new.vault (done_well (all_wrong_writes plan (facts_of xs))) (done_well (wrong_writes plan next)) so_far.wrote it.ran);
          spare = it.spare ∙ so_far.spare;
          quiet = λ d below. quiet_then (so_far.quiet d below) (cell_quiet plan mid.starts d mended (it.makes d below));
        }

    -- or it broke off
    module _ (new : FixScene W R) (fault : RunFault) (it : BreaksStripe view standing stands plan next mid new fault) where
      abbrev mended : Mended
      mended = with_answers next it.answers

      abbrev xs : List Mended
      xs = so_far.stripes

      abbrev ys : List Mended
      ys = mended ∷ []

      abbrev back : List StripeFacts
      back = drop (i + 1) all

      all_is : all ≡ facts_of (xs ++ ys) ++ back
      all_is = sym (take-append-drop (i + 1) all) ∙ ap (λ (its : List StripeFacts). its ++ back) (sym (facts_append xs ys ∙ facts_more))

      broke_by : (by : RunFault) → IsBrokenBy plan by mid.folders new.folders mid.vault new.vault
          → ((d : ℕ) → d < length plan.table.columns → SomeFolderCalls (folder_at mid.folders d) (folder_at new.folders d))
          → IsBrokenBy plan by old.folders new.folders old.vault new.vault
      broke_by (Folder disk) (inside, broke) makes = (
        inside,
        record {
          rose = let later = (so_far.mends.makes disk inside).goes_on.later in let rose = broke.rose in omega (arith, later, rose);
          call = folder_gained (folder_at old.folders disk) (folder_at mid.folders disk) (folder_at new.folders disk)
              (so_far.mends.makes disk inside).goes_on (makes disk inside).goes_on broke.call;
        },
      )
      broke_by Vault broke makes = record {
        rose = let later = so_far.wrote.later in let rose = broke.rose in omega (arith, later, rose);
        call = vault_gained old.vault mid.vault new.vault so_far.mends.vault.calls it.vault.calls broke.call;
      }
      broke_by Memory broke makes = broke

      pub into_not : SceneFits plan old → MendsNotInto view standing stands plan all old new fault
      into_not fits =
          let front = all_mended_events plan xs in
          let none : xs ++ [] ≡ xs = append-nil xs in
          let writes = done_well (all_wrong_writes plan (facts_of xs)) in
          record {
            earlier = xs;
            last = mended;
            behind = back;
            facts_are = all_is;
            level = it.level;
            first = front ++ it.first;
            tells = record { told = it.first; first_is = refl; tells = it.tells };
            told = told_then view standing stands plan.table.columns front it.first old.lines mid.lines new.lines old.reports mid.reports new.reports so_far.mends.told it.told;
            folders = it.folders ∙ so_far.mends.fits.folders ∙ sym fits.folders;
            answered = answered_then plan xs ys old.folders mid.folders (λ d below. (so_far.mends.makes d below).goes_on.tells) so_far.mends.answered
                (All-cons (AnswersFit plan mid.folders) mended [] it.answers_fit (All-nil (AnswersFit plan mid.folders)));
            ran = subst (λ (calls : List VaultDone). BreaksLevels fault plan next it.level calls old.vault new.vault) (append-nil writes)
                (breaks_then fault plan next it.level writes [] old.vault mid.vault new.vault so_far.wrote it.ran);
            vault = subst (λ (its : List StripeFacts). MendsVault plan its old.vault new.vault) (sym (begun_one fault (facts_of xs) next))
                (mends_append plan (facts_of xs) (levels_begun fault [] next) old.vault mid.vault new.vault so_far.mends.vault it.vault);
            holds = holds_still plan (facts_of xs) (next ∷ []) mid.vault new.vault before_it (begun_all fault plan [] next mid.vault new.vault it.vault) so_far.mends.holds;
            spare = it.spare ∙ so_far.spare;
            makes = subst (λ (its : List Mended). BreaksFolders plan old.starts old.states fault its mended old.folders new.folders) none
                (files_then plan fault old.starts mid.starts old.states mid.states so_far.mends.stood xs [] mended old.folders mid.folders new.folders so_far.mends.makes so_far.mends.underway
                (files_one plan fault mid.starts mid.states mended mid.folders new.folders it.makes));
            quiet = λ d below. quiet_then (so_far.quiet d below) (cells_quiet fault plan mended mid.starts mid.states mid.folders new.folders it.makes d below);
            broke = broke_by fault it.broke
                (λ d below. makes_some (AnyCall (IsMendCall plan mid.starts d ys)) (cells_any fault plan mended mid.starts mid.states mid.folders new.folders it.makes d below));
          }

  -- ---- the stripes of a window were examined, and then written anew

  module _ (numbers : List ℕ) (window : WindowValue) (all : List StripeFacts) (numbers_are : numbers_of all ≡ numbers)
      (slots : (k : ℕ) → k < length all → (facts_at all k).slots ≡ slots_at window k) (are : All (AreFacts plan) all)
      (some : 0 < length all) (few : length all ≤ window_size plan)
      (old : FixScene W R) (vault : VaultView) (spare : SpareView) (levels : LevelsAreRead plan all old.vault vault) (asked : AsksSpare plan all old.spare spare) where
    abbrev size : ℕ
    size = plan.table.shape.block_size

    -- all is as it was, but for the vault and the spare
    abbrev examined : FixScene W R
    examined = fix_scene old.starts old.states old.written old.folders vault spare old.lines old.reports

    abbrev whole : FixWindow
    whole = record { stripes = all; readings = levels.readings }

    whole_is : AreWindows plan (whole ∷ []) all levels.readings
    whole_is = one_window plan whole (record { as_many = many_levels size old.vault all levels.readings levels.are; some = some; few = few })

    since_examined : (stripes : List Mended) (totals : Totals) (new : FixScene W R) → MendsAll view standing stands plan stripes examined new totals → MendsAll view standing stands plan stripes old new totals
    since_examined stripes totals new mends = record {
      fits = mends.fits;
      told = mends.told;
      totals_are = mends.totals_are;
      written = mends.written;
      answered = mends.answered;
      stood = mends.stood;
      vault = mends_since plan all old.vault vault levels (facts_of stripes) new.vault mends.vault;
      zeros = zeros_since plan all old.vault vault levels (facts_of stripes) new.vault mends.zeros;
      holds = mends.holds;
      makes = mends.makes;
      underway = mends.underway;
    }

    -- the calls for some of them, after all levels were read
    wrote_since : (stripes : List StripeFacts) (new : VaultView) → GoesOn vault new (done_well (all_wrong_writes plan stripes))
        → GoesOn old.vault new (window_reads plan whole ++ done_well (all_wrong_writes plan stripes))
    wrote_since stripes new wrote = vault_goes_on old.vault vault new (window_reads plan whole) (done_well (all_wrong_writes plan stripes)) levels.goes_on wrote

    pub into_all : (totals : Totals) (new : FixScene W R) → MendsInto view standing stands plan all examined new totals
        → FixesInto view standing stands plan numbers window old new totals
    into_all totals new into =
        let same = into.facts_are in
        let ran = wrote_since (facts_of into.stripes) new.vault into.wrote in
        record {
          stripes = into.stripes;
          numbers_are = ap numbers_of same ∙ numbers_are;
          slots = λ k below.
              ap (λ (its : List StripeFacts). (facts_at its k).slots) same
              ∙ slots k (omega (arith, below, length-map into.stripes (λ (it : Mended). it.facts), ap (λ (its : List StripeFacts). length its) same));
          fixes = record {
            are = subst (All (AreFacts plan)) (sym same) are;
            mends = since_examined into.stripes totals new into.mends;
            windows = whole ∷ [];
            readings = levels.readings;
            windows_are = subst (λ (its : List StripeFacts). AreWindows plan (whole ∷ []) its levels.readings) (sym same) whole_is;
            read = subst (λ (its : List StripeFacts). AreAllLevelsOf size old.vault its levels.readings) (sym same) levels.are;
            unread = let later = into.wrote.later in omega (arith, levels.unread, later);
            ran = subst (GoesOn old.vault new.vault) (sym (append-nil (window_calls plan whole)))
                (subst (λ (its : List StripeFacts). GoesOn old.vault new.vault (window_reads plan whole ++ done_well (all_wrong_writes plan its))) same ran);
            spare = subst (λ (its : List StripeFacts). AsksSpare plan its old.spare new.spare) (sym same) (subst (AsksSpare plan all old.spare) (sym into.spare) asked);
          };
          alone = ap (λ (its : List StripeFacts). window_of its levels.readings ∷ []) (sym same);
          cells = into.cells;
          quiet = into.quiet;
        }

    -- ---- and how that breaks off

    module _ (new : FixScene W R) (fault : RunFault) (it : MendsNotInto view standing stands plan all examined new fault) where
      abbrev stripes : List Mended
      stripes = it.earlier ++ it.last ∷ []

      all_apart : all ≡ facts_of it.earlier ++ it.last.facts ∷ it.behind
      all_apart = it.facts_are ∙ ap (λ (its : List StripeFacts). its ++ it.behind) (facts_append it.earlier (it.last ∷ []))
          ∙ append_assoc (facts_of it.earlier) (it.last.facts ∷ []) it.behind

      split : SplitLevels size old.vault (facts_of stripes) it.behind levels.readings
      split = split_levels size old.vault (facts_of stripes) it.behind levels.readings
          (subst (λ (its : List StripeFacts). AreAllLevelsOf size old.vault its levels.readings) it.facts_are levels.are)

      in_last : BreaksInLast plan fault it.level (facts_of it.earlier) it.last.facts it.behind (split.front ++ split.back) old.vault new.vault
      in_last = record {
        windows = [];
        window = whole;
        windows_are = subst (λ (its : List StripeFacts). AreWindows plan (whole ∷ []) its (split.front ++ split.back)) all_apart
            (subst (AreWindows plan (whole ∷ []) all) split.whole_is whole_is);
        front = facts_of it.earlier;
        earlier_are = refl;
        window_is = all_apart;
        ran = breaks_then fault plan it.last.facts it.level (window_reads plan whole) (done_well (all_wrong_writes plan (facts_of it.earlier))) old.vault vault new.vault levels.goes_on it.ran;
        vault = mends_since plan all old.vault vault levels (levels_begun fault (facts_of it.earlier) it.last.facts) new.vault it.vault;
        holds = it.holds;
      }

      unread : RoseBy (unread_in (split.front ++ split.back)) old.vault.faults new.vault.faults
      unread = let all_unread = ap unread_in split.whole_is in let later = it.vault.calls.goes_on.later in omega (arith, all_unread, levels.unread, later)

      broke_with : (by : RunFault) → IsBrokenBy plan by old.folders new.folders vault new.vault → HasBrokenInto plan by it.first old.folders new.folders old.vault new.vault
      broke_with (Folder disk) broke = broke
      broke_with Vault broke =
          let told = count_first is_parity_io (all_mended_events plan stripes) it.first it.tells.tells.rest (tells_first plan fault it.level stripes it.earlier it.last it.first refl it.tells) in
          let few_told = parity_io_few plan old.vault stripes split.front split.first in
          let both : unread_in (split.front ++ split.back) ≡ unread_in split.front + unread_in split.back = sum_by-append (count_by has_failed) split.front split.back in
          let all_unread = ap unread_in split.whole_is in
          let rose = broke.rose in
          record {
            rose = omega (arith, told, few_told, both, all_unread, levels.unread, rose);
            call = vault_gained old.vault vault new.vault (reading_calls plan all old.vault vault levels) it.vault.calls broke.call;
          }
      broke_with Memory broke = broke

      -- that call counts beside all readings of the window
      rose_with : (by : RunFault) → IsBrokenBy plan by old.folders new.folders vault new.vault
          → RoseBeyond by [] (split.front ++ split.back) old.folders new.folders old.vault new.vault
      rose_with (Folder disk) broke = broke.1.rose
      rose_with Vault broke = let all_unread = ap unread_in split.whole_is in let rose = broke.rose in omega (arith, all_unread, levels.unread, rose)
      rose_with Memory broke = broke

      pub into_breaks : BreaksInto view standing stands plan numbers window old new fault
      into_breaks = record {
        earlier = it.earlier;
        last = it.last;
        stripes = stripes;
        stripes_are = refl;
        ahead = record { stripes = it.behind; readings = split.back };
        numbers_are = sym numbers_are ∙ ap numbers_of it.facts_are ∙ map-append (λ (its : StripeFacts). its.stripe) (facts_of stripes) it.behind;
        slots = λ k below.
            ap (λ (its : List StripeFacts). (facts_at its k).slots) (sym it.facts_are)
            ∙ slots k (omega (arith, below, ap (λ (its : List StripeFacts). length its) it.facts_are));
        are = subst (All (AreFacts plan)) it.facts_are are;
        level = it.level;
        first = it.first;
        tells = it.tells;
        told = it.told;
        folders = it.folders;
        answered = it.answered;
        readings = split.front;
        read = split.first;
        read_ahead = split.later;
        ran = in_last;
        unread = unread;
        spare = subst (λ (its : List StripeFacts). AsksSpare plan its old.spare new.spare) it.facts_are (subst (AsksSpare plan all old.spare) (sym it.spare) asked);
        makes = it.makes;
        quiet = it.quiet;
        broke = broke_with fault it.broke;
        rose = rose_with fault it.broke;
      }
