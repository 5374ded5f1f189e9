-- All stripes of a fix, window after window, and how that breaks off.
use Rattle.std.proofs.Common.{◌≡◌, ◌⊎◌, inl, inr, ℕ, ◌+◌, ◌-◌, ◌<◌, ◌≤◌, List, [], ◌∷◌, ◌++◌, length, take, drop, get_or, All, refl, sym, ap, ap₂, ◌∙◌, subst, arith, append_assoc}
use Rattle.std.proofs.Math.ListN.{get_or-map as get_or-map-at}
use Rattle.std.proofs.Math.Seq.{take-add, take-append_seam}
use Rattle.std.proofs.lemmas.Bool.{cases_lt}
use Rattle.std.proofs.lemmas.List.{map-append, append-nil, drop_all, length-map, length-append, get_or_append_left, get_or-append_right, take-append-le, take-append-drop}
use Rattle.file_table.proofs.ListFacts.{AllPairs-take}
use Rattle.file_table.proofs.PrefixLemmas.{All-left, All-right}
use Rattle.parity_writer.specs.LevelReading.{LevelReading}
use Rattle.disk_model.specs.Cause.{RoseBy}
use Rattle.disk_model.specs.Folder.{FolderCall, FolderDone, FolderView}
use Rattle.disk_model.specs.Sink.{SinkView}
use Rattle.snap_report.specs.Answer.{is_io_of, is_parity_io}
use Rattle.snap_report.specs.Report.{ReportView}
use Rattle.snap_report.specs.declared.answer.RunFault.{RunFault}
use Rattle.snap_report.specs.declared.answer.RunFault.TheVariants.{Folder, Vault, Memory}
use Rattle.snap_report.specs.declared.events.Event.{Event}
use Rattle.snap_report.proofs.ToldLemmas.{told_then}
use Rattle.stripe_reader.specs.Columns.{ReadsWindow, folder_at}
use Rattle.stripe_reader.specs.FolderCalls.{AreColumnCalls}
use Rattle.stripe_reader.specs.Reading.{CellReading, NoBlock, tasks_at}
use Rattle.stripe_reader.specs.Slot.{kept}
use Rattle.stripe_reader.specs.WindowValue.{WindowValue}
use Rattle.snap_fix.specs.declared.fixing.Totals.{Totals}
use Rattle.stripe_examiner.specs.Facts.{StripeFacts, slot_of}
use Rattle.snap_fix.specs.FixRun.{AreAscending, BreaksFolders, BreaksInLast, BreaksInto, BreaksStripes, FixesInto, FixesStripes, HasBroken, HasBrokenInto, RoseBeyond, with_folders}
use Rattle.snap_fix.specs.Fixing.{AreReadThen, AreTotals, FixScene, IsReadThen, SceneFits, facts_of, mended_at, no_mended, unwritten}
use Rattle.stripe_examiner.specs.Asking.{AsksSpare}
use Rattle.stripe_examiner.specs.Known.{AreFacts}
use Rattle.stripe_examiner.specs.Looking.{facts_at, no_facts, numbers_of, unread_cells, unread_in}
use Rattle.stripe_examiner.specs.Marks.{slots_at}
use Rattle.snap_fix.specs.Mended.{Mended, all_mended_events}
use Rattle.repair_scope.specs.Plan.{FixPlan}
use Rattle.snap_fix.specs.Reads.{AreAllRead, AreReadBy, FolderReads}
use Rattle.file_restorer.specs.State.{AnyCall, FolderMakes, FolderMakesBy}
use Rattle.snap_fix.specs.Underway.{AreFixable, AreStripeCalls, AreUnderway, IsStripeCall}
use Rattle.snap_fix.proofs.AskedLemmas.{asks_then}
use Rattle.snap_fix.proofs.FixAllLemmas.{answered_then, breaks_in_last, facts_append, facts_beside, facts_then, fixes_then, levels_then, parity_io_rose, precede, tells_first, tells_then, unread_then}
use Rattle.snap_fix.proofs.FixCountLemmas.{count_append, io_in_cells}
use Rattle.snap_fix.proofs.FixIntoLemmas.{count_first, folder_gained, vault_gained}
use Rattle.snap_fix.proofs.FixReadLemmas.{cell_read, cells_unread, near, slot_read, underway_read, window_looked, window_makes, window_reads}
use Rattle.snap_fix.proofs.KeptStartsLemmas.{files_any, files_then, well_then}
use Rattle.snap_fix.proofs.MendedVaultLemmas.{Precede, levels_before}
use Rattle.snap_fix.proofs.ReadsLemmas.{all_looked, read_append, read_until, reads_on, reads_then, reads_wider}
use Rattle.snap_fix.proofs.StartsKeptLemmas.{keeps_starts_same}
use Rattle.snap_fix.proofs.WindowsLemmas.{fill_more}
use Rattle.snap_fix.specs.FolderWindows.{AreAllWindowCalls}
use Rattle.snap_fix.specs.Windows.{FillWindows, FixWindow, window_of, window_size}
use Rattle.snap_fix.proofs.FolderWindowsLemmas.{windows_more}
use Rattle.snap_fix.proofs.AscendingLemmas.{front_ascending, precede_ahead}
use Rattle.snap_fix.proofs.FixSinceLemmas.{many_before, rose_since, since_read, windows_full}

module _ {W R : Type 0} (view : W → SinkView) (standing : R → ReportView) (stands : R → List Event → Type 0) (plan : FixPlan) where
  module _ (numbers : List ℕ) (before window : WindowValue) (mid : FixScene W R) (mids : List FolderView) (read : ReadsWindow plan.table mid.starts numbers before window mid.folders mids)
      (fits : SceneFits plan mid) where
    -- the calls of the reading
    reads : (d : ℕ) → d < length plan.table.columns → FolderMakesBy (AreStripeCalls plan mid.starts d []) (folder_at mid.folders d) (folder_at mids d)
    reads d below = window_makes plan mid.starts numbers before window mid.folders mids read fits.folders d below

    told_as : (d : ℕ) → d < length plan.table.columns → (folder_at mids d).tells ≡ (folder_at mid.folders d).tells
    told_as d below = (reads d below).goes_on.tells

    -- These stripes of the window were looked at, after those before it.
    module _ (first : List ℕ) (one : Totals) (old : FixScene W R) (so_far : FixesStripes view standing stands plan first old mid one) (ys : List Mended) (behind : List ℕ)
        (numbers_are : numbers ≡ numbers_of (facts_of ys) ++ behind) (slots : (k : ℕ) → k < length ys → (facts_at (facts_of ys) k).slots ≡ slots_at window k) where
      abbrev xs : List Mended
      xs = so_far.stripes

      as_many : length (numbers_of (facts_of ys)) ≡ length ys
      as_many = length-map (facts_of ys) (λ (it : StripeFacts). it.stripe) ∙ length-map ys (λ (it : Mended). it.facts)

      few : length ys ≤ length numbers
      few = omega (arith, ap (λ (ns : List ℕ). length ns) numbers_are, length-append (numbers_of (facts_of ys)) behind, as_many)

      number_here : (j : ℕ) → j < length ys → (facts_at (facts_of ys) j).stripe ≡ get_or numbers j 0
      number_here j below =
          sym (get_or-map-at (λ (it : StripeFacts). it.stripe) (facts_of ys) j no_facts)
          ∙ sym (get_or_append_left (numbers_of (facts_of ys)) behind 0 j (omega (arith, below, as_many)))
          ∙ ap (λ (ns : List ℕ). get_or ns j 0) (sym numbers_are)

      -- a stripe before the window was read when it was
      read_before : (firsts : List FolderView) (k : ℕ) → k < length xs → IsReadThen plan old.starts firsts xs k (mended_at xs k).facts → IsReadThen plan old.starts firsts (xs ++ ys) k (mended_at (xs ++ ys) k).facts
      read_before firsts k below was =
          subst (λ (mended : Mended). IsReadThen plan old.starts firsts (xs ++ ys) k mended.facts) (sym (get_or_append_left xs ys no_mended k below))
          (record {
            count = was.count;
            earlier = was.earlier;
            starts = was.starts;
            stood = was.stood;
            states = was.states;
            folders = was.folders;
            underway = subst (λ (stripes : List Mended). AreUnderway plan stripes firsts was.folders was.starts was.states) (sym (take-append-le was.count xs ys (omega (arith, was.earlier, below)))) was.underway;
            cells = was.cells;
          })

      -- and one of the window when the stripes before it had been written
      read_now : (firsts : List FolderView) (j : ℕ) → j < length ys → AreUnderway plan xs firsts mid.folders mid.starts mid.states → (k : ℕ) → length xs ≤ k → IsReadThen plan old.starts firsts (xs ++ ys) k (facts_at (facts_of ys) j)
      read_now firsts j below is k far = record {
        count = length xs;
        earlier = far;
        starts = mid.starts;
        stood = so_far.fixes.mends.stood;
        states = mid.states;
        folders = mid.folders;
        underway = subst (λ (stripes : List Mended). AreUnderway plan stripes firsts mid.folders mid.starts mid.states) (sym (take-append_seam xs ys)) is;
        cells = λ d column. cell_read plan mid.starts numbers before window mid.folders mids read fits.folders ys few slots j d below column (number_here j below);
      }

      facts_here : (k : ℕ) → length xs ≤ k → facts_at (facts_of ys) (k - length xs) ≡ (mended_at (xs ++ ys) k).facts
      facts_here k far =
          get_or-map-at (λ (it : Mended). it.facts) ys (k - length xs) no_mended ∙ ap (λ (it : Mended). it.facts) (sym (get_or-append_right xs ys (length xs) k no_mended refl far))

      read_more : (firsts : List FolderView) → AreFixable plan firsts → AreUnderway plan [] firsts old.folders old.starts old.states → AreReadThen plan old.starts firsts (xs ++ ys)
      read_more firsts fixable start k below = at (cases_lt k (length xs))
        where
          at : (k < length xs) ⊎ (length xs ≤ k) → IsReadThen plan old.starts firsts (xs ++ ys) k (mended_at (xs ++ ys) k).facts
          at (inl near) = read_before firsts k near (so_far.read firsts fixable start k near)
          at (inr far) =
              subst (λ (facts : StripeFacts). IsReadThen plan old.starts firsts (xs ++ ys) k facts) (facts_here k far)
              (read_now firsts (k - length xs) (omega (arith, below, far, length-append xs ys)) (so_far.fixes.mends.underway [] firsts fixable start) k far)

      -- the calls that read: those before the window, and then those of it
      abbrev Before : ℕ → List FolderDone → Type 0
      Before d = AreReadBy plan old.starts mid.starts d (facts_of xs)

      abbrev seen_of : (d : ℕ) → d < length plan.table.columns → List CellReading
      seen_of d below = (read.each d (near plan mid.starts numbers before window mid.folders mids read fits.folders d below)).readings

      slots_seen : (d : ℕ) (below : d < length plan.table.columns) (k : ℕ) → k < length (facts_of ys) → slot_of (facts_at (facts_of ys) k) d ≡ kept plan.table.shape (get_or (seen_of d below) k NoBlock)
      slots_seen d below k inside = slot_read plan mid.starts numbers before window mid.folders mids read fits.folders ys few slots k d
          (omega (arith, inside, length-map ys (λ (it : Mended). it.facts))) below

      both_read : (d : ℕ) (below : d < length plan.table.columns) → behind ≡ [] → FolderReads (AreReadBy plan old.starts mid.starts d (facts_of (xs ++ ys))) (folder_at old.folders d) (folder_at mids d)
      both_read d below none =
          reads_then (Before d) (AreColumnCalls (tasks_at plan.table mid.starts d numbers) (seen_of d below)) (AreReadBy plan old.starts mid.starts d (facts_of (xs ++ ys)))
          (λ first_calls more is are.
          subst (λ (its : List StripeFacts). AreReadBy plan old.starts mid.starts d its (first_calls ++ more)) (sym (facts_append xs ys))
          (read_append plan old.starts mid.starts mid.starts d (facts_of xs) (facts_of ys) first_calls more is
          (all_looked plan mid.starts d (facts_of ys) (seen_of d below) more
          (subst (λ (ns : List ℕ). AreColumnCalls (tasks_at plan.table mid.starts d ns) (seen_of d below) more)
          (numbers_are ∙ ap (λ (its : List ℕ). numbers_of (facts_of ys) ++ its) none) are) (slots_seen d below))))
          (so_far.reads d below) (window_reads plan mid.starts numbers before window mid.folders mids read fits.folders ys few slots d below)

      -- cells that were not read: those before the window, and those of it
      unread_both : (d : ℕ) → unread_cells d (facts_of (xs ++ ys)) ≡ unread_cells d (facts_of xs) + unread_cells d (facts_of ys)
      unread_both d = ap (unread_cells d) (facts_append xs ys) ∙ count_append _ (facts_of xs) (facts_of ys)

      unread_since : (d n : ℕ) → d < length plan.table.columns → (folder_at mids d).faults ≤ n → RoseBy (unread_cells d (facts_of (xs ++ ys))) (folder_at old.folders d).faults n
      unread_since d n below later =
          let all = unread_both d in
          let here = cells_unread plan mid.starts numbers before window mid.folders mids read fits.folders ys few slots d below in
          let first = so_far.unread d below in
          omega (arith, all, here, first, later)

      -- the numbers of all of them
      numbers_both : (items : List ℕ) (done count : ℕ) → first ≡ take done items → numbers ≡ take count (drop done items)
          → (numbers_of (facts_of xs) ++ numbers_of (facts_of ys)) ++ behind ≡ take (done + count) items
      numbers_both items done count first_is numbers_is =
          append_assoc (numbers_of (facts_of xs)) (numbers_of (facts_of ys)) behind
          ∙ ap₂ (λ (front back : List ℕ). front ++ back) (so_far.numbers_are ∙ first_is) (sym numbers_are ∙ numbers_is)
          ∙ sym (take-add done count items)

      numbers_append : numbers_of (facts_of (xs ++ ys)) ≡ numbers_of (facts_of xs) ++ numbers_of (facts_of ys)
      numbers_append = ap numbers_of (facts_append xs ys) ∙ map-append (λ (it : StripeFacts). it.stripe) (facts_of xs) (facts_of ys)

      -- so they ascend
      ascend : (items : List ℕ) (done count : ℕ) → AreAscending items → first ≡ take done items → numbers ≡ take count (drop done items) → AreAscending (numbers_of (facts_of xs) ++ numbers_of (facts_of ys))
      ascend items done count ascending first_is numbers_is =
          front_ascending (numbers_of (facts_of xs) ++ numbers_of (facts_of ys)) behind
          (subst AreAscending (sym (numbers_both items done count first_is numbers_is)) (AllPairs-take (λ (a b : ℕ). a < b) (done + count) items ascending))

    -- one window more
    pub stripes_more : (items : List ℕ) (done count : ℕ) → done ≤ length items → FillWindows plan done → AreAscending items → numbers ≡ take count (drop done items)
        → (one two both : Totals) (old new : FixScene W R) → FixesStripes view standing stands plan (take done items) old mid one → FixesInto view standing stands plan numbers window (with_folders mid mids) new two
        → ((stripes others : List Mended) → AreTotals plan stripes one → AreTotals plan others two → AreTotals plan (stripes ++ others) both)
        → FixesStripes view standing stands plan (take (done + count) items) old new both
    unfolding fixes_then since_read
    stripes_more items done count within fill ascending numbers_is one two both old new so_far into and =
        let first = take done items in
        let xs = so_far.stripes in
        let ys = into.stripes in
        let all_here : numbers ≡ numbers_of (facts_of ys) ++ [] = sym into.numbers_are ∙ sym (append-nil (numbers_of (facts_of ys))) in
        let unread = λ (d : ℕ) (below : d < length plan.table.columns). unread_since first one old so_far ys [] all_here into.slots d (folder_at new.folders d).faults below (into.fixes.mends.makes d below).goes_on.later in
        record {
          stripes = xs ++ ys;
          numbers_are = numbers_append first one old so_far ys [] all_here into.slots
              ∙ sym (append-nil (numbers_of (facts_of xs) ++ numbers_of (facts_of ys))) ∙ numbers_both first one old so_far ys [] all_here into.slots items done count refl numbers_is;
          fixes = fixes_then view standing stands plan xs ys one two both old mid new
              (precede (facts_of xs) (facts_of ys) (ascend first one old so_far ys [] all_here into.slots items done count ascending refl numbers_is)) and so_far.fixes (windows_full view standing stands plan mid first one old so_far items done within fill refl) (since_read view standing stands plan numbers before window mid mids read fits ys two new into.fixes);
          read = read_more first one old so_far ys [] all_here into.slots;
          reads = λ d below.
              reads_wider (AreReadBy plan old.starts mid.starts d (facts_of (xs ++ ys))) (AreReadBy plan old.starts new.starts d (facts_of (xs ++ ys)))
              (λ done is. read_until plan old.starts mid.starts new.starts d (facts_of (xs ++ ys)) done into.fixes.mends.stood is)
              (reads_on (AreReadBy plan old.starts mid.starts d (facts_of (xs ++ ys))) (both_read first one old so_far ys [] all_here into.slots d below refl) (into.quiet d below));
          in_windows = λ d below.
              subst (λ (its : List FixWindow). FolderMakesBy (AreAllWindowCalls plan old.starts new.starts d (so_far.fixes.windows ++ its) (xs ++ ys)) (folder_at old.folders d) (folder_at new.folders d)) (sym into.alone)
              (windows_more plan mid.starts new.starts into.fixes.mends.stood d (window_of (facts_of ys) into.fixes.readings) ys refl old.starts so_far.fixes.windows xs (so_far.in_windows d below)
              (window_looked plan mid.starts numbers before window mid.folders mids read fits.folders ys (few first one old so_far ys [] all_here into.slots) into.slots all_here d below) (into.cells d below));
          unread = unread;
          io = λ d below. let few = io_in_cells plan d (xs ++ ys) in let rose = unread d below in omega (arith, few, rose);
        }

    -- ---- how it breaks off

    module _ (first : List ℕ) (one : Totals) (old : FixScene W R) (so_far : FixesStripes view standing stands plan first old mid one) (new : FixScene W R) (fault : RunFault)
        (into : BreaksInto view standing stands plan numbers window (with_folders mid mids) new fault) where
      -- the calls for the stripes, the reading of the window among them
      since : BreaksFolders plan mid.starts mid.states fault into.earlier into.last mid.folders new.folders
      since = record {
        starts = into.makes.starts;
        stood = into.makes.stood;
        states = into.makes.states;
        mids = into.makes.mids;
        makes = λ d below. well_then plan mid.starts mid.starts (keeps_starts_same mid.starts) d [] into.earlier (reads d below) (into.makes.makes d below);
        underway = λ earlier firsts fixable is. into.makes.underway earlier firsts fixable
            (underway_read plan mid.starts numbers before window mid.folders mids read fits.folders earlier firsts mid.starts mid.states is);
        breaks = into.makes.breaks;
      }

      abbrev Since : ℕ → FolderCall → Type 0
      Since d = IsStripeCall plan mid.starts d (into.earlier ++ into.last ∷ [])

      since_any : (d : ℕ) → d < length plan.table.columns → FolderMakes (AnyCall (Since d)) (folder_at mid.folders d) (folder_at new.folders d)
      since_any = files_any plan fault mid.starts mid.states into.earlier into.last mid.folders new.folders since

      into_any : (d : ℕ) → d < length plan.table.columns → FolderMakes (AnyCall (Since d)) (folder_at mids d) (folder_at new.folders d)
      into_any = files_any plan fault mid.starts mid.states into.earlier into.last mids new.folders into.makes

      -- what was told is a prefix of all events of the window
      told_first : all_mended_events plan into.stripes ≡ into.first ++ into.tells.tells.rest
      told_first = tells_first plan fault into.level into.stripes into.earlier into.last into.first into.stripes_are into.tells

      -- the slots of the stripes that were looked at
      slots_looked : (k : ℕ) → k < length into.stripes → (facts_at (facts_of into.stripes) k).slots ≡ slots_at window k
      slots_looked k below =
          let near : k < length (facts_of into.stripes) = omega (arith, below, length-map into.stripes (λ (it : Mended). it.facts)) in
          ap (λ (it : StripeFacts). it.slots) (sym (get_or_append_left (facts_of into.stripes) into.ahead.stripes no_facts k near))
          ∙ into.slots k (omega (arith, near, length-append (facts_of into.stripes) into.ahead.stripes))

      -- all stripes of the window, those behind the last one among them
      abbrev here : List Mended
      here = into.stripes ++ unwritten into.ahead.stripes

      facts_here_are : facts_of here ≡ facts_of into.stripes ++ into.ahead.stripes
      facts_here_are = facts_beside into.stripes into.ahead.stripes

      numbers_here : numbers ≡ numbers_of (facts_of here) ++ []
      numbers_here =
          into.numbers_are ∙ sym (map-append (λ (it : StripeFacts). it.stripe) (facts_of into.stripes) into.ahead.stripes)
          ∙ ap numbers_of (sym facts_here_are) ∙ sym (append-nil (numbers_of (facts_of here)))

      slots_here : (k : ℕ) → k < length here → (facts_at (facts_of here) k).slots ≡ slots_at window k
      slots_here k below =
          ap (λ (its : List StripeFacts). (facts_at its k).slots) facts_here_are
          ∙ into.slots k (omega (arith, below, length-map here (λ (it : Mended). it.facts), ap (λ (its : List StripeFacts). length its) facts_here_are))

      -- and those of the windows before it
      facts_all : facts_of (so_far.stripes ++ here) ≡ facts_of (so_far.stripes ++ into.stripes) ++ into.ahead.stripes
      facts_all =
          facts_append so_far.stripes here ∙ ap (λ (its : List StripeFacts). facts_of so_far.stripes ++ its) facts_here_are
          ∙ sym (append_assoc (facts_of so_far.stripes) (facts_of into.stripes) into.ahead.stripes)
          ∙ ap (λ (its : List StripeFacts). its ++ into.ahead.stripes) (sym (facts_append so_far.stripes into.stripes))

      all_read_then : (firsts : List FolderView) → AreFixable plan firsts → AreUnderway plan [] firsts old.folders old.starts old.states
          → AreReadThen plan old.starts firsts ((so_far.stripes ++ into.stripes) ++ unwritten into.ahead.stripes)
      all_read_then firsts fixable start =
          subst (AreReadThen plan old.starts firsts) (sym (append_assoc so_far.stripes into.stripes (unwritten into.ahead.stripes)))
          (read_more first one old so_far here [] numbers_here slots_here firsts fixable start)

      all_reads : (d : ℕ) → d < length plan.table.columns
          → FolderReads (AreAllRead plan old.starts d (facts_of (so_far.stripes ++ into.stripes) ++ into.ahead.stripes)) (folder_at old.folders d) (folder_at new.folders d)
      all_reads d below =
          let By = AreReadBy plan old.starts mid.starts d (facts_of (so_far.stripes ++ here)) in
          reads_wider By (AreAllRead plan old.starts d (facts_of (so_far.stripes ++ into.stripes) ++ into.ahead.stripes))
          (λ done is. (mid.starts, subst (λ (its : List StripeFacts). AreReadBy plan old.starts mid.starts d its done) facts_all is))
          (reads_on By (both_read first one old so_far here [] numbers_here slots_here d below refl) (into.quiet d below))

      unread_here : (d n : ℕ) → d < length plan.table.columns → (folder_at mids d).faults ≤ n
          → RoseBy (unread_cells d (facts_of (so_far.stripes ++ into.stripes) ++ into.ahead.stripes)) (folder_at old.folders d).faults n
      unread_here d n below later =
          subst (λ (its : List StripeFacts). RoseBy (unread_cells d its) (folder_at old.folders d).faults n) facts_all
          (unread_since first one old so_far here [] numbers_here slots_here d n below later)

      -- the failed readings of the window count too, and those before it
      broke_then : (by : RunFault) → HasBrokenInto plan by into.first mids new.folders mid.vault new.vault
          → HasBroken plan by (all_mended_events plan so_far.stripes ++ into.first) old.folders new.folders old.vault new.vault
      broke_then (Folder disk) (within, broke) = (
        within,
        record {
          rose =
              let counted = count_append (is_io_of disk) (all_mended_events plan so_far.stripes) into.first in
              let told = count_first (is_io_of disk) (all_mended_events plan into.stripes) into.first into.tells.tells.rest told_first in
              let xs_few = io_in_cells plan disk so_far.stripes in
              let ys_few = io_in_cells plan disk into.stripes in
              let both = unread_both first one old so_far into.stripes (numbers_of into.ahead.stripes) into.numbers_are slots_looked disk in
              let before = unread_since first one old so_far into.stripes (numbers_of into.ahead.stripes) into.numbers_are slots_looked disk (folder_at mids disk).faults within (omega arith) in
              let rose = broke.rose in
              omega (arith, counted, told, xs_few, ys_few, both, before, rose);
          call = folder_gained (folder_at old.folders disk) (folder_at mid.folders disk) (folder_at new.folders disk) (so_far.fixes.mends.makes disk within).goes_on (since_any disk within).goes_on
              (folder_gained (folder_at mid.folders disk) (folder_at mids disk) (folder_at new.folders disk) (reads disk within).goes_on (into_any disk within).goes_on broke.call);
        },
      )
      broke_then Vault broke = record {
        rose =
            let counted = count_append is_parity_io (all_mended_events plan so_far.stripes) into.first in
            let before = parity_io_rose view standing stands plan so_far.stripes one old mid so_far.fixes in
            let rose = broke.rose in
            omega (arith, counted, before, rose);
        call = vault_gained old.vault mid.vault new.vault so_far.fixes.mends.vault.calls into.ran.vault.calls broke.call;
      }
      broke_then Memory broke = broke

      -- the rest of the window: to its full size, or to the last stripe of all
      many_here : (count : ℕ) → length numbers ≡ count → length into.stripes + length into.ahead.stripes ≡ count
      many_here count many =
          let facts = length-map into.stripes (λ (it : Mended). it.facts) in
          let ones = length-map (facts_of into.stripes) (λ (it : StripeFacts). it.stripe) in
          let others = length-map into.ahead.stripes (λ (it : StripeFacts). it.stripe) in
          let sum = ap (λ (ns : List ℕ). length ns) into.numbers_are ∙ length-append (numbers_of (facts_of into.stripes)) (numbers_of into.ahead.stripes) in
          omega (arith, facts, ones, others, sum, many)

      few_ahead : (count : ℕ) → length numbers ≡ count → count ≤ window_size plan → length into.ahead.stripes < window_size plan
      few_ahead count many few =
          let sum = many_here count many in
          let last = ap (λ (its : List Mended). length its) into.stripes_are ∙ length-append into.earlier (into.last ∷ []) in
          omega (arith, sum, last, few)

      ends_at : (items : List ℕ) (done count : ℕ) → done ≤ length items → FillWindows plan done → first ≡ take done items → length numbers ≡ count
          → (length items ≡ done + count) ⊎ (count ≡ window_size plan)
          → (drop (done + count) items ≡ []) ⊎ FillWindows plan (length (so_far.stripes ++ into.stripes) + length into.ahead.stripes)
      ends_at items done count within fill first_is many (inl all) =
          inl (drop_all (done + count) items (omega (arith, all)))
      ends_at items done count within fill first_is many (inr full) =
          let before = many_before view standing stands plan mid first one old so_far items done within first_is in
          let sum = many_here count many in
          let both = length-append so_far.stripes into.stripes in
          inr (subst (FillWindows plan) (omega (arith, before, sum, both)) (fill_more plan done count fill full))

      pub stripes_break : (items : List ℕ) (done count : ℕ) → done ≤ length items → FillWindows plan done → length numbers ≡ count → count ≤ window_size plan
          → (length items ≡ done + count) ⊎ (count ≡ window_size plan)
          → AreAscending items → first ≡ take done items → numbers ≡ take count (drop done items) → SceneFits plan old → BreaksStripes view standing stands plan items old new fault
      stripes_break items done count within fill many few ends ascending first_is numbers_is fits_old =
          let xs = so_far.stripes in
          let ys = into.stripes in
          let front = all_mended_events plan xs in
          let left = drop (done + count) items in
          let ahead = into.ahead.stripes in
          let behind = numbers_of ahead in
          let both = numbers_both first one old so_far ys behind into.numbers_are slots_looked items done count first_is numbers_is in
          let firsts = subst AreAscending (sym both) (AllPairs-take (λ (a b : ℕ). a < b) (done + count) items ascending) in
          let before = precede (facts_of xs) (facts_of ys) (ascend first one old so_far ys behind into.numbers_are slots_looked items done count ascending first_is numbers_is) in
          let before_last = subst (λ (its : List Mended). Precede (facts_of xs) (facts_of its)) into.stripes_are before in
          let before_ahead = precede_ahead (facts_of xs) (facts_of ys) ahead firsts in
          let read_apart = append_assoc so_far.fixes.readings into.readings into.ahead.readings in
          record {
            earlier = xs ++ into.earlier;
            last = into.last;
            stripes = xs ++ ys;
            stripes_are = ap (λ (its : List Mended). xs ++ its) into.stripes_are ∙ sym (append_assoc xs into.earlier (into.last ∷ []));
            behind = behind ++ left;
            numbers_are = sym (take-append-drop (done + count) items) ∙ ap (λ (its : List ℕ). its ++ left) (sym both)
                ∙ append_assoc (numbers_of (facts_of xs) ++ numbers_of (facts_of ys)) behind left
                ∙ ap (λ (its : List ℕ). its ++ (behind ++ left)) (sym (numbers_append first one old so_far ys behind into.numbers_are slots_looked));
            are = facts_then plan xs ys so_far.fixes.are (All-left (AreFacts plan) (facts_of ys) ahead into.are);
            level = into.level;
            first = front ++ into.first;
            tells = tells_then plan fault into.level xs into.earlier into.last into.first into.tells;
            told = told_then view standing stands plan.table.columns front into.first old.lines mid.lines new.lines old.reports mid.reports new.reports so_far.fixes.mends.told into.told;
            folders = into.folders ∙ read.folders ∙ so_far.fixes.mends.fits.folders ∙ sym fits_old.folders;
            answered = answered_then plan xs ys old.folders mids (λ d below. told_as d below ∙ (so_far.fixes.mends.makes d below).goes_on.tells) so_far.fixes.mends.answered into.answered;
            cells = all_read_then;
            reads = all_reads;
            readings = so_far.fixes.readings ++ into.readings;
            read = levels_then plan xs ys old.vault mid.vault so_far.fixes.readings into.readings so_far.fixes.mends.vault before so_far.fixes.read into.read;
            ahead = into.ahead;
            looked = record {
              are = All-right (AreFacts plan) (facts_of ys) ahead into.are;
              levels = levels_before plan (facts_of xs) ahead old.vault mid.vault so_far.fixes.mends.vault before_ahead into.ahead.readings into.read_ahead;
              more = left;
              behind_is = refl;
              few = few_ahead count many few;
              to_the_end = ends_at items done count within fill first_is many ends;
            };
            ran = subst (λ (its : List (List LevelReading)). BreaksInLast plan fault into.level (facts_of (xs ++ into.earlier)) into.last.facts ahead its old.vault new.vault) (sym read_apart)
                (breaks_in_last fault plan into.level xs into.earlier into.last ahead so_far.fixes.windows so_far.fixes.readings (into.readings ++ into.ahead.readings) old.vault mid.vault new.vault
                before_last (windows_full view standing stands plan mid first one old so_far items done within fill first_is) so_far.fixes.windows_are so_far.fixes.ran so_far.fixes.mends.vault so_far.fixes.mends.holds into.ran);
            unread = subst (λ (its : List (List LevelReading)). RoseBy (unread_in its) old.vault.faults new.vault.faults) (sym read_apart)
                (unread_then so_far.fixes.readings (into.readings ++ into.ahead.readings) old.vault.faults mid.vault.faults new.vault.faults so_far.fixes.unread into.unread);
            unread_cells_of = λ d below. unread_here d (folder_at new.folders d).faults below (into_any d below).goes_on.later;
            spare = subst (λ (its : List StripeFacts). AsksSpare plan its old.spare new.spare)
                (sym (ap (λ (its : List StripeFacts). its ++ ahead) (facts_append xs ys) ∙ append_assoc (facts_of xs) (facts_of ys) ahead))
                (asks_then plan (facts_of xs) (facts_of ys ++ ahead) old.spare mid.spare new.spare so_far.fixes.spare into.spare);
            makes = files_then plan fault old.starts mid.starts old.states mid.states so_far.fixes.mends.stood xs into.earlier into.last
                old.folders mid.folders new.folders so_far.fixes.mends.makes so_far.fixes.mends.underway since;
            broke = broke_then fault into.broke;
            rose = subst (λ (its : List (List LevelReading)). RoseBeyond fault (facts_of (xs ++ ys) ++ ahead) its old.folders new.folders old.vault new.vault) (sym read_apart)
                (rose_since plan fault (facts_of (xs ++ ys) ++ ahead) so_far.fixes.readings (into.readings ++ into.ahead.readings) into.first old.folders mids new.folders old.vault mid.vault new.vault
                into.broke (λ d below. unread_here d (folder_at mids d).faults below (omega arith)) so_far.fixes.unread into.rose);
          }
