-- All blocks were written: the files of the selected records can be finished.
use Rattle.std.proofs.Common.{◌≡◌, ◌≢◌, ◌⊎◌, inl, inr, ℕ, ◌<◌, ◌≤◌, ◌&&◌, not, List, [], ◌∷◌, length, get_or, Bool, true, false, IsTrue, Option, None, Some, refl, sym, ap, ap₂, ◌∙◌, subst, arith, length-append}
use Rattle.std.specs.Option.{option_map}
use Rattle.std.proofs.lemmas.Bool.Decides.{eqb_tells}
use Rattle.disk_model.specs.Folder.{FolderView}
use Rattle.disk_model.specs.Path.{lost_suffix}
use Rattle.disk_model.specs.Tree.{Tree, File, IsApart, file_of, is_directory_of, meta_of, path_of}
use Rattle.disk_model.specs.declared.meta.Meta.{Meta}
use Rattle.disk_model.proofs.TreeLemmas.{own_name}
use Rattle.file_table.specs.Table.{Record, records_in}
use Rattle.file_table.specs.Valid.{IsValid}
use Rattle.stripe_reader.specs.Columns.{folder_at}
use Rattle.stripe_reader.specs.Starts.{StartsFit, StartsValue, no_start, starts_at}
use Rattle.stripe_reader.specs.declared.starts.Place.{Place}
use Rattle.stripe_reader.specs.declared.starts.Place.TheVariants.{Plain, Lost, Nowhere}
use Rattle.stripe_reader.specs.declared.starts.Start.{Start}
use Rattle.file_restorer.specs.declared.state.FileState.{FileState}
use Rattle.snap_fix.specs.Ending.{CanFinishAll, CanFinishFile, is_finished, states_at}
use Rattle.file_restorer.specs.Finishing.{FitsTree}
use Rattle.snap_fix.specs.Mended.{Mended, column_writes}
use Rattle.file_restorer.specs.Mending.{IsFree, StatesFit}
use Rattle.repair_scope.specs.Plan.{EntriesFit, FixPlan, entry_at}
use Rattle.file_restorer.specs.State.{HoldsBy, HoldsColumn, HoldsRecord, IsNameOf, IsTouched, IsUntouched, Write, bytes_or, bytes_placed, lost_then, no_state, place_by, place_in, place_then, puts, record_path, stands}
use Rattle.snap_fix.specs.Underway.{AreFixable, AreUnderway}
use Rattle.snap_fix.proofs.EndingFilesLemmas.{names_not_nested}
use Rattle.snap_fix.proofs.FixTreeLemmas.{there_is}
use Rattle.file_restorer.proofs.MendedColumnLemmas.{apart_now}
use Rattle.file_restorer.proofs.RecordPathsLemmas.{ArePaths, nested_is, table_paths}

-- ---- no file stands in the way

-- the name of a lost file is no directory of a name of its own record
own_apart : (path : List ℕ) (lost : Bool) → is_directory_of (path_of path true) (path_of path lost) ≡ true → ⊥
own_apart path lost is =
    let nested = nested_is (path_of path true) (path_of path lost) is in
    let longer = ap length nested.1 ∙ length-append (path_of path true) (47 ∷ nested.0) in
    let short = by lost in
    omega (arith, longer, short)
  where
    by : (l : Bool) → length (path_of path l) ≤ length (path_of path true)
    by true = omega arith
    by false = let one = length-append path lost_suffix in let other = length-append path [] in omega (arith, one, other)

if_not : (b : Bool) → (b ≡ true → ⊥) → b ≡ false
if_not true wrong = absurd (wrong refl)
if_not false wrong = refl

module _ (records : List Record) (are : ArePaths records) (starts : List Start) (states : List FileState) (writes : List (List Write)) (first later : Tree)
    (held : HoldsColumn records starts states writes first later) (i : ℕ) (within : i < length records) where
  abbrev path : List ℕ
  path = record_path records i

  not_named : (name : List ℕ) → is_directory_of (path_of path true) name ≡ true → ¬ (IsNameOf records name)
  not_named name is named =
      let k = named.0 in
      let lost = named.1 in
      let inside : is_directory_of (path_of path true) (path_of (record_path records k) lost) ≡ true = subst (λ (n : List ℕ). is_directory_of (path_of path true) n ≡ true) named.3 is in
      elim (eqb_tells k i) [
        | inl same ↦ own_apart path lost (subst (λ (j : ℕ). is_directory_of (path_of path true) (path_of (record_path records j) lost) ≡ true) same.1 inside)
        | inr other ↦
            let apart : is_directory_of (path_of path true) (path_of (record_path records k) lost) ≡ false = names_not_nested records are k i named.2 within (λ same. other.1 (sym same)) true lost in
            let clash : true ≡ false = sym inside ∙ apart in
            cc
      ]

  plain_stays : (file : File) → file_of first path ≡ Some file → file_of later path ≢ None
  plain_stays file is none = by (get_or states i no_state).touched (held.each i within).holds
    where
      none_there : file_of later (path_of path false) ≡ None
      none_there = ap (file_of later) (own_name path) ∙ none

      by : (touched : Bool) → HoldsBy touched (get_or starts i no_start) (get_or states i no_state) (get_or writes i []) path first later → ⊥
      by true h = there_is (file_of later (path_of path false)) h.file h.there none_there
      by false h = there_is (file_of later (path_of path false)) file (h.same false ∙ ap (file_of first) (own_name path) ∙ is) none_there

  -- what could stand under the names of a record at first may stand there
  free_now : IsFree first path → IsFree later path
  free_now free = record {
    plain = by (file_of first path) refl;
    lost = λ name there. if_not (is_directory_of (path_of path true) name) (λ is.
        let same : file_of later name ≡ file_of first name = held.others name (not_named name is) in
        let clash : true ≡ false = sym is ∙ free.lost name (λ none. there (same ∙ none)) in
        cc);
  }
    where
      by : (there : Option File) → file_of first path ≡ there → (file_of later path ≢ None) ⊎ IsApart later path
      by None none = inr (apart_now records are starts states writes first later held i within free none)
      by (Some file) is = inl (plain_stays file is)

-- ---- where the file of a record stands

plain_by : (one two : Option File) → stands (place_by one two) false ≡ true → one ≢ None
plain_by (Some file) two is none = absurd cc
plain_by None (Some file) is none = let clash : false ≡ true = is in absurd cc
plain_by None None is none = let clash : false ≡ true = is in absurd cc

absent_by : (one two : Option File) → stands (place_by one two) false ≡ false → one ≡ None
absent_by (Some file) two is = let clash : true ≡ false = is in absurd cc
absent_by None two is = refl

lost_by : (one two : Option File) → place_by one two ≡ Lost → two ≢ None
lost_by (Some file) two is none = absurd cc
lost_by None (Some file) is none = absurd cc
lost_by None None is none = absurd cc

nowhere_by : (one two : Option File) → place_by one two ≡ Nowhere → two ≡ None
nowhere_by (Some file) two is = absurd cc
nowhere_by None (Some file) is = absurd cc
nowhere_by None None is = refl

stands_then : (place : Place) → stands (place_then place) true ≡ true
stands_then Plain = refl
stands_then Lost = refl
stands_then Nowhere = refl

never_lost : (place : Place) → place_then place ≢ Lost
never_lost Plain is = absurd cc
never_lost Lost is = absurd cc
never_lost Nowhere is = absurd cc

none_then : (place : Place) (file : Option File) → place_then place ≡ Nowhere → lost_then place file ≡ None
none_then Plain file is = absurd cc
none_then Lost file is = refl
none_then Nowhere file is = refl

module _ (path : List ℕ) (listed : Option Meta) (start : Start) (writes : List Write) (first later : Tree) (listed_is : listed ≡ option_map meta_of (file_of first path)) where
  fits_touched : (state : FileState) → state.touched ≡ true → IsTouched start state writes path first later
      → state.size ≡ length (puts (bytes_placed first path) writes) → FitsTree path listed start state later
  fits_touched state touched h size = record {
    plain = λ is. there_is (file_of later (path_of path false)) h.file h.there;
    absent = λ is.
        let yes : stands start.place state.touched ≡ true = ap₂ stands h.place touched ∙ stands_then (place_in first path) in
        let clash : true ≡ false = sym yes ∙ is in
        absurd cc;
    lost = λ is. absurd (never_lost (place_in first path) (sym h.place ∙ is));
    nowhere = λ is. h.lost ∙ none_then (place_in first path) (file_of first (path_of path true)) (sym h.place ∙ is);
    size = size ∙ sym (ap length (ap (λ (o : Option File). bytes_or o (bytes_or (file_of later (path_of path true)) [])) h.there ∙ h.bytes));
    recorded = λ untouched place file there. let clash : true ≡ false = sym touched ∙ untouched in absurd cc;
  }

  fits_untouched : (state : FileState) → state.touched ≡ false → IsUntouched start state writes path first later
      → state.size ≡ length (puts (bytes_placed first path) writes) → FitsTree path listed start state later
  fits_untouched state untouched h size =
      let one = file_of later (path_of path false) in
      let two = file_of later (path_of path true) in
      let place : start.place ≡ place_by one two = h.place ∙ sym (ap₂ place_by (h.same false) (h.same true)) in
      let standing : stands start.place state.touched ≡ stands (place_by one two) false = ap₂ stands place untouched in
      let bytes : puts (bytes_placed first path) writes ≡ bytes_placed later path =
      ap (puts (bytes_placed first path)) h.none ∙ sym (ap₂ (λ (a b : Option File). bytes_or a (bytes_or b [])) (h.same false) (h.same true)) in
      record {
        plain = λ is. plain_by one two (sym standing ∙ is);
        absent = λ is. absent_by one two (sym standing ∙ is);
        lost = λ is. lost_by one two (sym place ∙ is);
        nowhere = λ is. nowhere_by one two (sym place ∙ is);
        size = size ∙ ap length bytes;
        recorded = λ _ plain file there. listed_is ∙ ap (option_map meta_of) (ap (file_of first) (sym (own_name path)) ∙ sym (h.same false) ∙ there);
      }

  -- what is held of a record's file is where its start and its state say
  fits_now : (state : FileState) → HoldsRecord start state writes path first later → FitsTree path listed start state later
  fits_now state held = by state.touched refl held.holds
    where
      by : (touched : Bool) → state.touched ≡ touched → HoldsBy touched start state writes path first later → FitsTree path listed start state later
      by true is h = fits_touched state is h held.size
      by false is h = fits_untouched state is h held.size

-- ---- all of them

unblocked : (selected blocked : Bool) → (selected && not blocked) ≡ true → blocked ≡ false
unblocked true true is = sym is
unblocked true false is = refl
unblocked false blocked is = let clash : false ≡ true = is in absurd cc

module _ (plan : FixPlan) (valid : IsValid plan.table) (stripes : List Mended) (firsts nows : List FolderView) (starts : StartsValue) (states : List (List FileState))
    (fixable : AreFixable plan firsts) (underway : AreUnderway plan stripes firsts nows starts states)
    (listed : (d : ℕ) → d < length plan.table.columns → IsTrue (folder_at firsts d).tells → (i : ℕ) → i < length (records_in plan.table d)
    → (entry_at plan d i).listed ≡ option_map meta_of (file_of (folder_at firsts d).tree (record_path (records_in plan.table d) i))) where
  can_finish_file : (d : ℕ) → d < length plan.table.columns → IsTrue (folder_at nows d).tells → (i : ℕ) → i < length (records_in plan.table d) → is_finished plan d i ≡ true
      → CanFinishFile plan d (starts_at starts.columns d) (states_at states d) i (folder_at nows d).tree
  can_finish_file d within told i below finished =
      let column = underway.each d within in
      let told_first : IsTrue (folder_at firsts d).tells = subst IsTrue column.calls.goes_on.tells told in
      let records = records_in plan.table d in
      let writes = column_writes plan stripes d (length records) in
      let held = column.holds told_first in
      let free_first = (fixable d within).free told_first i below (unblocked (entry_at plan d i).selected (entry_at plan d i).blocked finished) in
      record {
        free = free_now records (table_paths plan.table d valid within) (starts_at starts.columns d) (states_at states d) writes (folder_at firsts d).tree (folder_at nows d).tree held i below free_first;
        fits = fits_now (record_path records i) (entry_at plan d i).listed _ _ (folder_at firsts d).tree (folder_at nows d).tree (listed d within told_first i below) _ (held.each i below);
      }

  pub can_finish : length nows ≡ length plan.table.columns → EntriesFit plan.table plan.entries → StartsFit plan.table starts → StatesFit plan.table states → CanFinishAll plan starts states nows
  can_finish folders_are entries_fit starts_fit states_fit = record {
    folders_are = folders_are;
    entries_fit = entries_fit;
    starts_fit = starts_fit;
    states_fit = states_fit;
    each = λ d within. record {
      is_open = λ some. (underway.each d within).calls.goes_on.closed ∙ (fixable d within).is_open some;
      each = λ told i below finished. can_finish_file d within told i below finished;
    };
  }
