-- A cell of a table that is mended: its record can be written, and what comes of the write.
use Rattle.std.proofs.Common.{◌≡◌, ℕ, List, [], ◌∷◌, ◌++◌, get_or, set, Bool, true, false, IsTrue, Option, None, Some, refl, sym, ap, ◌∙◌, subst, arith}
use Rattle.std.proofs.lemmas.List.{get_or-set_same}
use Rattle.disk_model.specs.Folder.{FolderView, FolderCall}
use Rattle.disk_model.specs.Tree.{Tree, File, file_of, path_of}
use Rattle.disk_model.proofs.TreeLemmas.{own_name}
use Rattle.disk_model.specs.declared.fault.FileFault.{FileFault}
use Rattle.disk_model.specs.declared.fault.FileFault.TheVariants.{Failed, Missing}
use Rattle.file_table.specs.Table.{Record, TableValue, records_in}
use Rattle.file_table.specs.Valid.{IsValid}
use Rattle.file_table.specs.declared.block.Cell.{Cell}
use Rattle.stripe_reader.specs.Starts.{StartsValue, starts_at, start_in}
use Rattle.stripe_reader.specs.declared.starts.Start.{Start}
use Rattle.stripe_reader.specs.declared.starts.Place.{Place}
use Rattle.stripe_reader.specs.declared.starts.Place.TheVariants.{Plain, Lost, Nowhere}
use Rattle.file_restorer.specs.declared.state.FileState.{FileState}
use Rattle.file_restorer.specs.Breaking.{StepFails}
use Rattle.file_restorer.specs.Mending.{IsBlockCall, CanSetUp, CanWrite, WritesBytes, FindsNone, EndsBy, MendsCell, MendsNot, block_start, cell_path, with_write, with_place}
use Rattle.file_restorer.specs.State.{Write, HoldsBy, HoldsRecord, HoldsColumn, place_by, place_in, place_then, stands, state_in}
use Rattle.file_restorer.specs.Order.{block_calls}
use Rattle.file_restorer.proofs.RecordPathsLemmas.{ArePaths, table_paths}
use Rattle.file_restorer.proofs.MendedColumnLemmas.{column_goes_on, apart_now}

-- a file that does not stand under its path did not stand there at first
absent_first : (start : Start) (state : FileState) (writes : List Write) (path : List ℕ) (first tree : Tree) → HoldsRecord start state writes path first tree
    → stands start.place state.touched ≡ false → file_of first path ≡ None
absent_first start state writes path first tree held falls = by state.touched refl held.holds
  where
    absent : (one other : Option File) → stands (place_by one other) false ≡ false → one ≡ None
    absent None other is = refl
    absent (Some file) other is = absurd cc

    -- where it was touched, it stands there, or it stood nowhere
    still : (place : Place) → stands (place_then place) true ≡ true
    still Plain = refl
    still Lost = refl
    still Nowhere = refl

    by : (touched : Bool) → state.touched ≡ touched → HoldsBy touched start state writes path first tree → file_of first path ≡ None
    by true is h = absurd (
        let yes : stands start.place state.touched ≡ true = ap (λ (t : Bool). stands start.place t) is ∙ ap (λ (p : Place). stands p true) h.place ∙ still (place_in first path) in
        let clash : true ≡ false = sym yes ∙ falls in cc)
    by false is h =
        let falls_there : stands (place_in first path) false ≡ false = sym (ap (λ (p : Place). stands p false) h.place) ∙ sym (ap (λ (t : Bool). stands start.place t) is) ∙ falls in
        ap (file_of first) (sym (own_name path)) ∙ absent (file_of first (path_of path false)) (file_of first (path_of path true)) falls_there

-- What comes of each answer of the call that writes a record, by what it was given, and by the starts and states after it.
pub record Mends (table : TableValue) (d : ℕ) (cell : Cell) (bytes : List ℕ) (starts : StartsValue) (states : List (List FileState)) (folder : FolderView)
    (path : List ℕ) (at : ℕ) (start : Start) (state : FileState) (start_new : Start) (state_new : FileState) (folder_new : FolderView)
    (starts_new : StartsValue) (states_new : List (List FileState)) : Type 0 where
  pub written : WritesBytes path at bytes start state folder start_new state_new folder_new
      → MendsCell table d cell bytes true starts states folder starts_new states_new folder_new
  pub none : (fault : FileFault) → fault ≡ Missing → EndsBy fault (IsBlockCall start.place path at bytes) (block_calls start.place state.touched path at bytes) path start state folder start_new state_new folder_new
      → MendsCell table d cell bytes false starts states folder starts_new states_new folder_new
  pub failed : (fault : FileFault) → fault ≡ Failed → EndsBy fault (IsBlockCall start.place path at bytes) (block_calls start.place state.touched path at bytes) path start state folder start_new state_new folder_new
      → MendsNot table d cell bytes starts states folder folder_new

module _ (table : TableValue) (d : ℕ) (cell : Cell) (bytes : List ℕ) (starts : StartsValue) (states : List (List FileState)) (folder : FolderView)
    (valid : IsValid table) (can : CanWrite table d cell bytes starts states folder) where
  abbrev records : List Record
  records = records_in table d

  abbrev path : List ℕ
  path = cell_path table d cell

  abbrev start : Start
  start = start_in (starts_at starts.columns d) cell.rec

  abbrev state : FileState
  state = state_in states d cell.rec

  -- its record can be written
  pub cell_ready : CanSetUp path start state folder
  cell_ready = record {
    may = λ falls told.
        let far = can.underway told in
        record {
          is_open = can.is_open;
          valid = (are.each cell.rec can.rec).valid;
          apart = apart_now records are (starts_at starts.columns d) (get_or states d []) far.writes far.first folder.tree far.holds cell.rec can.rec far.free
              (absent_first start state (get_or far.writes cell.rec []) path far.first folder.tree (far.holds.each cell.rec can.rec) falls);
        };
    so_far = λ told.
        let far = can.underway told in
        record { first = far.first; writes = get_or far.writes cell.rec []; holds = far.holds.each cell.rec can.rec };
  }
    where
      are : ArePaths records
      are = table_paths table d valid can.column

  -- What is known of the call that writes its record: what it was given, and the starts and states after it.
  module _ (path_given : List ℕ) (at_given : ℕ) (start_given : Start) (state_given : FileState)
      (path_is : path_given ≡ path) (at_is : at_given ≡ block_start table cell) (start_is : start_given ≡ start) (state_is : state_given ≡ state) where
    pub given_ready : CanSetUp path_given start_given state_given folder
    given_ready =
        subst (λ (p : List ℕ). CanSetUp p start_given state_given folder) (sym path_is)
        (subst (λ (s : Start). CanSetUp path s state_given folder) (sym start_is)
        (subst (λ (s : FileState). CanSetUp path start s folder) (sym state_is) cell_ready))

    module _ (start_new : Start) (state_new : FileState) (folder_new : FolderView) (starts_new : StartsValue) (states_new : List (List FileState))
        (starts_are : starts_new ≡ record { columns = set starts.columns d (set (starts_at starts.columns d) cell.rec start_new) })
        (states_are : states_new ≡ set states d (set (get_or states d []) cell.rec state_new)) where
      abbrev Block : FolderCall → Type 0
      Block = IsBlockCall start.place path (block_start table cell) bytes

      abbrev BlockGiven : FolderCall → Type 0
      BlockGiven = IsBlockCall start_given.place path_given at_given bytes

      abbrev calls_given : List FolderCall
      calls_given = block_calls start_given.place state_given.touched path_given at_given bytes

      -- a fact of what the call was given is one of the cell
      of_cell : (P : List ℕ → ℕ → Start → FileState → Type 0) → P path_given at_given start_given state_given → P path (block_start table cell) start state
      of_cell P given =
          subst (λ (p : List ℕ). P p (block_start table cell) start state) path_is
          (subst (λ (n : ℕ). P path_given n start state) at_is
          (subst (λ (s : Start). P path_given at_given s state) start_is
          (subst (λ (s : FileState). P path_given at_given start_given s) state_is given)))

      abbrev write : Write
      write = record { at = block_start table cell; bytes = bytes }

      same_starts : start_new.size ≡ start.size → starts_new ≡ with_place starts d cell.rec start_new.place
      same_starts size = starts_are
          ∙ ap (λ (n : ℕ). record { columns = set starts.columns d (set (starts_at starts.columns d) cell.rec (record { place = start_new.place; size = n })) }) size

      column_starts : starts_at starts_new.columns d ≡ set (starts_at starts.columns d) cell.rec start_new
      column_starts = ap (λ (s : StartsValue). starts_at s.columns d) starts_are ∙ get_or-set_same starts.columns d _ [] (omega (arith, can.starts_fit.columns, can.column))

      column_states : get_or states_new d [] ≡ set (get_or states d []) cell.rec state_new
      column_states = ap (λ (s : List (List FileState)). get_or s d []) states_are ∙ get_or-set_same states d _ [] (omega (arith, can.states_fit.columns, can.column))

      -- it was written
      mends_written : WritesBytes path_given at_given bytes start_given state_given folder start_new state_new folder_new
          → MendsCell table d cell bytes true starts states folder starts_new states_new folder_new
      mends_written given =
          let written = of_cell (λ p n s t. WritesBytes p n bytes s t folder start_new state_new folder_new) given in
          let goes_on = written.goes_on in
          record {
            place = start_new.place;
            state = state_new;
            starts_are = same_starts goes_on.same_size;
            stood = goes_on.stood;
            size = goes_on.size;
            states_are = states_are;
            same_lost = goes_on.same_lost;
            touched = λ is. written.touched;
            stays_touched = goes_on.stays_touched;
            there = λ told. refl;
            wrote = λ is. written.wrote;
            makes = goes_on.makes;
            holds = λ first writes same free tree held told.
                let here : IsTrue folder.tells = subst IsTrue same told in
                let column = held told in
                subst (λ (s : List Start). HoldsColumn records s (get_or states_new d []) (with_write writes cell.rec write) first.tree folder_new.tree) (sym column_starts)
                (subst (λ (s : List FileState). HoldsColumn records (set (starts_at starts.columns d) cell.rec start_new) s (with_write writes cell.rec write) first.tree folder_new.tree) (sym column_states)
                (column_goes_on records (table_paths table d valid can.column) (starts_at starts.columns d) (get_or states d []) writes first.tree folder.tree column cell.rec can.rec
                start_new state_new (get_or writes cell.rec [] ++ write ∷ []) folder_new.tree
                (goes_on.holds here first.tree (get_or writes cell.rec []) (column.each cell.rec can.rec)) (goes_on.others here)));
          }

      -- its file was gone
      mends_none : FindsNone BlockGiven calls_given path_given start_given state_given folder start_new state_new folder_new
          → MendsCell table d cell bytes false starts states folder starts_new states_new folder_new
      mends_none given =
          let finds = of_cell (λ p n s t. FindsNone (IsBlockCall s.place p n bytes) (block_calls s.place t.touched p n bytes) p s t folder start_new state_new folder_new) given in
          let clash : ¬ (IsTrue folder.tells) = λ told. absurd (let same : IsTrue false = subst IsTrue finds.untold told in cc) in
          record {
            place = start_new.place;
            state = state_new;
            starts_are = same_starts finds.goes_on.same_size;
            stood = finds.goes_on.stood;
            size = finds.goes_on.size;
            states_are = states_are;
            same_lost = finds.goes_on.same_lost;
            touched = λ is. absurd cc;
            stays_touched = finds.goes_on.stays_touched;
            there = λ told. absurd (clash told);
            wrote = λ is. absurd (let none : false ≡ true = is in cc);
            makes = finds.goes_on.makes;
            holds = λ first writes same free tree held told. absurd (clash (subst IsTrue same told));
          }

      -- a call failed
      mends_not : StepFails BlockGiven calls_given folder folder_new → MendsNot table d cell bytes starts states folder folder_new
      mends_not given = of_cell (λ p n s t. StepFails (IsBlockCall s.place p n bytes) (block_calls s.place t.touched p n bytes) folder folder_new) given

      pub mends : Mends table d cell bytes starts states folder path_given at_given start_given state_given start_new state_new folder_new starts_new states_new
      mends = record {
        written = mends_written;
        none = λ fault is ends. mends_none (subst (λ (f : FileFault). EndsBy f BlockGiven calls_given path_given start_given state_given folder start_new state_new folder_new) is ends);
        failed = λ fault is ends. mends_not (subst (λ (f : FileFault). EndsBy f BlockGiven calls_given path_given start_given state_given folder start_new state_new folder_new) is ends);
      }
