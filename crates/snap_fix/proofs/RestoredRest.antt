-- What a fix leaves of the files of a column as it was: bytes that it did not write, and files of records that it does not finish.
use Rattle.std.proofs.Common.{◌≡◌, ◌≢◌, ℕ, ◌+◌, ◌*◌, ◌<◌, ◌&&◌, ◌==◌, ◌++◌, List, [], ◌∷◌, length, get_or, Bool, true, false, Option, None, Some, IsTrue, refl, sym, ap, ap₂, ◌∙◌, subst, inl, inr, arith}
use Rattle.std.specs.Prelude.{not, if◌then◌else◌}
use Rattle.std.specs.List.{All, flat_map}
use Rattle.std.proofs.lemmas.Bool.{and_from, and_parts, cases_eq, eqb-true, false≢true}
use Rattle.std.proofs.lemmas.List.Elements.{All-contains_itself}
use Rattle.std.proofs.lemmas.List.FromFn.{get_or-map-range_with_len}
use Rattle.disk_model.specs.Folder.{FolderView}
use Rattle.disk_model.specs.Tree.{Tree, File, file_of, path_of}
use Rattle.disk_model.specs.declared.meta.Meta.{Meta}
use Rattle.disk_model.specs.declared.meta.Stamp.{Stamp}
use Rattle.file_table.specs.Table.{record_at, records_in}
use Rattle.file_table.specs.declared.block.Cell.{Cell}
use Rattle.parity_writer.specs.Keeps.{HasByte}
use Rattle.parity_writer.proofs.ElsewhereLemmas.{length-resized}
use Rattle.stripe_reader.specs.Columns.{folder_at}
use Rattle.stripe_reader.specs.Reading.{block_length}
use Rattle.stripe_reader.specs.Starts.{StartsValue, starts_at, start_in}
use Rattle.stripe_reader.specs.declared.starts.Start.{Start}
use Rattle.stripe_reader.specs.declared.starts.Place.{Place}
use Rattle.stripe_reader.specs.declared.starts.Place.TheVariants as place
use Rattle.file_restorer.specs.declared.finishing.Finish.{Finish}
use Rattle.file_restorer.specs.declared.finishing.Finish.TheVariants.{Kept, Restored, Unstamped, Renamed, Gone}
use Rattle.file_restorer.specs.declared.state.FileState.{FileState}
use Rattle.snap_fix.specs.Ending.{FinishesColumn, HoldsEnd, StandsEnd, IsDone, finish_at, finishes_at, is_finished, states_at}
use Rattle.file_restorer.specs.Finishing.{StandsLost, bytes_now, finish_of, lost_finish, lost_after, stamped_finish, whole_finish, is_changed, is_stamped}
use Rattle.snap_fix.specs.FixCourse.{Written}
use Rattle.snap_fix.specs.Mended.{Mended, column_writes, has_lost, is_blocked_cell, is_of, is_repaired, is_written, answer_of, write_of, writes_in, writes_of}
use Rattle.repair_scope.specs.Plan.{FixPlan, cell_at, entry_at, has_selected, is_in_scope}
use Rattle.snap_fix.specs.Restored.{HadNoFile, HasFixed, IsNotWritten, StandsFinished, StandsRestored, StandsUnrecoverable}
use Rattle.file_restorer.specs.State.{HoldsBy, HoldsRecord, IsNameOf, IsTouched, IsUntouched, Write, bytes_or, bytes_placed, has_some, lost_then, place_by, place_in, place_then, record_path, stands, state_in}
use Rattle.snap_fix.specs.Underway.{IsColumnUnderway}
use Rattle.file_restorer.proofs.RecordPathsLemmas.{names_distinct, table_paths}
use Rattle.snap_fix.proofs.RestoredLemmas.{in_size, then_stands}
use Rattle.snap_fix.proofs.RestoredWrites.{Outside, none_covers, puts_keep, repaired_parts}

-- ---- of one file

same_placed : (path : List ℕ) (one other : Tree) → ((lost : Bool) → file_of other (path_of path lost) ≡ file_of one (path_of path lost)) → bytes_placed other path ≡ bytes_placed one path
same_placed path one other same = ap₂ (λ (a b : Option File). bytes_or a (bytes_or b [])) (same false) (same true)

placed_plain : (path : List ℕ) (tree : Tree) (file : File) → file_of tree (path_of path false) ≡ Some file → bytes_placed tree path ≡ file.bytes
placed_plain path tree file is = ap (λ (it : Option File). bytes_or it (bytes_or (file_of tree (path_of path true)) [])) is

placed_lost : (path : List ℕ) (tree : Tree) (file : File) → file_of tree (path_of path false) ≡ None → file_of tree (path_of path true) ≡ Some file → bytes_placed tree path ≡ file.bytes
placed_lost path tree file none is =
    ap (λ (it : Option File). bytes_or it (bytes_or (file_of tree (path_of path true)) [])) none ∙ ap (λ (it : Option File). bytes_or it []) is

abbrev HasFile : Tree → List ℕ → Type 0
HasFile tree path = (file : File) × (file_of tree (path_of path false) ≡ Some file)

plain_has : (one other : Option File) → place_by one other ≡ place.Plain → (file : File) × (one ≡ Some file)
plain_has (Some file) other is = (file, refl)
plain_has None (Some file) is = let clash : place.Lost ≡ place.Plain = is in absurd cc
plain_has None None is = let clash : place.Nowhere ≡ place.Plain = is in absurd cc

nowhere_has : (one other : Option File) → place_by one other ≡ place.Nowhere → (one ≡ None) × (other ≡ None)
nowhere_has (Some file) other is = let clash : place.Plain ≡ place.Nowhere = is in absurd cc
nowhere_has None (Some file) is = let clash : place.Lost ≡ place.Nowhere = is in absurd cc
nowhere_has None None is = (refl, refl)

lost_has : (one other : Option File) → place_by one other ≡ place.Lost → (file : File) × (other ≡ Some file) × (one ≡ None)
lost_has (Some file) other is = let clash : place.Plain ≡ place.Lost = is in absurd cc
lost_has None (Some file) is = (file, refl, refl)
lost_has None None is = let clash : place.Nowhere ≡ place.Lost = is in absurd cc

lost_where : (it : Place) → stands it false ≡ false → it ≢ place.Nowhere → it ≡ place.Lost
lost_where place.Plain is apart = absurd cc
lost_where place.Lost is apart = refl
lost_where place.Nowhere is apart = absurd (apart refl)

plain_where : (it : Place) → stands it false ≡ true → it ≡ place.Plain
plain_where place.Plain is = refl
plain_where place.Lost is = absurd cc
plain_where place.Nowhere is = absurd cc

-- only a file that stands is renamed
not_renamed : (changed is_kept : Bool) → stamped_finish changed is_kept ≡ Renamed → ⊥
not_renamed true is_kept is = let clash : Restored is_kept ≡ Renamed = is in cc
not_renamed false true is = let clash : Restored true ≡ Renamed = is in cc
not_renamed false false is = let clash : Unstamped ≡ Renamed = is in cc

whole_not_renamed : (stamped changed is_kept : Bool) → (if stamped then stamped_finish changed is_kept else Kept) ≡ Renamed → ⊥
whole_not_renamed true changed is_kept is = not_renamed changed is_kept is
whole_not_renamed false changed is_kept is = let clash : Kept ≡ Renamed = is in cc

lost_renamed : (stood : Bool) → (if stood then Renamed else Kept) ≡ Renamed → stood ≡ true
lost_renamed true is = refl
lost_renamed false is = let clash : Kept ≡ Renamed = is in absurd cc

renamed_stood : (meta : Meta) (listed : Option Meta) (start : Start) (state : FileState) (keeps : Stamp → Bool) (lost : Bool)
    → (if lost then lost_finish start state else whole_finish meta listed start state keeps) ≡ Renamed → stands start.place state.touched ≡ true
renamed_stood meta listed start state keeps true is = lost_renamed (stands start.place state.touched) is
renamed_stood meta listed start state keeps false is =
    absurd (whole_not_renamed (is_stamped meta listed start state) (is_changed meta start state) (keeps meta.stamp) is)

-- ---- of a record

module _ (plan : FixPlan) (starts : StartsValue) (stripes : List Mended) (finishes : List (List Finish)) (firsts news : List FolderView)
    (has : HasFixed plan starts stripes finishes firsts news) (d i : ℕ) (column_is : d < length plan.table.columns) (tells : IsTrue (folder_at firsts d).tells)
    (within : i < length (records_in plan.table d)) where
  abbrev path : List ℕ
  path = record_path (records_in plan.table d) i

  abbrev written : Written
  written = has.files.written

  abbrev first : Tree
  first = (folder_at firsts d).tree

  abbrev before : Tree
  before = (folder_at written.folders d).tree

  abbrev later : Tree
  later = (folder_at news d).tree

  abbrev start : Start
  start = start_in (starts_at written.starts.columns d) i

  abbrev state : FileState
  state = state_in written.states d i

  abbrev meta : Meta
  meta = (record_at plan.table.columns d i).meta

  abbrev keeps : Stamp → Bool
  keeps = (folder_at written.folders d).keeps

  abbrev all_writes : List Write
  all_writes = writes_of plan stripes d i

  underway : IsColumnUnderway plan d stripes (folder_at firsts d) (folder_at written.folders d) written.starts written.states
  underway = has.files.writes.underway.each d column_is

  held : HoldsRecord start state all_writes path first before
  held =
      let writes_are : get_or (column_writes plan stripes d (length (records_in plan.table d))) i [] ≡ all_writes =
      get_or-map-range_with_len (writes_of plan stripes d) 0 (length (records_in plan.table d)) i i [] within (omega arith) in
      subst (λ (writes : List Write). HoldsRecord start state writes path first before) writes_are ((underway.holds tells).each i within)

  touched_is : state.touched ≡ true → IsTouched start state all_writes path first before
  touched_is is = subst (λ (b : Bool). HoldsBy b start state all_writes path first before) is held.holds

  untouched_is : state.touched ≡ false → IsUntouched start state all_writes path first before
  untouched_is is = subst (λ (b : Bool). HoldsBy b start state all_writes path first before) is held.holds

  then_tells : IsTrue (folder_at written.folders d).tells
  then_tells = (has.files.writes.makes d column_is).goes_on.tells ∙ tells

  column : FinishesColumn plan written.starts written.states d finishes (folder_at written.folders d) (folder_at news d)
  column = has.files.finished d column_is

  -- ---- bytes that were not written

  byte_before : (x b : ℕ) → All (Outside x) all_writes → HasByte (bytes_placed first path) x b → HasByte (bytes_placed before path) x b
  byte_before x b out was = by (state.touched) refl
    where
      by : (touched : Bool) → state.touched ≡ touched → HasByte (bytes_placed before path) x b
      by false is = subst (λ (bytes : List ℕ). HasByte bytes x b) (sym (same_placed path first before (untouched_is is).same)) was
      by true is =
          let now = touched_is is in
          subst (λ (bytes : List ℕ). HasByte bytes x b) (sym (placed_plain path before now.file now.there ∙ now.bytes))
          (puts_keep (bytes_placed first path) all_writes x b was out)

  stood_before : stands start.place state.touched ≡ true → HasFile before path
  stood_before there = by (state.touched) refl
    where
      by : (touched : Bool) → state.touched ≡ touched → HasFile before path
      by true is = let now = touched_is is in (now.file, now.there)
      by false is =
          let now = untouched_is is in
          let plain : start.place ≡ place.Plain = plain_where start.place (ap (stands start.place) (sym is) ∙ there) in
          let found = plain_has (file_of first (path_of path false)) (file_of first (path_of path true)) (sym now.place ∙ plain) in
          (found.0, now.same false ∙ found.1)

  done : is_finished plan d i ≡ true → finish_at (finishes_at finishes d) i ≡ finish_of meta (entry_at plan d i).listed start state keeps
  done finished = by (column.is i within finished)
    where
      by : IsDone plan d (starts_at written.starts.columns d) (states_at written.states d) (folder_at written.folders d) i (finish_at (finishes_at finishes d) i)
          → finish_at (finishes_at finishes d) i ≡ finish_of meta (entry_at plan d i).listed start state keeps
      by (inl is) = is
      by (inr gone) = absurd (false≢true (sym gone.1 ∙ then_tells))

  renamed_there : is_finished plan d i ≡ true → finish_at (finishes_at finishes d) i ≡ Renamed → HasFile before path
  renamed_there finished is =
      stood_before (renamed_stood meta (entry_at plan d i).listed start state keeps state.lost (sym (done finished) ∙ is))

  byte_finished : (index p b : ℕ) → p < block_length plan.table.shape.block_size meta.size index → (finish : Finish)
      → (finish ≡ Renamed → HasFile before path) → HoldsEnd plan d (starts_at written.starts.columns d) (states_at written.states d) keeps i finish before later
      → HasByte (bytes_placed before path) (index * plan.table.shape.block_size + p) b → HasByte (bytes_placed later path) (index * plan.table.shape.block_size + p) b
  byte_finished index p b less Kept stood ends was =
      subst (λ (bytes : List ℕ). HasByte bytes (index * plan.table.shape.block_size + p) b) (sym (same_placed path before later ends)) was
  byte_finished index p b less Unstamped stood ends was =
      subst (λ (bytes : List ℕ). HasByte bytes (index * plan.table.shape.block_size + p) b) (sym (same_placed path before later ends)) was
  byte_finished index p b less (Restored stamped) stood ends was =
      subst (λ (bytes : List ℕ). HasByte bytes (index * plan.table.shape.block_size + p) b)
      (sym (placed_plain path later ends.file ends.there ∙ ends.bytes_are))
      (in_size (bytes_placed before path) plan.table.shape.block_size meta.size index p b less was)
  byte_finished index p b less Renamed stood ends was =
      let file = stood refl in
      subst (λ (bytes : List ℕ). HasByte bytes (index * plan.table.shape.block_size + p) b)
      (placed_plain path before file.0 file.1 ∙ sym (placed_lost path later file.0 ends.none (ends.moved ∙ file.1))) was
  byte_finished index p b less Gone stood ends was = absurd ends

  other_names : is_finished plan d i ≡ false → (lost : Bool) → file_of later (path_of path lost) ≡ file_of before (path_of path lost)
  other_names not_finished lost =
      column.others then_tells (path_of path lost)
      (λ j other below finished same. elim (cases_eq i j) [
        | inl here ↦ absurd (false≢true (sym not_finished ∙ ap (is_finished plan d) here ∙ finished))
        | inr apart ↦ absurd (names_distinct (records_in plan.table d) (table_paths plan.table d has.valid column_is) j i below within apart lost other same)
      ])

  byte_later : (index p b : ℕ) → p < block_length plan.table.shape.block_size meta.size index
      → HasByte (bytes_placed before path) (index * plan.table.shape.block_size + p) b → HasByte (bytes_placed later path) (index * plan.table.shape.block_size + p) b
  byte_later index p b less was = by (is_finished plan d i) refl
    where
      by : (finished : Bool) → is_finished plan d i ≡ finished → HasByte (bytes_placed later path) (index * plan.table.shape.block_size + p) b
      by true finished =
          byte_finished index p b less (finish_at (finishes_at finishes d) i) (renamed_there finished) (column.holds then_tells i within finished) was
      by false not_finished =
          subst (λ (bytes : List ℕ). HasByte bytes (index * plan.table.shape.block_size + p) b) (sym (same_placed path before later (other_names not_finished))) was

  -- each byte of a cell that was not written stays in the place of its record
  pub byte_stays : (index p b : ℕ) → p < block_length plan.table.shape.block_size meta.size index
      → IsNotWritten plan stripes d (let cell : Cell = record { rec = i; index = index } in cell)
      → HasByte (bytes_placed first path) (index * plan.table.shape.block_size + p) b → HasByte (bytes_placed later path) (index * plan.table.shape.block_size + p) b
  byte_stays index p b less not_written was =
      byte_later index p b less (byte_before (index * plan.table.shape.block_size + p) b (out stripes refl) was)
    where
      at : (none : Mended) (k : ℕ) (other : Cell) → k < length stripes → cell_at plan (get_or stripes k none).facts.stripe d ≡ Some other → other.rec ≡ i
          → is_written plan (get_or stripes k none) d ≡ true → index ≢ other.index
      at none k other inside is same_rec was_written same_index =
          let cell : Cell = record { rec = i; index = index } in
          let same : other ≡ cell = ap₂ (λ (r n : ℕ). (let made : Cell = record { rec = r; index = n } in made)) same_rec (sym same_index) in
          false≢true (sym (not_written (get_or stripes k none) (All-contains_itself stripes k none inside) (is ∙ ap (λ (it : Cell). Some it) same)) ∙ was_written)

      out : (all : List Mended) → stripes ≡ all → All (Outside (index * plan.table.shape.block_size + p)) all_writes
      out [] none = subst (λ (these : List Mended). All (Outside (index * plan.table.shape.block_size + p)) (writes_of plan these d i)) (sym none) (λ k e inside. absurd (omega (arith, inside)))
      out (mended ∷ others) some =
          none_covers plan starts stripes finishes firsts news has d column_is mended i index p (omega (arith, less)) (at mended)

  -- ---- the files of records that are not finished

  writes_none : is_finished plan d i ≡ false → (all : List Mended) → has_some (flat_map (writes_in plan d i) all) ≡ false
  writes_none not_finished [] = refl
  writes_none not_finished (mended ∷ others) =
      let facts = mended.facts in
      subst (λ (writes : List Write). has_some writes ≡ false)
      (sym (ap (λ (one : List Write). one ++ flat_map (writes_in plan d i) others) (here (cell_at plan facts.stripe d) refl)))
      (writes_none not_finished others)
    where
      here : (found : Option Cell) → cell_at plan mended.facts.stripe d ≡ found
          → (if is_of i found && is_written plan mended d then write_of plan d mended.facts found else []) ≡ []
      here None is = refl
      here (Some cell) is = by (cell.rec == i) (is_written plan mended d) refl refl
        where
          by : (same was : Bool) → (cell.rec == i) ≡ same → is_written plan mended d ≡ was → (if same && was then write_of plan d mended.facts (Some cell) else []) ≡ []
          by false was same_is was_is = refl
          by true false same_is was_is = refl
          by true true same_is was_is =
              let parts = repaired_parts plan mended.facts d (and_parts (is_repaired plan mended.facts d) (answer_of mended d) was_is).0 in
              let rec : cell.rec ≡ i = eqb-true cell.rec i same_is in
              let selected : (entry_at plan d i).selected ≡ true =
              ap (λ (n : ℕ). (entry_at plan d n).selected) (sym rec) ∙ ap (has_selected plan d) (sym is)
              ∙ (and_parts (is_in_scope plan mended.facts.stripe) (has_selected plan d (cell_at plan mended.facts.stripe d)) parts.selected).1 in
              let free : not (entry_at plan d i).blocked ≡ true =
              ap (λ (n : ℕ). not (entry_at plan d n).blocked) (sym rec) ∙ ap (λ (it : Option Cell). not (is_blocked_cell plan d it)) (sym is) ∙ parts.free in
              absurd (false≢true (sym not_finished ∙ and_from _ _ selected free))

  pub names_stay : is_finished plan d i ≡ false → (lost : Bool) → file_of later (path_of path lost) ≡ file_of first (path_of path lost)
  names_stay not_finished lost =
      other_names not_finished lost
      ∙ (untouched_is (underway.touched tells i within ∙ writes_none not_finished stripes)).same lost

  -- ---- the files of records that are

  stands_restored : is_finished plan d i ≡ true → has_lost plan stripes d i ≡ false → StandsRestored (folder_at firsts d).keeps meta path later
  stands_restored finished none =
      let stood : StandsEnd plan d (starts_at written.starts.columns d) keeps i before later = column.whole then_tells i within finished (underway.lost i within ∙ none) in
      record {
        file = stood.file;
        there = stood.there;
        size = ap length stood.bytes_are ∙ length-resized (bytes_now before path) meta.size;
        stamp = λ kept. stood.stamp (ap (λ (keeps_it : Stamp → Bool). keeps_it meta.stamp) (has.files.writes.makes d column_is).goes_on.keeps ∙ kept);
      }

  -- what stood under PATH`.unrecoverable` stays, but where the file was renamed back
  other_stays : is_finished plan d i ≡ true → has_lost plan stripes d i ≡ false → place_in first path ≡ place.Plain
      → file_of later (path_of path true) ≡ file_of first (path_of path true)
  other_stays finished none plain =
      let stood : StandsEnd plan d (starts_at written.starts.columns d) keeps i before later = column.whole then_tells i within finished (underway.lost i within ∙ none) in
      stood.lost ∙ ap₂ lost_after place_now other_now
    where
      place_now : start.place ≡ place.Plain
      place_now = by (state.touched) refl
        where
          by : (touched : Bool) → state.touched ≡ touched → start.place ≡ place.Plain
          by true is = (touched_is is).place ∙ ap place_then plain
          by false is = (untouched_is is).place ∙ plain

      other_now : file_of before (path_of path true) ≡ file_of first (path_of path true)
      other_now = by (state.touched) refl
        where
          by : (touched : Bool) → state.touched ≡ touched → file_of before (path_of path true) ≡ file_of first (path_of path true)
          by true is = (touched_is is).lost ∙ ap (λ (it : Place). lost_then it (file_of first (path_of path true))) plain
          by false is = (untouched_is is).same true

  -- none stands there else
  other_gone : is_finished plan d i ≡ true → has_lost plan stripes d i ≡ false → place_in first path ≢ place.Plain → file_of later (path_of path true) ≡ None
  other_gone finished none apart =
      let stood : StandsEnd plan d (starts_at written.starts.columns d) keeps i before later = column.whole then_tells i within finished (underway.lost i within ∙ none) in
      stood.lost ∙ by (place_in first path) refl (state.touched) refl
    where
      by : (it : Place) → place_in first path ≡ it → (touched : Bool) → state.touched ≡ touched → lost_after start.place (file_of before (path_of path true)) ≡ None
      by place.Plain here touched is = absurd (apart here)
      by place.Lost here true is =
          ap₂ lost_after ((touched_is is).place ∙ ap place_then here)
          ((touched_is is).lost ∙ ap (λ (it : Place). lost_then it (file_of first (path_of path true))) here)
      by place.Lost here false is = ap (λ (it : Place). lost_after it (file_of before (path_of path true))) ((untouched_is is).place ∙ here)
      by place.Nowhere here true is =
          ap₂ lost_after ((touched_is is).place ∙ ap place_then here)
          ((touched_is is).lost ∙ ap (λ (it : Place). lost_then it (file_of first (path_of path true))) here)
      by place.Nowhere here false is =
          ap₂ lost_after ((untouched_is is).place ∙ here)
          ((untouched_is is).same true ∙ (nowhere_has (file_of first (path_of path false)) (file_of first (path_of path true)) here).1)

  lost_finish_is : is_finished plan d i ≡ true → has_lost plan stripes d i ≡ true → finish_at (finishes_at finishes d) i ≡ lost_finish start state
  lost_finish_is finished some =
      done finished ∙ ap (λ (b : Bool). if b then lost_finish start state else whole_finish meta (entry_at plan d i).listed start state keeps) (underway.lost i within ∙ some)

  ends_by : is_finished plan d i ≡ true → (finish : Finish) → finish_at (finishes_at finishes d) i ≡ finish
      → HoldsEnd plan d (starts_at written.starts.columns d) (states_at written.states d) keeps i finish before later
  ends_by finished finish is =
      subst (λ (it : Finish). HoldsEnd plan d (starts_at written.starts.columns d) (states_at written.states d) keeps i it before later) is (column.holds then_tells i within finished)

  -- where no file stands under PATH, nothing was written
  not_touched : stands start.place state.touched ≡ false → state.touched ≡ false
  not_touched absent = by (state.touched) refl
    where
      by : (touched : Bool) → state.touched ≡ touched → state.touched ≡ false
      by false is = is
      by true is = absurd (false≢true (sym absent ∙ ap (stands start.place) is ∙ then_stands start.place (place_in first path) (touched_is is).place))

  stands_unrecoverable : is_finished plan d i ≡ true → has_lost plan stripes d i ≡ true → ¬ (HadNoFile plan stripes d i first) → StandsUnrecoverable path later
  stands_unrecoverable finished some had = by (stands start.place state.touched) refl
    where
      by : (stood : Bool) → stands start.place state.touched ≡ stood → StandsUnrecoverable path later
      by true stood =
          let renamed : finish_at (finishes_at finishes d) i ≡ Renamed = lost_finish_is finished some ∙ ap (λ (b : Bool). if b then Renamed else Kept) stood in
          let ends : StandsLost path before later = ends_by finished Renamed renamed in
          let file = renamed_there finished renamed in
          record { file = file.0; there = ends.moved ∙ file.1; none = ends.none }
      by false stood =
          let kept : finish_at (finishes_at finishes d) i ≡ Kept = lost_finish_is finished some ∙ ap (λ (b : Bool). if b then Renamed else Kept) stood in
          let ends : (other : Bool) → file_of later (path_of path other) ≡ file_of before (path_of path other) = ends_by finished Kept kept in
          let untouched : state.touched ≡ false = not_touched stood in
          let now = untouched_is untouched in
          let absent : stands (place_in first path) false ≡ false = ap₂ stands (sym now.place) (sym untouched) ∙ stood in
          let file = lost_has (file_of first (path_of path false)) (file_of first (path_of path true))
          (lost_where (place_in first path) absent (λ nowhere. had (nowhere, ap has_some now.none))) in
          record { file = file.0; there = ends true ∙ now.same true ∙ file.1; none = ends false ∙ now.same false ∙ file.2 }

  stands_nowhere : is_finished plan d i ≡ true → has_lost plan stripes d i ≡ true → place_in first path ≡ place.Nowhere → has_some all_writes ≡ false
      → (lost : Bool) → file_of later (path_of path lost) ≡ None
  stands_nowhere finished some nowhere none lost =
      let now = untouched_is (underway.touched tells i within ∙ none) in
      let absent : stands start.place state.touched ≡ false =
      ap (stands start.place) (underway.touched tells i within ∙ none) ∙ ap (λ (it : Place). stands it false) (now.place ∙ nowhere) in
      let kept : finish_at (finishes_at finishes d) i ≡ Kept =
      lost_finish_is finished some ∙ ap (λ (b : Bool). if b then Renamed else Kept) absent in
      let ends : (other : Bool) → file_of later (path_of path other) ≡ file_of before (path_of path other) =
      subst (λ (finish : Finish). HoldsEnd plan d (starts_at written.starts.columns d) (states_at written.states d) keeps i finish before later) kept (column.holds then_tells i within finished) in
      let files = nowhere_has (file_of first (path_of path false)) (file_of first (path_of path true)) nowhere in
      ends lost ∙ now.same lost ∙ by lost files
    where
      by : (other : Bool) → (file_of first (path_of path false) ≡ None) × (file_of first (path_of path true) ≡ None) → file_of first (path_of path other) ≡ None
      by false files = files.0
      by true files = files.1

  pub stands_finished : is_finished plan d i ≡ true → StandsFinished plan stripes d i (folder_at firsts d).keeps first later
  stands_finished finished = record {
    whole = stands_restored finished;
    kept = other_stays finished;
    gone = other_gone finished;
    unrecoverable = stands_unrecoverable finished;
    nowhere = λ some had. stands_nowhere finished some had.0 had.1;
  }

-- ---- of names that no record has

pub others_stay : (plan : FixPlan) (starts : StartsValue) (stripes : List Mended) (finishes : List (List Finish)) (firsts news : List FolderView)
    → HasFixed plan starts stripes finishes firsts news → (d : ℕ) → d < length plan.table.columns → IsTrue (folder_at firsts d).tells
    → (name : List ℕ) → ¬ (IsNameOf (records_in plan.table d) name) → file_of (folder_at news d).tree name ≡ file_of (folder_at firsts d).tree name
others_stay plan starts stripes finishes firsts news has d below tells name apart =
    let then_told : IsTrue (folder_at has.files.written.folders d).tells = (has.files.writes.makes d below).goes_on.tells ∙ tells in
    (has.files.finished d below).others then_told name (λ i lost within finished same. apart (i, lost, within, same))
    ∙ ((has.files.writes.underway.each d below).holds tells).others name apart
