-- What is held of one record, once its file is renamed back, made or written.
use Rattle.std.proofs.Common.{◌≡◌, ◌≢◌, ℕ, ◌+◌, ◌-◌, max, List, [], ◌∷◌, ◌++◌, length, Option, None, Some, Bool, true, false, refl, sym, ◌∙◌, ap, subst, arith}
use Rattle.std.specs.FinMap as map
use Rattle.disk_model.specs.Bytes.{put}
use Rattle.disk_model.specs.Tree.{Tree, File, file_of, path_of}
use Rattle.disk_model.specs.Writing.{ChangesFile, Writes, made, or_added, moved, renamed}
use Rattle.disk_model.specs.declared.meta.Stamp.{Stamp}
use Rattle.disk_model.proofs.BytesLemmas.{length-put}
use Rattle.disk_model.proofs.TreeLemmas.{set_here, set_other, gone_here, own_name, two_names}
use Rattle.stripe_reader.specs.declared.starts.Start.{Start}
use Rattle.stripe_reader.specs.declared.starts.Place.{Place}
use Rattle.stripe_reader.specs.declared.starts.Place.TheVariants.{Plain, Lost, Nowhere}
use Rattle.file_restorer.specs.declared.state.FileState.{FileState}
use Rattle.file_restorer.specs.State.{Write, puts, bytes_or, bytes_placed, place_by, place_in, place_then, lost_then, IsUntouched, IsTouched, HoldsBy, HoldsRecord, stands}

-- ---- the place of a file

placed_lost : (one other : Option File) → place_by one other ≡ Lost → (one ≡ None) × ((file : File) × (other ≡ Some file))
placed_lost None None is = absurd cc
placed_lost None (Some file) is = (refl, (file, refl))
placed_lost (Some file) other is = absurd cc

placed_nowhere : (one other : Option File) → place_by one other ≡ Nowhere → (one ≡ None) × (other ≡ None)
placed_nowhere None None is = (refl, refl)
placed_nowhere None (Some file) is = absurd cc
placed_nowhere (Some file) other is = absurd cc

placed_plain : (one other : Option File) → place_by one other ≡ Plain → (file : File) × (one ≡ Some file)
placed_plain None None is = absurd cc
placed_plain None (Some file) is = absurd cc
placed_plain (Some file) other is = (file, refl)

not_lost_then : (place : Place) → place_then place ≢ Lost
not_lost_then Plain is = absurd cc
not_lost_then Lost is = absurd cc
not_lost_then Nowhere is = absurd cc

plain_stands : (place : Place) → stands place false ≡ true → place ≡ Plain
plain_stands Plain is = refl
plain_stands Lost is = absurd cc
plain_stands Nowhere is = absurd cc

some_is : (o : Option File) (file : File) → o ≡ Some file → o ≢ None
some_is o file is none = absurd cc

-- ---- one more write

pub puts-append : (file : List ℕ) (writes : List Write) (write : Write) → puts file (writes ++ write ∷ []) ≡ put (puts file writes) write.at write.bytes
puts-append file [] write = refl
puts-append file (first ∷ writes) write = puts-append (put file first.at first.bytes) writes write

most : (a b : ℕ) → a + (b - a) ≡ max b a
most a b = omega arith

-- the size of a file after one more write
pub size_written : (file : List ℕ) (writes : List Write) (write : Write) → length (puts file (writes ++ write ∷ [])) ≡ max (length (puts file writes)) (write.at + length write.bytes)
size_written file writes write = ap length (puts-append file writes write) ∙ length-put (puts file writes) write.at write.bytes ∙ most (write.at + length write.bytes) (length (puts file writes))

-- the states and starts that calls make
abbrev pub touched_state : FileState → FileState
touched_state state = record { lost = state.lost; touched = true; size = state.size }

abbrev pub plain_start : Start → Start
plain_start start = record { place = Plain; size = start.size }

abbrev pub written_state : FileState → ℕ → FileState
written_state state end = record { lost = state.lost; touched = true; size = max state.size end }

module _ (start : Start) (state : FileState) (writes : List Write) (path : List ℕ) (first tree : Tree) (held : HoldsRecord start state writes path first tree) where
  abbrev own : List ℕ
  own = path_of path false

  abbrev other : List ℕ
  other = path_of path true

  -- it was touched, or it wasn't
  by_touched : {A : Type 0} → (state.touched ≡ true → IsTouched start state writes path first tree → A) → (state.touched ≡ false → IsUntouched start state writes path first tree → A) → A
  by_touched {A = A} did not_yet = by state.touched refl held.holds
    where
      by : (t : Bool) → state.touched ≡ t → HoldsBy t start state writes path first tree → A
      by true is h = did is h
      by false is h = not_yet is h

  -- where the file stood under the other name, it does so yet
  pub lost_there : start.place ≡ Lost → file_of tree other ≢ None
  lost_there lost = by_touched
      (λ is held. absurd (not_lost_then (place_in first path) (sym held.place ∙ lost)))
      (λ is held. let at = placed_lost (file_of first own) (file_of first other) (sym held.place ∙ lost) in
      some_is (file_of tree other) at.1.0 (held.same true ∙ at.1.1))

  -- where a file stands, it is there
  pub plain_there : stands start.place state.touched ≡ true → file_of tree own ≢ None
  plain_there stand = by_touched
      (λ is held. some_is (file_of tree own) held.file held.there)
      (λ is held.
      let plain : start.place ≡ Plain = plain_stands start.place (subst (λ (t : Bool). stands start.place t ≡ true) is stand) in
      let at = placed_plain (file_of first own) (file_of first other) (sym held.place ∙ plain) in
      some_is (file_of tree own) at.0 (held.same false ∙ at.1))

  -- renamed back
  pub renamed_back : (new : Tree) → start.place ≡ Lost → new ≡ renamed other own tree → HoldsRecord (plain_start start) (touched_state state) writes path first new
  renamed_back new lost is = by_touched
      (λ touched held. absurd (not_lost_then (place_in first path) (sym held.place ∙ lost)))
      (λ untouched held.
      let place : place_in first path ≡ Lost = sym held.place ∙ lost in
      let at = placed_lost (file_of first own) (file_of first other) place in
      let file = at.1.0 in
      let here : file_of tree other ≡ Some file = held.same true ∙ at.1.1 in
      let step : new ≡ map.insert (map.remove tree other) own file = is ∙ ap (λ (o : Option File). moved o other own tree) here in
      let bytes : bytes_placed first path ≡ file.bytes = ap (λ (o : Option File). bytes_or o (bytes_or (file_of first other) [])) at.0 ∙ ap (λ (o : Option File). bytes_or o []) at.1.1 in
      record {
        holds = record {
          place = sym (ap place_then place);
          file = file;
          there = ap (λ (t : Tree). file_of t own) step ∙ set_here (map.remove tree other) own file;
          bytes = sym bytes ∙ ap (puts (bytes_placed first path)) (sym held.none);
          lost = ap (λ (t : Tree). file_of t other) step ∙ set_other (map.remove tree other) own file other (λ same. absurd (let clash : true ≡ false = two_names path true false same in cc))
              ∙ gone_here tree other ∙ sym (ap (λ (p : Place). lost_then p (file_of first other)) place);
        };
        size = held_size;
      })
    where
      held_size : state.size ≡ length (puts (bytes_placed first path) writes)
      held_size = held.size

  -- made
  pub made_anew : (stamp : Stamp) (new : Tree) → start.place ≡ Nowhere → state.touched ≡ false → new ≡ made path stamp tree → HoldsRecord start (touched_state state) writes path first new
  made_anew stamp new nowhere untouched is = by_touched
      (λ touched held. absurd cc)
      (λ same held.
      let place : place_in first path ≡ Nowhere = sym held.place ∙ nowhere in
      let at = placed_nowhere (file_of first own) (file_of first other) place in
      let empty : File = record { stamp = stamp; bytes = [] } in
      let none : file_of tree path ≡ None = ap (file_of tree) (sym (own_name path)) ∙ held.same false ∙ at.0 in
      let step : new ≡ map.insert tree path empty = is ∙ ap (λ (o : Option File). or_added o path empty tree) none in
      let bytes : bytes_placed first path ≡ [] = ap (λ (o : Option File). bytes_or o (bytes_or (file_of first other) [])) at.0 ∙ ap (λ (o : Option File). bytes_or o []) at.1 in
      record {
        holds = record {
          place = nowhere ∙ sym (ap place_then place);
          file = empty;
          there = ap (file_of new) (own_name path) ∙ ap (λ (t : Tree). file_of t path) step ∙ set_here tree path empty;
          bytes = sym bytes ∙ ap (puts (bytes_placed first path)) (sym held.none);
          lost = ap (λ (t : Tree). file_of t other) step ∙ set_other tree path empty other (λ same. absurd (let clash : true ≡ false = two_names path true false (same ∙ sym (own_name path)) in cc))
              ∙ held.same true ∙ at.1 ∙ sym (ap (λ (p : Place). lost_then p (file_of first other)) place);
        };
        size = held_size;
      })
    where
      held_size : state.size ≡ length (puts (bytes_placed first path) writes)
      held_size = held.size

  -- written
  pub written_more : (at : ℕ) (bytes : List ℕ) (new : Tree) → stands start.place state.touched ≡ true → ChangesFile path (Writes at bytes) tree new
      → HoldsRecord start (written_state state (at + length bytes)) (writes ++ record { at = at; bytes = bytes } ∷ []) path first new
  written_more at bytes new stand change = by_touched
      (λ touched held. record {
        holds = after held.file held.there (put_more held.file held.bytes) held.place held.lost;
        size = more_size;
      })
      (λ untouched held.
      let plain : start.place ≡ Plain = plain_stands start.place (subst (λ (t : Bool). stands start.place t ≡ true) untouched stand) in
      let place : place_in first path ≡ Plain = sym held.place ∙ plain in
      let at_first = placed_plain (file_of first own) (file_of first other) place in
      let bytes : at_first.0.bytes ≡ puts (bytes_placed first path) writes =
      sym (ap (λ (o : Option File). bytes_or o (bytes_or (file_of first other) [])) at_first.1) ∙ ap (puts (bytes_placed first path)) (sym held.none) in
      record {
        holds = after at_first.0 (held.same false ∙ at_first.1) (put_more at_first.0 bytes) (plain ∙ sym (ap place_then place))
            (held.same true ∙ sym (ap (λ (p : Place). lost_then p (file_of first other)) place));
        size = more_size;
      })
    where
      write : Write
      write = record { at = at; bytes = bytes }

      more_size : max state.size (at + length bytes) ≡ length (puts (bytes_placed first path) (writes ++ write ∷ []))
      more_size = ap (λ n. max n (at + length bytes)) held.size ∙ sym (size_written (bytes_placed first path) writes write)

      put_more : (file : File) → file.bytes ≡ puts (bytes_placed first path) writes → put file.bytes at bytes ≡ puts (bytes_placed first path) (writes ++ write ∷ [])
      put_more file is = ap (λ bs. put bs at bytes) is ∙ sym (puts-append (bytes_placed first path) writes write)

      after : (file : File) → file_of tree own ≡ Some file → put file.bytes at bytes ≡ puts (bytes_placed first path) (writes ++ write ∷ [])
          → start.place ≡ place_then (place_in first path) → file_of tree other ≡ lost_then (place_in first path) (file_of first other)
          → IsTouched start (written_state state (at + length bytes)) (writes ++ write ∷ []) path first new
      after file there is place lost =
          let to = change.some file (ap (file_of tree) (sym (own_name path)) ∙ there) in
          record {
            place = place;
            file = to.0;
            there = ap (file_of new) (own_name path) ∙ ap (λ (t : Tree). file_of t path) to.2 ∙ set_here tree path to.0;
            bytes = to.1 ∙ is;
            lost = ap (λ (t : Tree). file_of t other) to.2 ∙ set_other tree path to.0 other (λ same. absurd (let clash : true ≡ false = two_names path true false (same ∙ sym (own_name path)) in cc)) ∙ lost;
          }
