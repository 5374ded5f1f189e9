-- The sorted files of a column.
use Rattle.std.proofs.Common.{◌≡◌, ℕ, zero, suc, ◌+◌, ◌<◌, List, [], ◌∷◌, length, get_or, cond, Bool, true, false, refl, sym, ◌∙◌, subst, arith, All, Option, None, Some}
use Rattle.std.specs.List.{slice_get, range_with_len}
use Rattle.std.specs.Str.{bytes_eq}
use Rattle.std.proofs.lemmas.List.FromFn.{length-map-range_with_len, get_or-map-range_with_len, get_or-range_with_len, length-range_with_len}
use Rattle.std.proofs.lemmas.List.Elements.{All-head, All-tail, All-filter}
use Rattle.std.proofs.lemmas.List.Quantifiers.{position-Some}
use Rattle.disk_model.specs.Stamp.{IsStamp}
use Rattle.disk_model.specs.declared.meta.Meta.{Meta}
use Rattle.file_table.specs.Table.{Record, no_record, no_meta}
use Rattle.folder_listing.specs.Kept.{ListedFile}
use Rattle.array_scan.specs.Fates.{record_of, file_of, record_with, may_move, is_vanished, vanished, source_of, fate_with, fate_without, fate_by, fate_of, sorted_file, sorted_files, HasRecord, IsSound, rivals}
use Rattle.folder_listing.specs.Kept.{same_meta}

in_list : {X : Type 0} (P : X → Type 0) (xs : List X) (n : ℕ) (x : X) → All P xs → slice_get xs n ≡ Some x → P x
in_list P [] n x all is = absurd cc
in_list P (y ∷ ys) zero x all is = let same : y ≡ x = cc in subst P same (All-head P y ys all)
in_list P (y ∷ ys) (suc n) x all is = in_list P ys n x (All-tail P y ys all) is

pub range_below : (n : ℕ) → All (λ i. i < n) (range_with_len 0 n)
range_below n k d within =
    let below : k < n = omega (arith, length-range_with_len 0 n, within) in
    let at : get_or (range_with_len 0 n) k d ≡ k = omega (arith, get_or-range_with_len 0 n k d below) in
    subst (λ (i : ℕ). i < n) (sym at) below

without_within : (count : ℕ) (o : Option ℕ) → ((i : ℕ) → o ≡ Some i → i < count) → HasRecord count (fate_without o)
without_within count None within = tt
without_within count (Some i) within = within i refl

with_within : (count i : ℕ) (t : Bool) → i < count → HasRecord count (fate_with t i)
with_within count i true within = within
with_within count i false within = within

source_within : (records : List Record) (files : List ListedFile) (k : ℕ) (meta : Meta) (i : ℕ) → source_of records files k meta ≡ Some i → i < length records
source_within records files k meta i is =
    (elim (may_move meta) as (λ (t : Bool). cond t (slice_get (vanished records files meta) (rivals records (Rattle.std.proofs.Common.take k files) meta)) None ≡ Some i → i < length records) [
      | true ↦ λ e. in_list (λ j. j < length records) (vanished records files meta) (rivals records (Rattle.std.proofs.Common.take k files) meta) i
          (All-filter (is_vanished records files meta) (λ j. j < length records) (range_with_len 0 (length records)) (range_below (length records))) e
      | false ↦ λ e. absurd cc
    ]) is

pub fate_within : (records : List Record) (files : List ListedFile) (k : ℕ) → HasRecord (length records) (fate_of records files k)
fate_within records files k =
    let path = (file_of files k).0 in
    let meta = (file_of files k).1 in
    (elim (record_with records path) as (λ (o : Option ℕ). record_with records path ≡ o → HasRecord (length records) (fate_by records meta o (source_of records files k meta))) [
      | None ↦ λ is. without_within (length records) (source_of records files k meta) (source_within records files k meta)
      | Some i ↦ λ is. with_within (length records) i (same_meta (record_of records i).meta meta) (position-Some (λ (kept : Record). bytes_eq kept.path path) records i no_record is).0
    ]) refl

pub sorted_sound : (records : List Record) (files : List ListedFile) → All (λ (file : ListedFile). IsStamp file.1.stamp) files → All (IsSound (length records)) (sorted_files records files)
sorted_sound records files stamps k d within =
    let below : k < length files = omega (arith, length-map-range_with_len (sorted_file records files) 0 (length files), within) in
    let at : get_or (sorted_files records files) k d ≡ sorted_file records files k = get_or-map-range_with_len (sorted_file records files) 0 (length files) k k d below (omega arith) in
    let here : IsSound (length records) (sorted_file records files k) = record { rec = fate_within records files k; stamp = stamps k ([], no_meta) below } in
    subst (IsSound (length records)) (sym at) here
