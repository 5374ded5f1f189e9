-- Records by their paths, vanished records, and the fates of files one after another.
use Rattle.std.proofs.Common.{◌≡◌, ℕ, zero, suc, ◌+◌, ◌-◌, ◌<◌, ◌≤◌, ◌&&◌, ◌||◌, List, [], ◌∷◌, length, map, take, drop, get_or, filter, cond, not, Bool, true, false, refl, sym, ap, ◌∙◌, subst, arith, IfSome, Option, None, Some}
use Rattle.std.specs.List.{slice_get, range_with_len, list_any, position, position_or_len}
use Rattle.std.specs.Option.{is_none}
use Rattle.std.specs.BTreeMap.{BTreeMap, get}
use Rattle.std.proofs.lemmas.Grind.{common_steps}
use Rattle.std.proofs.lemmas.List.{drop-drop, take_more, get_or-map}
use Rattle.std.proofs.lemmas.List.Sums.{fails_before_first, sum_by_push}
use Rattle.std.proofs.lemmas.List.Quantifiers.{position-Some}
use Rattle.std.specs.Cmp.Lexicographic.{bytes_decides}
use Rattle.disk_model.specs.declared.meta.Meta.{Meta}
use Rattle.disk_model.specs.declared.meta.FileInfo.{FileInfo}
use Rattle.disk_model.specs.Tree.{listed}
use Rattle.file_table.specs.Table.{Record, Column, HasPath, no_record, no_meta, record_in}
use Rattle.array_scan.specs.declared.lost.Node.{Node}
use Rattle.array_scan.specs.declared.sorting.Fate.{Fate}
use Rattle.folder_listing.specs.Kept.{ListedFile}
use Rattle.array_scan.specs.Fates.{record_of, file_of, record_with, is_listed, may_move, is_vanished, vanished, is_rival, rivals, source_of, fate_by, fate_of}
use Rattle.folder_listing.specs.Kept.{same_meta}
use Rattle.array_scan.specs.Lost.{Key, with_first, without_first, source_in, left_by}
use Rattle.array_scan.proofs.LostLemmas.{Left, same_is}

-- ---- the record of a path

position_none : {X : Type 0} (p : X → Bool) (xs : List X) (k : ℕ) (d : X) → position p xs ≡ None → k < length xs → p (get_or xs k d) ≡ false
position_none p xs k d none within =
    let long : length xs ≤ position_or_len p xs = grind (arith, common_steps) in
    fails_before_first p xs k d (omega arith)

pub record_found : (column : Column) (path : List ℕ) (r : Option ℕ) → IfSome r (λ i. HasPath column i path) → ((i : ℕ) → HasPath column i path → r ≡ Some i) → r ≡ record_with column.records path
record_found column path r found only =
    (elim (record_with column.records path) as (λ (o : Option ℕ). record_with column.records path ≡ o → r ≡ o) [
      | Some i ↦ λ is.
          let h = position-Some (λ (kept : Record). Rattle.std.specs.Str.bytes_eq kept.path path) column.records i no_record is in
          only i (record { within = h.0; path_is = (bytes_decides (record_in column i).path path).0 h.1 })
      | None ↦ λ is. none_found r is found
    ]) refl
  where
    none_found : (r : Option ℕ) → record_with column.records path ≡ None → IfSome r (λ i. HasPath column i path) → r ≡ None
    none_found None is found = refl
    none_found (Some j) is found =
        let yes = (bytes_decides (record_in column j).path path).1 found.path_is in
        let no = position_none (λ (kept : Record). Rattle.std.specs.Str.bytes_eq kept.path path) column.records j no_record is found.within in
        absurd cc

pub found_within : (column : Column) (path : List ℕ) (r : Option ℕ) → IfSome r (λ i. HasPath column i path) → IfSome r (λ i. i < length column.records)
found_within column path None found = tt
found_within column path (Some i) found = found.within

-- ---- marks

pub any_mapped : {X Y : Type 0} (f : X → Y) (p : Y → Bool) (xs : List X) → list_any p (map f xs) ≡ list_any (λ (x : X). p (f x)) xs
any_mapped f p [] = refl
any_mapped f p (x ∷ xs) = ap (λ (t : Bool). p (f x) || t) (any_mapped f p xs)

-- ---- vanished records

pub left_like : (nodes : List Node) (heads : BTreeMap Key ℕ) (f g : Meta → List ℕ) → ((meta : Meta) → may_move meta ≡ true → f meta ≡ g meta) → Left nodes heads f → Left nodes heads g
left_like nodes heads f g same left meta moves = subst (Rattle.array_scan.specs.Lost.IsChain nodes (get Rattle.array_scan.specs.Lost.key_cmp heads (Rattle.array_scan.specs.Lost.key_of meta))) (same meta moves) (left meta moves)

-- the vanished records from one on
abbrev pub vanished_from : List Record → List ListedFile → ℕ → Meta → List ℕ
vanished_from records files from meta = filter (is_vanished records files meta) (range_with_len from (length records - from))

pub range_down : (from n : ℕ) → from < n → range_with_len from (n - from) ≡ from ∷ range_with_len (from + 1) (n - (from + 1))
range_down from n below =
    let count : n - from ≡ suc (n - (from + 1)) = omega arith in
    ap (range_with_len from) count

vanished-down : (records : List Record) (files : List ListedFile) (from : ℕ) (meta : Meta) → from < length records
    → vanished_from records files from meta ≡ cond (is_vanished records files meta from) (from ∷ vanished_from records files (from + 1) meta) (vanished_from records files (from + 1) meta)
vanished-down records files from meta below = ap (filter (is_vanished records files meta)) (range_down from (length records) below)

pub one_vanished : (records : List Record) (files : List ListedFile) (from : ℕ) (meta other : Meta) → from < length records → is_listed records files from ≡ false → (record_of records from).meta ≡ meta
    → with_first (vanished_from records files (from + 1)) from meta other ≡ vanished_from records files from other
one_vanished records files from meta other below unlisted meta_is =
    sym (vanished-down records files from other below
    ∙ ap (λ (t : Bool). cond (not t && same_meta (record_of records from).meta other) (from ∷ vanished_from records files (from + 1) other) (vanished_from records files (from + 1) other)) unlisted
    ∙ ap (λ (m : Meta). cond (same_meta m other) (from ∷ vanished_from records files (from + 1) other) (vanished_from records files (from + 1) other)) meta_is)

pub none_vanished : (records : List Record) (files : List ListedFile) (from : ℕ) (other : Meta) → from < length records → is_listed records files from ≡ true
    → vanished_from records files (from + 1) other ≡ vanished_from records files from other
none_vanished records files from other below is =
    sym (vanished-down records files from other below
    ∙ ap (λ (t : Bool). cond (not t && same_meta (record_of records from).meta other) (from ∷ vanished_from records files (from + 1) other) (vanished_from records files (from + 1) other)) is)

-- ---- one file more

pub first_dropped : {X : Type 0} (n : ℕ) (xs : List X) → slice_get (drop n xs) 0 ≡ slice_get xs n
first_dropped zero [] = refl
first_dropped zero (x ∷ xs) = refl
first_dropped (suc n) [] = refl
first_dropped (suc n) (x ∷ xs) = first_dropped n xs

-- what the files before one leave
abbrev pub left_before : List Record → List ListedFile → ℕ → Meta → List ℕ
left_before records files k meta = drop (rivals records (take k files) meta) (vanished records files meta)

pub source_is : (records : List Record) (files : List ListedFile) (k : ℕ) (meta : Meta) → source_in (left_before records files k) meta ≡ source_of records files k meta
source_is records files k meta =
    ap (λ (o : Option ℕ). cond (may_move meta) o None) (first_dropped (rivals records (take k files) meta) (vanished records files meta))

rivals_more : (records : List Record) (files : List ListedFile) (k : ℕ) (other : Meta) (d : ListedFile) → k < length files
    → rivals records (take (k + 1) files) other ≡ rivals records (take k files) other + cond (is_rival records other (get_or files k d)) 1 0
rivals_more records files k other d within =
    ap (λ (fs : List ListedFile). rivals records fs other) (take_more files k d within) ∙ sum_by_push (λ (f : ListedFile). cond (is_rival records other f) 1 0) (take k files) (get_or files k d)

pub left_after : (records : List Record) (files : List ListedFile) (k : ℕ) (d : ListedFile) (named : Option ℕ) (other : Meta) → k < length files → named ≡ record_with records (get_or files k d).0 → may_move other ≡ true
    → left_by (is_none named && may_move (get_or files k d).1) (left_before records files k) (get_or files k d).1 other ≡ left_before records files (k + 1) other
left_after records files k d named other within named_is moves =
    let file = get_or files k d in
    let n = rivals records (take k files) other in
    let xs = vanished records files other in
    let count : rivals records (take (k + 1) files) other ≡ n + cond (is_none named && same_meta file.1 other) 1 0 =
    rivals_more records files k other d within ∙ ap (λ (o : Option ℕ). n + cond (is_none o && same_meta file.1 other) 1 0) (sym named_is) in
    by_cases named file.1 n xs refl ∙ ap (λ (m : ℕ). drop m xs) (sym count)
  where
    plus_zero : (n : ℕ) (xs : List ℕ) → drop n xs ≡ drop (n + 0) xs
    plus_zero n xs = let e : n ≡ n + 0 = omega arith in ap (λ (m : ℕ). drop m xs) e

    by_same : (meta : Meta) (n : ℕ) (xs : List ℕ) (t : Bool) → same_meta meta other ≡ t → cond t (drop 1 (drop n xs)) (drop n xs) ≡ drop (n + cond t 1 0) xs
    by_same meta n xs true same = drop-drop 1 n xs
    by_same meta n xs false same = plus_zero n xs

    by_moves : (meta : Meta) (n : ℕ) (xs : List ℕ) (f : Meta → List ℕ) (t : Bool) → may_move meta ≡ t → f other ≡ drop n xs → left_by t f meta other ≡ drop (n + cond (same_meta meta other) 1 0) xs
    by_moves meta n xs f true may is =
        ap (λ (ys : List ℕ). cond (same_meta meta other) (drop 1 ys) ys) is ∙ by_same meta n xs (same_meta meta other) refl
    by_moves meta n xs f false may is =
        is ∙ ((elim (same_meta meta other) as (λ (t : Bool). same_meta meta other ≡ t → drop n xs ≡ drop (n + cond t 1 0) xs) [
          | true ↦ λ same. let wrong : true ≡ false = sym moves ∙ ap may_move (sym (same_is meta other same)) ∙ may in absurd cc
          | false ↦ λ apart. plus_zero n xs
        ]) refl)

    by_cases : (named : Option ℕ) (meta : Meta) (n : ℕ) (xs : List ℕ) → left_before records files k other ≡ drop n xs
        → left_by (is_none named && may_move meta) (left_before records files k) meta other ≡ drop (n + cond (is_none named && same_meta meta other) 1 0) xs
    by_cases None meta n xs is = by_moves meta n xs (left_before records files k) (may_move meta) refl is
    by_cases (Some i) meta n xs is = is ∙ plus_zero n xs

pub fate_is : (records : List Record) (files : List ListedFile) (k : ℕ) (named : Option ℕ) (meta : Meta) (fate : Fate) → named ≡ record_with records (file_of files k).0 → meta ≡ (file_of files k).1
    → fate ≡ fate_by records meta named (source_in (left_before records files k) meta) → fate ≡ fate_of records files k
fate_is records files k named meta fate named_is meta_is is =
    is ∙ ap (fate_by records meta named) (source_is records files k meta)
    ∙ ap (λ (o : Option ℕ). fate_by records meta o (source_of records files k meta)) named_is
    ∙ ap (λ (m : Meta). fate_by records m (record_with records (file_of files k).0) (source_of records files k m)) meta_is

-- a file of a list of views
pub file_at : (files : List FileInfo) (k : ℕ) (file : FileInfo) → k < length files → file ≡ get_or files k file → (file.path, file.meta) ≡ file_of (listed files) k
file_at files k file within is =
    ap (λ (f : FileInfo). (f.path, f.meta)) is ∙ sym (get_or-map (λ (f : FileInfo). (f.path, f.meta)) files k file ([], no_meta) within)
