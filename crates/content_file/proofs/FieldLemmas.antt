-- The tests of fields, as the builder answers them.
use Rattle.std.proofs.Common.{◌≡◌, ℕ, ◌<◌, ◌≤◌, Bool, true, false, not, ◌&&◌, ◌||◌, ltb, List, length, get_or, Some, None, refl, sym, ap, ◌∙◌, arith, IsTrue}
use Rattle.std.specs.Prelude.{◌↔◌, Decides, IsUtf8}
use Rattle.std.proofs.lemmas.Bool.Decides.{Decides-and, Decides-not, Decides-ltb, nat_tests}
use Rattle.std.proofs.lemmas.List.{get_or_default}
use Rattle.std.proofs.lemmas.List.Sums.{AllPass-from_list_all}
use Rattle.std.proofs.lemmas.Str.{IsUtf8-from_ascii}
use Rattle.std.proofs.lemmas.Str.Ascii.{IsAscii-from_all}
use Rattle.disk_model.specs.Name.{IsName, is_name_byte}
use Rattle.disk_model.specs.Path.{IsRecordPath, IsValidPath}
use Rattle.file_table.specs.declared.info.Mark.{Mark}
use Rattle.file_table.specs.declared.info.Mark.TheVariants.{Pending, Synced}
use Rattle.file_table.specs.declared.fault.BuildFault.{BuildFault}
use Rattle.file_table.specs.declared.fault.BuildFault.TheVariants as builds
use Rattle.file_table.specs.Table.{Column, column_blocks}
use Rattle.file_table.specs.Valid.{IsHashedAt, most_columns}
use Rattle.file_table.specs.Building.{BuildingValue, IsNewName, Uses, last_column, IsPathFault, IsPositionFault}
use Rattle.content_file.specs.Tests.{is_name, is_named, is_record_path, is_greatest, is_nested, is_used, is_hashed, is_pending}
use Rattle.content_file.specs.Flaw.{Good, Bad, Path, Order, ◌>>=◌, and_then, found_or, passed_or}
use Rattle.content_file.specs.Fault.{path_flaw}
use Rattle.content_file.specs.FirstFlaw.{read_path}
use Rattle.content_file.specs.Reading.{long_text_at}
use Rattle.content_file.proofs.TestsLemmas.{is_name-Decides, is_named-Decides, is_record_path-Decides, is_greatest-Decides, is_nested-Decides, is_used-Decides, is_hashed-Decides}

pub decides_false : {P : Type 0} (b : Bool) → Decides b P → ¬ P → b ≡ false
decides_false true d never = absurd (never (d.0 refl))
decides_false false d never = refl

-- ---- names

name_byte_is_ascii : (b : ℕ) → is_name_byte b ≡ true → b < 128
name_byte_is_ascii b e = grind (arith, nat_tests)

name_is_utf8 : (name : List ℕ) → IsName name → IsUtf8 name
name_is_utf8 name is =
    let pass = AllPass-from_list_all is_name_byte name is.bytes in
    IsUtf8-from_ascii name (IsAscii-from_all name (λ k d lt. name_byte_is_ascii _ (pass k d lt)))

pub no_text_is_no_name : (columns : List Column) (name : List ℕ) → ¬ (IsUtf8 name) → (is_name name && not (is_named columns name)) ≡ false
no_text_is_no_name columns name never =
    decides_false _ (Decides-and _ _ (is_name-Decides name) (Decides-not _ (is_named-Decides columns name))) (λ h. never (name_is_utf8 name h.0))

pub new_name_passes : (columns : List Column) (name : List ℕ) → IsNewName columns name → (is_name name && not (is_named columns name)) ≡ true
new_name_passes columns name is =
    (Decides-and _ _ (is_name-Decides name) (Decides-not _ (is_named-Decides columns name))).1 (is.allowed, λ found. is.new found.0 found.1 found.2 (ap (λ (c : Column). c.name) found.3 ∙ found.4))

pub other_name_fails : (columns : List Column) (name : List ℕ) → length columns < most_columns → ¬ (IsNewName columns name) → (is_name name && not (is_named columns name)) ≡ false
other_name_fails columns name room never =
    decides_false _ (Decides-and _ _ (is_name-Decides name) (Decides-not _ (is_named-Decides columns name)))
    (λ h. never (record { allowed = h.0; new = λ k d lt e. h.1 (k, get_or columns k d, lt, get_or_default columns k (get_or columns k d) d lt, e); room = room }))

-- ---- paths

read_path_as : (columns : List Column) (bytes path rest : List ℕ) (b1 b2 b3 : Bool) → long_text_at bytes ≡ Some (path, rest)
    → is_record_path path ≡ b1 → is_greatest (last_column columns).records path ≡ b2 → not (is_nested (last_column columns).records path) ≡ b3
    → read_path (last_column columns).records bytes ≡ (passed_or Path bytes b1 (path, rest) >>= λ allowed. passed_or Order bytes b2 allowed >>= λ greater. passed_or Path bytes b3 greater)
unfolding read_path and_then found_or passed_or
read_path_as columns bytes path rest true true true found e1 e2 e3 = rw (found, e1, e2, e3) refl
read_path_as columns bytes path rest true true false found e1 e2 e3 = rw (found, e1, e2, e3) refl
read_path_as columns bytes path rest true false b3 found e1 e2 e3 = rw (found, e1, e2) refl
read_path_as columns bytes path rest false b2 b3 found e1 e2 e3 = rw (found, e1) refl

pub path_passes : (columns : List Column) (bytes path rest : List ℕ) → long_text_at bytes ≡ Some (path, rest) → IsPathFault columns path None → read_path (last_column columns).records bytes ≡ Good (path, rest)
unfolding and_then passed_or
path_passes columns bytes path rest found fault =
    let last = last_column columns in
    read_path_as columns bytes path rest true true true found ((is_record_path-Decides path).1 fault.0) ((is_greatest-Decides last.name last.records path).1 fault.1)
    ((Decides-not _ (is_nested-Decides last.name last.records path)).1 fault.2)

pub no_path : (columns : List Column) (bytes path rest : List ℕ) → long_text_at bytes ≡ Some (path, rest) → ¬ (IsRecordPath path) → read_path (last_column columns).records bytes ≡ Bad Path bytes
unfolding and_then passed_or
no_path columns bytes path rest found never =
    read_path_as columns bytes path rest false _ _ found (decides_false _ (is_record_path-Decides path) never) refl refl

pub no_path_text : (columns : List Column) (bytes path rest : List ℕ) → long_text_at bytes ≡ Some (path, rest) → ¬ (IsUtf8 path) → read_path (last_column columns).records bytes ≡ Bad Path bytes
no_path_text columns bytes path rest found never = no_path columns bytes path rest found (λ is. never is.valid.utf8)

pub no_valid_path : (columns : List Column) (bytes path rest : List ℕ) → long_text_at bytes ≡ Some (path, rest) → ¬ (IsValidPath path) → read_path (last_column columns).records bytes ≡ Bad Path bytes
no_valid_path columns bytes path rest found never = no_path columns bytes path rest found (λ is. never is.valid)

path_out_of_order : (columns : List Column) (bytes path rest : List ℕ) → long_text_at bytes ≡ Some (path, rest) → IsPathFault columns path (Some builds.Order) → read_path (last_column columns).records bytes ≡ Bad Order bytes
unfolding and_then passed_or
path_out_of_order columns bytes path rest found fault =
    let last = last_column columns in
    read_path_as columns bytes path rest true false _ found ((is_record_path-Decides path).1 fault.0) (decides_false _ (is_greatest-Decides last.name last.records path) fault.1) refl

nested : (columns : List Column) (bytes path rest : List ℕ) → long_text_at bytes ≡ Some (path, rest) → IsPathFault columns path (Some builds.Nested) → read_path (last_column columns).records bytes ≡ Bad Path bytes
unfolding and_then passed_or
nested columns bytes path rest found fault =
    let last = last_column columns in
    read_path_as columns bytes path rest true true false found ((is_record_path-Decides path).1 fault.0) ((is_greatest-Decides last.name last.records path).1 fault.1)
    (decides_false _ (Decides-not _ (is_nested-Decides last.name last.records path)) (λ other. other fault.2))

pub path_refused : (fault : BuildFault) (columns : List Column) (bytes path rest : List ℕ) → long_text_at bytes ≡ Some (path, rest) → IsPathFault columns path (Some fault) → read_path (last_column columns).records bytes ≡ Bad (path_flaw fault) bytes
path_refused builds.Name columns bytes path rest found fault = no_path columns bytes path rest found fault
path_refused builds.Nested columns bytes path rest found fault = nested columns bytes path rest found fault
path_refused builds.Order columns bytes path rest found fault = path_out_of_order columns bytes path rest found fault
path_refused _ columns bytes path rest found fault = absurd fault

-- ---- positions

abbrev is_free : BuildingValue → ℕ → Bool
is_free building position = ltb position building.length && not (is_used (column_blocks (last_column building.columns)) position)

free_Decides : (building : BuildingValue) (position : ℕ) → Decides (is_free building position) ((position < building.length) × ¬ (Uses (last_column building.columns) position))
free_Decides building position = Decides-and _ _ (Decides-ltb position building.length) (Decides-not _ (is_used-Decides (column_blocks (last_column building.columns)) position))

pub position_passes : (building : BuildingValue) (position : ℕ) → IsPositionFault building position None → is_free building position ≡ true
position_passes building position fault = (free_Decides building position).1 fault

pub position_refused : (fault : BuildFault) (building : BuildingValue) (position : ℕ) → IsPositionFault building position (Some fault) → is_free building position ≡ false
position_refused builds.Range building position fault = decides_false _ (free_Decides building position) (λ h. let le : building.length ≤ position = fault in omega (arith, h.0, le))
position_refused builds.Repeated building position fault = decides_false _ (free_Decides building position) (λ h. h.1 fault.1)
position_refused _ building position fault = absurd fault

-- ---- the information on stripes

same_test : {P : Type 0} (a b : Bool) → (IsTrue a → P) → (P → IsTrue a) → Decides b P → a ≡ b
same_test true true f g d = refl
same_test true false f g d = sym (d.1 (f refl))
same_test false true f g d = g (d.0 refl)
same_test false false f g d = refl

pub marked_test : (asked : Bool) (columns : List Column) (stripe : ℕ) (mark : Mark) → mark ≡ Synced → (IsTrue asked ↔ IsHashedAt columns stripe) → asked ≡ (is_pending mark || is_hashed columns stripe)
marked_test asked columns stripe Pending e same = absurd cc
marked_test asked columns stripe Synced e same = same_test asked (is_hashed columns stripe) same.0 same.1 (is_hashed-Decides columns stripe)
