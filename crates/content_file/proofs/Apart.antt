-- Where a spelled part ends, and what it is, is known from the bytes: no spelling of a part begins another.
use Rattle.std.proofs.Common.{◌≡◌, ℕ, ◌^◌, ◌<◌, List, [], ◌∷◌, ◌++◌, length, Option, Some, refl, sym, ap, ◌∙◌, append_assoc, arith}
use Rattle.std.specs.List.{flat_map, AllByRecursion}
use Rattle.std.specs.Int.{w32, to_le_bytes}
use Rattle.disk_model.specs.declared.meta.Meta.{Meta}
use Rattle.file_table.specs.declared.block.Block.{Block}
use Rattle.file_table.specs.Table.{Record, Column, block_count}
use Rattle.file_table.specs.Valid.{IsMeta, IsInfo, IsWhole}
use Rattle.content_file.specs.Spelling.{short_text, long_text, meta_bytes, block_bytes, record_bytes, column_bytes, info_bytes}
use Rattle.content_file.specs.Reading.{number_at, short_text_at, long_text_at, meta_at, block_at, info_at}
use Rattle.content_file.proofs.Fields.{some_is, wide32, number_again, short_text_again, long_text_again}
use Rattle.content_file.proofs.Parts.{FitsBlock, meta_again, block_again}
use Rattle.content_file.proofs.Heads.{info_again}

-- two parts that fit, whose spellings begin the same bytes, are one, and the same bytes follow
abbrev pub TellsApart : {X : Type 0} → (X → Type 0) → (X → List ℕ) → Type 0
TellsApart {X} Fits spelled = (x y : X) (a b : List ℕ) → Fits x → Fits y → spelled x ++ a ≡ spelled y ++ b → (x ≡ y) × (a ≡ b)

pub apart_from_again : {X : Type 0} (Fits : X → Type 0) (spelled : X → List ℕ) (read : List ℕ → Option (X × List ℕ))
    → ((x : X) (rest : List ℕ) → Fits x → read (spelled x ++ rest) ≡ Some (x, rest)) → TellsApart Fits spelled
apart_from_again Fits spelled read again x y a b fits_x fits_y e =
    let same : (x, a) ≡ (y, b) = some_is (x, a) (y, b) (sym (again x a fits_x) ∙ ap read e ∙ again y b fits_y) in
    (ap (λ p. p.0) same, ap (λ p. p.1) same)

-- ---- lists of parts

pub many_apart : {X : Type 0} (Fits : X → Type 0) (spelled : X → List ℕ) → TellsApart Fits spelled → (xs ys : List X) (a b : List ℕ)
    → AllByRecursion Fits xs → AllByRecursion Fits ys → length xs ≡ length ys → flat_map spelled xs ++ a ≡ flat_map spelled ys ++ b → (xs ≡ ys) × (a ≡ b)
many_apart Fits spelled apart [] [] a b fits_x fits_y len e = (refl, e)
many_apart Fits spelled apart [] (y ∷ ys) a b fits_x fits_y len e = absurd (omega arith)
many_apart Fits spelled apart (x ∷ xs) [] a b fits_x fits_y len e = absurd (omega arith)
many_apart Fits spelled apart (x ∷ xs) (y ∷ ys) a b fits_x fits_y len e =
    let first = apart x y (flat_map spelled xs ++ a) (flat_map spelled ys ++ b) fits_x.0 fits_y.0
    (sym (append_assoc (spelled x) (flat_map spelled xs) a) ∙ e ∙ append_assoc (spelled y) (flat_map spelled ys) b) in
    let fewer : length xs ≡ length ys = omega arith in
    let others = many_apart Fits spelled apart xs ys a b fits_x.1 fits_y.1 fewer first.1 in
    ((cc (first.0, others.0)), others.1)

-- ---- the parts of a table

abbrev pub IsShort : ℕ → List ℕ → Type 0
IsShort most text = length text < most

pub short_text_apart : TellsApart (IsShort 256) short_text
short_text_apart = apart_from_again (IsShort 256) short_text short_text_at (λ text rest fits. short_text_again text rest)

pub long_text_apart : TellsApart (IsShort (2 ^ 16)) long_text
long_text_apart = apart_from_again (IsShort (2 ^ 16)) long_text long_text_at long_text_again

pub meta_apart : TellsApart IsMeta meta_bytes
meta_apart = apart_from_again IsMeta meta_bytes meta_at meta_again

pub block_apart : TellsApart FitsBlock block_bytes
block_apart = apart_from_again FitsBlock block_bytes block_at block_again

pub info_apart : TellsApart IsInfo info_bytes
info_apart = apart_from_again IsInfo info_bytes info_at info_again

pub number_apart : TellsApart (λ n. n < 2 ^ 32) (to_le_bytes w32)
number_apart = apart_from_again (λ n. n < 2 ^ 32) (to_le_bytes w32) (number_at w32) (number_again w32 (2 ^ 32) wide32)

-- what a record and a column are besides their place in a table of this block size
pub record FitsRecord (size : ℕ) (kept : Record) : Type 0 where
  pub path : length kept.path < 2 ^ 16
  pub meta : IsMeta kept.meta
  pub blocks : AllByRecursion FitsBlock kept.blocks
  pub whole : IsWhole size kept

pub record FitsColumn (size : ℕ) (column : Column) : Type 0 where
  pub name : length column.name < 256
  pub count : length column.records < 2 ^ 32
  pub records : AllByRecursion (FitsRecord size) column.records

pub regroup : (a b c rest : List ℕ) → ((a ++ b) ++ c) ++ rest ≡ a ++ (b ++ (c ++ rest))
regroup a b c rest = simp append_assoc

record_is : (x y : Record) → x.path ≡ y.path → x.meta ≡ y.meta → x.blocks ≡ y.blocks → x ≡ y
record_is x y p m b =
    let e : ◌≡◌ {A = List ℕ × Meta × List Block} (x.path, x.meta, x.blocks) (y.path, y.meta, y.blocks) = cc in
    ap (λ (t : List ℕ × Meta × List Block). record { path = t.0; meta = t.1; blocks = t.2 }) e

column_is : (x y : Column) → x.name ≡ y.name → x.records ≡ y.records → x ≡ y
column_is x y n r =
    let e : ◌≡◌ {A = List ℕ × List Record} (x.name, x.records) (y.name, y.records) = cc in
    ap (λ (t : List ℕ × List Record). record { name = t.0; records = t.1 }) e

pub record_apart : (size : ℕ) → TellsApart (FitsRecord size) record_bytes
record_apart size x y a b fits_x fits_y e =
    let cells = λ (r : Record). flat_map block_bytes r.blocks in
    let grouped : long_text x.path ++ (meta_bytes x.meta ++ (cells x ++ a)) ≡ long_text y.path ++ (meta_bytes y.meta ++ (cells y ++ b)) =
    sym (regroup (long_text x.path) (meta_bytes x.meta) (cells x) a) ∙ e ∙ regroup (long_text y.path) (meta_bytes y.meta) (cells y) b in
    let path = long_text_apart x.path y.path (meta_bytes x.meta ++ (cells x ++ a)) (meta_bytes y.meta ++ (cells y ++ b)) fits_x.path fits_y.path grouped in
    let meta = meta_apart x.meta y.meta (cells x ++ a) (cells y ++ b) fits_x.meta fits_y.meta path.1 in
    let count : length x.blocks ≡ length y.blocks = fits_x.whole ∙ ap (λ (m : Meta). block_count size m.size) meta.0 ∙ sym fits_y.whole in
    let blocks = many_apart FitsBlock block_bytes block_apart x.blocks y.blocks a b fits_x.blocks fits_y.blocks count meta.1 in
    (record_is x y path.0 meta.0 blocks.0, blocks.1)

pub column_apart : (size : ℕ) → TellsApart (FitsColumn size) column_bytes
column_apart size x y a b fits_x fits_y e =
    let rows = λ (c : Column). flat_map record_bytes c.records in
    let number = λ (c : Column). to_le_bytes w32 (length c.records) in
    let grouped : short_text x.name ++ (number x ++ (rows x ++ a)) ≡ short_text y.name ++ (number y ++ (rows y ++ b)) =
    sym (regroup (short_text x.name) (number x) (rows x) a) ∙ e ∙ regroup (short_text y.name) (number y) (rows y) b in
    let name = short_text_apart x.name y.name (number x ++ (rows x ++ a)) (number y ++ (rows y ++ b)) fits_x.name fits_y.name grouped in
    let count = number_apart (length x.records) (length y.records) (rows x ++ a) (rows y ++ b) fits_x.count fits_y.count name.1 in
    let records = many_apart (FitsRecord size) record_bytes (record_apart size) x.records y.records a b fits_x.records fits_y.records count.0 count.1 in
    (column_is x y name.0 records.0, records.1)
