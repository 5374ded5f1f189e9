-- A wrong field stays the first one whatever follows it, unless it was cut off.
use Rattle.std.proofs.Common.{◌≡◌, ◌≢◌, ℕ, zero, suc, ◌+◌, ◌-◌, ◌/◌, ◌≤◌, Bool, true, false, not, ◌&&◌, ◌||◌, eqb, ltb, leb, List, [], ◌∷◌, ◌++◌, length, take, drop, Option, Some, refl, sym, ap, ◌∙◌, arith}
use Rattle.std.specs.Prelude.{codes, bytes_eq}
use Rattle.std.specs.Int.{w32, w64, to_le_bytes, cast_signed}
use Rattle.std.proofs.lemmas.Bool.{ne_eqb, eqb-false}
use Rattle.std.proofs.lemmas.List.{length-append, take-append-le, drop-append-le}
use Rattle.sha2.specs.Sha256.{sha256}
use Rattle.file_table.specs.declared.block.Block.{Block}
use Rattle.file_table.specs.declared.info.Info.{Info}
use Rattle.file_table.specs.Table.{Record, Column, TableValue, block_count, records_of, blocks_due}
use Rattle.file_table.specs.Valid.{most_columns, most_records, most_blocks}
use Rattle.content_file.specs.declared.head.Head.{Head}
use Rattle.content_file.specs.Head.{head_bytes}
use Rattle.content_file.specs.Reading.{kind_of, info_of}
use Rattle.content_file.specs.Tests.{is_name, is_named, is_record_path, is_greatest, is_nested, is_used, is_hashed, is_pending}
use Rattle.content_file.specs.Flaw.{Short, Magic, Version, Value, Name, Path, Order, Full, Position, Length, Hash, Digest, Extra, Damage, Read, Good, Bad, passed_or, damage_of}
use Rattle.content_file.specs.FirstFlaw.{first_flaw, read_magic, read_from_one, read_kind, read_shape, read_length, read_head, read_name, read_count, read_path, read_size, read_stamp, read_hash, read_block, blocks_in, read_record, read_column, read_info, read_end, read_content}
use Rattle.content_file.specs.Spelling.{magic, shape_bytes, kind_code}
use Rattle.content_file.proofs.Fields.{IsBytes, some_is, wide32}
use Rattle.content_file.proofs.Whole.{head_takes}
use Rattle.content_file.proofs.TakenHead.{head_found}
use Rattle.content_file.proofs.Stays.{with_more, Stays, KeepsFlaw, FindsMore, stays_good, stays_then, keeps_then, keeps_last, stays_found, stays_known, stays_allowed, stays_passed, stays_tested, many_stay, byte_more, number_more, piece_more, short_text_more, long_text_more}

-- a reader of this and what follows it
abbrev Stay : {A : Type 0} → (List ℕ → Read (A × List ℕ)) → Type 0
Stay {A} read = (bytes more : List ℕ) → Stays (with_more more) more (read bytes) (read (bytes ++ more))

-- ---- before the columns

pub magic_stays : (bytes more : List ℕ) → Stays (λ rest. rest ++ more) more (read_magic bytes) (read_magic (bytes ++ more))
unfolding read_magic
magic_stays bytes more =
    stays_then (with_more more) (λ rest. rest ++ more) more _ _ _ _ (stays_found _ _ _ _ _ _ (piece_more 7 bytes more)) (λ text.
    stays_then (with_more more) (λ rest. rest ++ more) more _ _ _ _ (stays_passed (with_more more) more Magic bytes (bytes_eq text.0 (codes "SNAPRCF")) text) (λ known.
    stays_then (with_more more) (λ rest. rest ++ more) more _ _ _ _ (stays_found _ _ _ _ _ _ (byte_more known.1 more)) (λ version.
    stays_passed (λ rest. rest ++ more) more Version known.1 (eqb version.0 1) version.1)))

pub from_one_stays : (most : ℕ) (bytes more : List ℕ) (number longer : Option (ℕ × List ℕ)) → FindsMore (with_more more) number longer
    → Stays (with_more more) more (read_from_one most bytes number) (read_from_one most (bytes ++ more) longer)
unfolding read_from_one
from_one_stays most bytes more number longer finds =
    stays_then (with_more more) (with_more more) more _ _ _ _ (stays_found _ _ _ _ _ _ finds) (λ field.
    stays_allowed (with_more more) more Value bytes (eqb field.0 0 || ltb most field.0) field)

pub kind_stays : Stay read_kind
unfolding read_kind
kind_stays bytes more =
    stays_then (with_more more) (with_more more) more _ _ _ _ (stays_found _ _ _ _ _ _ (byte_more bytes more)) (λ code.
    stays_then (λ kind. kind) (with_more more) more _ _ _ _ (stays_known more Value bytes (kind_of code.0)) (λ kind.
    stays_good (with_more more) more (kind, code.1)))

pub shape_stays : Stay read_shape
unfolding read_shape
shape_stays bytes more =
    stays_then (with_more more) (with_more more) more _ _ _ _ (from_one_stays 4096 bytes more _ _ (number_more w32 bytes more)) (λ size.
    stays_then (with_more more) (with_more more) more _ _ _ _ (from_one_stays 6 size.1 more _ _ (byte_more size.1 more)) (λ levels.
    stays_then (with_more more) (with_more more) more _ _ _ _ (kind_stays levels.1 more) (λ kind.
    stays_then (with_more more) (with_more more) more _ _ _ _ (stays_found _ _ _ _ _ _ (piece_more 16 kind.1 more)) (λ seed.
    stays_good (with_more more) more _))))

pub length_stays : Stay read_length
unfolding read_length
length_stays bytes more =
    stays_then (with_more more) (with_more more) more _ _ _ _ (stays_found _ _ _ _ _ _ (number_more w32 bytes more)) (λ size.
    stays_passed (with_more more) more Value bytes (leb size.0 most_blocks) size)

pub head_stays : Stay read_head
unfolding read_head
head_stays bytes more =
    stays_then (λ rest. rest ++ more) (with_more more) more _ _ _ _ (magic_stays bytes more) (λ rest.
    stays_then (with_more more) (with_more more) more _ _ _ _ (shape_stays rest more) (λ shape.
    stays_then (with_more more) (with_more more) more _ _ _ _ (length_stays shape.1 more) (λ size.
    stays_then (with_more more) (with_more more) more _ _ _ _ (from_one_stays most_columns size.1 more _ _ (byte_more size.1 more)) (λ count.
    stays_good (with_more more) more _))))

-- ---- columns

pub name_stays : (columns : List Column) → Stay (read_name columns)
unfolding read_name
name_stays columns bytes more =
    stays_then (with_more more) (with_more more) more _ _ _ _ (stays_found _ _ _ _ _ _ (short_text_more bytes more)) (λ name.
    stays_passed (with_more more) more Name bytes (is_name name.0 && not (is_named columns name.0)) name)

pub count_stays : (columns : List Column) → Stay (read_count columns)
unfolding read_count
count_stays columns bytes more =
    stays_then (with_more more) (with_more more) more _ _ _ _ (stays_found _ _ _ _ _ _ (number_more w32 bytes more)) (λ count.
    stays_passed (with_more more) more Full bytes (leb (length (records_of columns) + count.0) most_records) count)

pub path_stays : (records : List Record) → Stay (read_path records)
unfolding read_path
path_stays records bytes more =
    stays_then (with_more more) (with_more more) more _ _ _ _ (stays_found _ _ _ _ _ _ (long_text_more bytes more)) (λ path.
    stays_then (with_more more) (with_more more) more _ _ _ _ (stays_passed (with_more more) more Path bytes (is_record_path path.0) path) (λ allowed.
    stays_then (with_more more) (with_more more) more _ _ _ _ (stays_passed (with_more more) more Order bytes (is_greatest records path.0) path) (λ greater.
    stays_passed (with_more more) more Path bytes (not (is_nested records path.0)) path)))

pub size_stays : (block_size : ℕ) (records : List Record) → Stay (read_size block_size records)
unfolding read_size
size_stays block_size records bytes more =
    stays_then (with_more more) (with_more more) more _ _ _ _ (stays_found _ _ _ _ _ _ (number_more w64 bytes more)) (λ size.
    stays_passed (with_more more) more Full bytes (leb (blocks_due block_size records + block_count block_size size.0) most_blocks) size)

pub stamp_stays : Stay read_stamp
unfolding read_stamp
stamp_stays bytes more =
    stays_then (with_more more) (with_more more) more _ _ _ _ (stays_found _ _ _ _ _ _ (number_more w64 bytes more)) (λ seconds.
    stays_then (with_more more) (with_more more) more _ _ _ _ (stays_found _ _ _ _ _ _ (number_more w32 seconds.1 more)) (λ nanos.
    stays_passed (with_more more) more Value seconds.1 (ltb nanos.0 1000000000) (record { seconds = cast_signed w64 seconds.0; nanos = nanos.0 }, nanos.1)))

pub hash_stays : Stay read_hash
unfolding read_hash Stays
hash_stays [] more = λ other. absurd (other refl)
hash_stays (zero ∷ bytes) more = refl
hash_stays (suc zero ∷ bytes) more =
    stays_then (with_more more) (with_more more) more _ _ _ _ (stays_found _ _ _ _ _ _ (piece_more 16 bytes more)) (λ digest. stays_good (with_more more) more _)
hash_stays (suc (suc flag) ∷ bytes) more = λ _. refl

pub block_stays : (the_length : ℕ) (blocks : List Block) → Stay (read_block the_length blocks)
unfolding read_block
block_stays the_length blocks bytes more =
    stays_then (with_more more) (with_more more) more _ _ _ _ (stays_found _ _ _ _ _ _ (number_more w32 bytes more)) (λ position.
    stays_then (with_more more) (with_more more) more _ _ _ _ (stays_passed (with_more more) more Position bytes (ltb position.0 the_length && not (is_used blocks position.0)) position) (λ free.
    stays_then (with_more more) (with_more more) more _ _ _ _ (hash_stays free.1 more) (λ hash.
    stays_good (with_more more) more _)))

pub record_stays : (head : Head) (columns : List Column) (records : List Record) → Stay (read_record head columns records)
unfolding read_record
record_stays head columns records bytes more =
    stays_then (with_more more) (with_more more) more _ _ _ _ (path_stays records bytes more) (λ path.
    stays_then (with_more more) (with_more more) more _ _ _ _ (size_stays head.shape.block_size (records_of columns ++ records) path.1 more) (λ size.
    stays_then (with_more more) (with_more more) more _ _ _ _ (stamp_stays size.1 more) (λ stamp.
    stays_then (with_more more) (with_more more) more _ _ _ _
    (many_stay more (λ before. read_block head.length (blocks_in records ++ before)) (λ before rest. block_stays head.length (blocks_in records ++ before) rest more) (block_count head.shape.block_size size.0) [] stamp.1) (λ blocks.
    stays_good (with_more more) more _))))

pub column_stays : (head : Head) (columns : List Column) → Stay (read_column head columns)
unfolding read_column
column_stays head columns bytes more =
    stays_then (with_more more) (with_more more) more _ _ _ _ (name_stays columns bytes more) (λ name.
    stays_then (with_more more) (with_more more) more _ _ _ _ (count_stays columns name.1 more) (λ count.
    stays_then (with_more more) (with_more more) more _ _ _ _
    (many_stay more (read_record head columns) (λ before rest. record_stays head columns before rest more) count.0 [] count.1) (λ records.
    stays_good (with_more more) more _)))

-- ---- after the columns

pub info_stays : (columns : List Column) (infos : List Info) → Stay (read_info columns infos)
unfolding read_info
info_stays columns infos bytes more =
    stays_then (with_more more) (with_more more) more _ _ _ _ (stays_found _ _ _ _ _ _ (byte_more bytes more)) (λ flags.
    stays_then (λ info. info) (with_more more) more _ _ _ _ (stays_known more Value bytes (info_of flags.0 0)) (λ unchecked.
    stays_then (λ rest. rest ++ more) (with_more more) more _ _ _ _ (stays_passed (λ rest. rest ++ more) more Hash bytes (is_pending unchecked.mark || is_hashed columns (length infos)) flags.1) (λ check.
    stays_then (with_more more) (with_more more) more _ _ _ _ (stays_found _ _ _ _ _ _ (number_more w64 check more)) (λ last.
    stays_passed (with_more more) more Value check (not (is_pending unchecked.mark) || eqb last.0 0) (record unchecked { last = last.0 }, last.1)))))

extra_keeps : (rest more digest : List ℕ) (ends longer_ends : Bool) → (ends ≡ false → longer_ends ≡ false) → KeepsFlaw more (passed_or Extra rest ends digest) (passed_or Extra (rest ++ more) longer_ends digest)
unfolding KeepsFlaw passed_or
extra_keeps rest more digest true longer_ends is = tt
extra_keeps rest more digest false longer_ends is = λ _. ap (λ (b : Bool). passed_or Extra (rest ++ more) b digest) (is refl)

extra_stays : (rest more digest : List ℕ) → KeepsFlaw more (passed_or Extra rest (eqb (length rest) 0) digest) (passed_or Extra (rest ++ more) (eqb (length (rest ++ more)) 0) digest)
extra_stays rest more digest =
    extra_keeps rest more digest (eqb (length rest) 0) (eqb (length (rest ++ more)) 0)
    (λ some. ne_eqb (length (rest ++ more)) 0 (λ none. let zero_rest : length rest ≡ 0 = omega (arith, none, length-append rest more) in eqb-false (length rest) 0 some zero_rest))

pub end_stays : (whole last more : List ℕ) → KeepsFlaw more (read_end whole last) (read_end (whole ++ more) (last ++ more))
unfolding read_end
end_stays whole last more =
    let n = length whole - length last in
    let places : length (whole ++ more) - length (last ++ more) ≡ n = omega (arith, length-append whole more, length-append last more) in
    let front : take (length (whole ++ more) - length (last ++ more)) (whole ++ more) ≡ take n whole = ap (λ (k : ℕ). take k (whole ++ more)) places ∙ take-append-le n whole more (omega arith) in
    keeps_then (with_more more) more _ _ _ _ (stays_found _ _ _ _ _ _ (piece_more 32 last more)) (λ digest _.
    keeps_then (λ rest. rest ++ more) more _ _ _ _ (stays_tested (λ rest. rest ++ more) more Digest last _ _ _ digest.1 refl (ap (λ (f : List ℕ). bytes_eq digest.0 (sha256 f)) front)) (λ rest _.
    extra_stays rest more digest.0))

-- ---- the whole

-- there are more than 30 bytes before the columns
pub head_long : (head : Head) → length head.shape.seed ≡ 16 → 30 ≤ length (head_bytes head)
head_long head sixteen =
    let size = to_le_bytes w32 (head.shape.block_size / 1024) in
    let stripes = to_le_bytes w32 head.length in
    omega (
      arith,
      length-append ((magic ++ shape_bytes head.shape) ++ stripes) (head.columns ∷ []),
      length-append (magic ++ shape_bytes head.shape) stripes,
      length-append magic (shape_bytes head.shape),
      length-append size (head.shape.levels ∷ kind_code head.shape.kind ∷ head.shape.seed),
      wide32.len (head.shape.block_size / 1024),
      wide32.len head.length,
    )

content_stays : (bytes more : List ℕ) → IsBytes bytes → KeepsFlaw more (read_content bytes) (read_content (bytes ++ more))
unfolding read_content
content_stays bytes more fits =
    keeps_then (with_more more) more _ _ _ _ (head_stays bytes more) (λ head found.
    let taken = head_takes bytes head fits (head_found bytes head found) in
    let long : 30 ≤ length bytes = omega (arith, ap length taken.0.parts, length-append (head_bytes head.0) head.1, head_long head.0 taken.1.shape.seed.sixteen) in
    keeps_then (with_more more) more _ _ _ _ (many_stay more (read_column head.0) (λ before rest. column_stays head.0 before rest more) head.0.columns [] head.1) (λ columns _.
    keeps_then (λ rest. rest ++ more) more _ _ _ _ (stays_tested (λ rest. rest ++ more) more Length (drop 30 bytes) _ _ _ columns.1 (drop-append-le 30 bytes more long) refl) (λ stripes _.
    keeps_then (with_more more) more _ _ _ _ (many_stay more (read_info columns.0) (λ before rest. info_stays columns.0 before rest more) head.0.length [] stripes) (λ infos _.
    keeps_last more _ _ _ (end_stays bytes infos.1 more)))))

pub flaw_stays : (bytes more : List ℕ) (damage : Damage) → IsBytes bytes → first_flaw bytes ≡ Some damage → damage.why ≢ Short → first_flaw (bytes ++ more) ≡ Some damage
unfolding KeepsFlaw
flaw_stays bytes more damage fits e other = by (read_content bytes) (content_stays bytes more fits) e
  where
    by : (r : Read TableValue) → KeepsFlaw more r (read_content (bytes ++ more)) → damage_of bytes r ≡ Some damage → damage_of (bytes ++ more) (read_content (bytes ++ more)) ≡ Some damage
    by (Good table) keeps e = absurd cc
    by (Bad why field) keeps e =
        let here : Damage = record { offset = length bytes - length field; why = why } in
        let why_is : why ≡ damage.why = ap (λ (d : Damage). d.why) (some_is here damage e) in
        let place : length (bytes ++ more) - length (field ++ more) ≡ length bytes - length field = omega (arith, length-append bytes more, length-append field more) in
        ap (damage_of (bytes ++ more)) (keeps (λ short. other (sym why_is ∙ short))) ∙ ap (λ (n : ℕ). Some (record { offset = n; why = why })) place ∙ e
