-- A record and its blocks, as they are read without a flaw.
use Rattle.std.proofs.Common.{◌≡◌, ℕ, zero, suc, ◌+◌, ◌^◌, ◌<◌, ◌≤◌, List, [], ◌∷◌, ◌++◌, length, Option, Some, None, refl, sym, ap, subst, ◌∙◌, append_assoc, arith, All}
use Rattle.std.specs.Prelude.{Contains, IfSome, FitsSigned}
use Rattle.std.specs.List.{flat_map}
use Rattle.std.specs.Int.{w32, w64, to_le_bytes, cast_signed, cast_unsigned}
use Rattle.std.proofs.Math.Facts.{sfits_to_z}
use Rattle.std.proofs.lemmas.Int.{of_z-to_z}
use Rattle.std.proofs.lemmas.Bool.{ltb-true}
use Rattle.std.proofs.lemmas.Bool.Decides.{Decides-and, Decides-not, Decides-ltb}
use Rattle.std.proofs.lemmas.List.{get_or_default, length_push}
use Rattle.std.proofs.lemmas.List.Elements.{All-push, All-nil}
use Rattle.disk_model.specs.Path.{IsRecordPath}
use Rattle.disk_model.specs.declared.meta.Meta.{Meta}
use Rattle.disk_model.specs.declared.meta.Stamp.{Stamp}
use Rattle.block_hash.specs.declared.Digest16.{Digest16}
use Rattle.file_table.specs.declared.block.Block.{Block}
use Rattle.file_table.specs.Table.{Record, Column, no_record, block_count, records_of, column_blocks, positions_of, blocks_due}
use Rattle.file_table.specs.Valid.{IsMeta, IsRecord, IsColumn, IsWhole, IsSixteenBytes, HasDigest, most_blocks}
use Rattle.file_table.specs.Building.{IsGreatest, IsNested, Uses, records_with_block, record_with_block, last_record}
use Rattle.file_table.proofs.BuildingLemmas.{blocks_in-push}
use Rattle.file_table.proofs.ColumnLemmas.{IsColumn-record, IsColumn-block}
use Rattle.content_file.specs.declared.head.Head.{Head}
use Rattle.content_file.specs.Spelling.{long_text, hash_bytes, block_bytes, meta_bytes, record_bytes}
use Rattle.content_file.specs.Flaw.{Good}
use Rattle.content_file.specs.FirstFlaw.{read_hash, read_block, read_path, read_size, read_stamp, read_record, blocks_in}
use Rattle.content_file.proofs.Fields.{IsBytes, IsBytes-rest, Takes, takes_then, wide32, wide64, number_takes, piece_takes, long_text_takes}
use Rattle.content_file.proofs.Columns.{column_of, record_of, front-push, last-push}
use Rattle.content_file.proofs.Fronts.{due-append}
use Rattle.content_file.proofs.FlawLemmas.{good_is, not_bad, good_then, found_is, passed_is}
use Rattle.content_file.proofs.TestsLemmas.{leb_Decides, is_record_path-Decides, is_greatest-Decides, is_nested-Decides, is_used-Decides}
use Rattle.content_file.proofs.TakenMany.{TakesNext, many_taken}

-- ---- blocks

abbrev IsHash : Option Digest16 → Type 0
IsHash hash = IfSome hash (λ (digest : Digest16). IsSixteenBytes digest.0)

hash_taken : (bytes : List ℕ) (hash : Option Digest16) (rest : List ℕ) → IsBytes bytes → read_hash bytes ≡ Good (hash, rest) → Takes bytes (hash_bytes hash) rest × IsHash hash
unfolding read_hash
hash_taken [] hash rest fits e = not_bad _ _ _ e
hash_taken (zero ∷ bytes) hash rest fits e =
    subst (λ (x : Option Digest16 × List ℕ). Takes (0 ∷ bytes) (hash_bytes x.0) x.1 × IsHash x.0) (good_is (None, bytes) (hash, rest) e) (record { parts = refl; rest_fits = IsBytes-rest 0 bytes fits }, tt)
hash_taken (suc zero ∷ bytes) hash rest fits e = good_then _ _ _ e (λ digest e0 r0.
    let t = piece_takes 16 bytes digest.0 digest.1 (IsBytes-rest 1 bytes fits) (found_is _ _ _ _ e0) in
    let sixteen : IsSixteenBytes digest.0 = record { sixteen = t.1; in_range = λ k d lt. rw (get_or_default digest.0 k d 0 lt) (t.2 k) } in
    subst (λ (x : Option Digest16 × List ℕ). Takes (1 ∷ bytes) (hash_bytes x.0) x.1 × IsHash x.0) (good_is (Some (record { 0 = digest.0 }), digest.1) (hash, rest) r0)
    (record { parts = ap (λ (w : List ℕ). 1 ∷ w) t.0.parts; rest_fits = t.0.rest_fits }, sixteen))
hash_taken (suc (suc flag) ∷ bytes) hash rest fits e = not_bad _ _ _ e

-- a block was read, in a column with these before
pub record BlockTaken (the_length : ℕ) (blocks : List Block) (bytes : List ℕ) (block : Block) (rest : List ℕ) : Type 0 where
  pub takes : Takes bytes (block_bytes block) rest
  pub digest : HasDigest block
  pub below : block.position < the_length
  pub unused : ¬ (Contains (positions_of blocks) block.position)

pub block_taken : (the_length : ℕ) (blocks : List Block) (bytes : List ℕ) (block : Block) (rest : List ℕ) → IsBytes bytes → read_block the_length blocks bytes ≡ Good (block, rest) → BlockTaken the_length blocks bytes block rest
unfolding read_block
block_taken the_length blocks bytes block rest fits e =
    good_then _ _ _ e (λ position e0 r0. good_then _ _ _ r0 (λ free e1 r1. good_then _ _ _ r1 (λ hash e2 r2.
    let p = passed_is _ _ _ _ _ e1 in
    let may = (Decides-and _ _ (Decides-ltb position.0 the_length) (Decides-not _ (is_used-Decides blocks position.0))).0 p.0 in
    let t0 = number_takes w32 (2 ^ 32) wide32 bytes free.0 free.1 fits (found_is _ _ _ _ e0 ∙ ap (λ z. Some z) p.1) in
    let t1 = hash_taken free.1 hash.0 hash.1 t0.0.rest_fits e2 in
    let made : Block × List ℕ = (record { position = free.0; hash = hash.0 }, hash.1) in
    let here : BlockTaken the_length blocks bytes (record { position = free.0; hash = hash.0 }) hash.1 = record {
      takes = takes_then bytes (to_le_bytes w32 free.0) free.1 (hash_bytes hash.0) hash.1 t0.0 t1.0;
      digest = t1.1;
      below = subst (λ (q : ℕ × List ℕ). q.0 < the_length) p.1 may.0;
      unused = subst (λ (q : ℕ × List ℕ). ¬ (Contains (positions_of blocks) q.0)) p.1 may.1;
    } in
    subst (λ (x : Block × List ℕ). BlockTaken the_length blocks bytes x.0 x.1) (good_is made (block, rest) r2) here)))

-- the column with one block more in its last record
pub with_one_more : (records : List Record) (path : List ℕ) (meta : Meta) (blocks : List Block) (block : Block)
    → records_with_block (records ++ record_of path meta blocks ∷ []) block ≡ records ++ record_of path meta (blocks ++ block ∷ []) ∷ []
with_one_more records path meta blocks block =
    let r = record_of path meta blocks in
    ap (λ (front : List Record). front ++ record_with_block (last_record (records ++ r ∷ [])) block ∷ []) (front-push records r)
    ∙ ap (λ (last : Record). records ++ record_with_block last block ∷ []) (last-push no_record records r)

abbrev pub IsColumnWith : ℕ → List ℕ → List Record → List ℕ → Meta → List Block → Type 0
IsColumnWith the_length name records path meta blocks = IsColumn the_length (column_of name (records ++ record_of path meta blocks ∷ []))

blocks_step : (the_length : ℕ) (name : List ℕ) (records : List Record) (path : List ℕ) (meta : Meta) (total : ℕ)
    → TakesNext (λ before. read_block the_length (blocks_in records ++ before)) block_bytes (IsColumnWith the_length name records path meta) total
blocks_step the_length name records path meta total before bytes block rest lt is fits e =
    let b = block_taken the_length (blocks_in records ++ before) bytes block rest fits e in
    let column = column_of name (records ++ record_of path meta before ∷ []) in
    let used : column_blocks column ≡ blocks_in records ++ before = blocks_in-push records (record_of path meta before) in
    let unused : ¬ (Uses column block.position) = subst (λ (bs : List Block). ¬ (Contains (positions_of bs) block.position)) (sym used) b.unused in
    let some : 0 < length column.records = omega (arith, length_push records (record_of path meta before)) in
    let grown = IsColumn-block the_length column block some is b.digest b.below unused in
    (b.takes, subst (λ (rs : List Record). IsColumn the_length (column_of name rs)) (with_one_more records path meta before block) grown)

-- ---- a record

pub record PathTaken (name : List ℕ) (records : List Record) (bytes path rest : List ℕ) : Type 0 where
  pub takes : Takes bytes (long_text path) rest
  pub allowed : IsRecordPath path
  pub greatest : IsGreatest (column_of name records) path
  pub not_nested : ¬ (IsNested (column_of name records) path)

pub path_taken : (name : List ℕ) (records : List Record) (bytes path rest : List ℕ) → IsBytes bytes → read_path records bytes ≡ Good (path, rest) → PathTaken name records bytes path rest
unfolding read_path
path_taken name records bytes path rest fits e =
    good_then _ _ _ e (λ text e0 r0. good_then _ _ _ r0 (λ allowed e1 r1. good_then _ _ _ r1 (λ greater e2 r2.
    let last = passed_is _ _ _ _ _ r2 in
    let here : PathTaken name records bytes text.0 text.1 = record {
      takes = (long_text_takes bytes text.0 text.1 fits (found_is _ _ _ _ e0)).0;
      allowed = (is_record_path-Decides text.0).0 (passed_is _ _ _ _ _ e1).0;
      greatest = (is_greatest-Decides name records text.0).0 (passed_is _ _ _ _ _ e2).0;
      not_nested = (Decides-not _ (is_nested-Decides name records text.0)).0 last.0;
    } in
    subst (λ (x : List ℕ × List ℕ). PathTaken name records bytes x.0 x.1) last.1 here)))

pub record SizeTaken (block_size : ℕ) (records : List Record) (bytes : List ℕ) (size : ℕ) (rest : List ℕ) : Type 0 where
  pub takes : Takes bytes (to_le_bytes w64 size) rest
  pub fits : size < 2 ^ 64
  pub room : blocks_due block_size records + block_count block_size size ≤ most_blocks

pub size_taken : (block_size : ℕ) (records : List Record) (bytes : List ℕ) (size : ℕ) (rest : List ℕ) → IsBytes bytes → read_size block_size records bytes ≡ Good (size, rest) → SizeTaken block_size records bytes size rest
unfolding read_size
size_taken block_size records bytes size rest fits e =
    good_then _ _ _ e (λ field e0 r0.
    let p = passed_is _ _ _ _ _ r0 in
    let t = number_takes w64 (2 ^ 64) wide64 bytes field.0 field.1 fits (found_is _ _ _ _ e0) in
    let here : SizeTaken block_size records bytes field.0 field.1 = record { takes = t.0; fits = t.1; room = (leb_Decides (blocks_due block_size records + block_count block_size field.0) most_blocks).0 p.0 } in
    subst (λ (x : ℕ × List ℕ). SizeTaken block_size records bytes x.0 x.1) p.1 here)

record StampTaken (bytes : List ℕ) (stamp : Stamp) (rest : List ℕ) : Type 0 where
  takes : Takes bytes (to_le_bytes w64 (cast_unsigned w64 stamp.seconds) ++ to_le_bytes w32 stamp.nanos) rest
  seconds : FitsSigned w64 stamp.seconds
  nanos : stamp.nanos < 1000000000

stamp_taken : (bytes : List ℕ) (stamp : Stamp) (rest : List ℕ) → IsBytes bytes → read_stamp bytes ≡ Good (stamp, rest) → StampTaken bytes stamp rest
unfolding read_stamp
stamp_taken bytes stamp rest fits e =
    good_then _ _ _ e (λ seconds e0 r0. good_then _ _ _ r0 (λ nanos e1 r1.
    let p = passed_is _ _ _ _ _ r1 in
    let t0 = number_takes w64 (2 ^ 64) wide64 bytes seconds.0 seconds.1 fits (found_is _ _ _ _ e0) in
    let t1 = number_takes w32 (2 ^ 32) wide32 seconds.1 nanos.0 nanos.1 t0.0.rest_fits (found_is _ _ _ _ e1) in
    let back : cast_unsigned w64 (cast_signed w64 seconds.0) ≡ seconds.0 = of_z-to_z w64 seconds.0 t0.1 in
    let all = takes_then bytes (to_le_bytes w64 seconds.0) seconds.1 (to_le_bytes w32 nanos.0) nanos.1 t0.0 t1.0 in
    let made : Stamp × List ℕ = (record { seconds = cast_signed w64 seconds.0; nanos = nanos.0 }, nanos.1) in
    let here : StampTaken bytes made.0 made.1 = record {
      takes = subst (λ (n : ℕ). Takes bytes (to_le_bytes w64 n ++ to_le_bytes w32 nanos.0) nanos.1) (sym back) all;
      seconds = sfits_to_z {w = w64} {n = seconds.0} (record { fits = t0.1 });
      nanos = ltb-true nanos.0 1000000000 p.0;
    } in
    subst (λ (x : Stamp × List ℕ). StampTaken bytes x.0 x.1) p.1 here))

-- a record was read, in a column of this name with these records before it, after these columns
pub record RecordTaken (head : Head) (columns : List Column) (name : List ℕ) (records : List Record) (bytes : List ℕ) (kept : Record) (rest : List ℕ) : Type 0 where
  pub takes : Takes bytes (record_bytes kept) rest
  pub column : IsColumn head.length (column_of name (records ++ kept ∷ []))
  pub whole : IsWhole head.shape.block_size kept
  pub room : blocks_due head.shape.block_size (records_of columns ++ records) + block_count head.shape.block_size kept.meta.size ≤ most_blocks

pub record_taken : (head : Head) (columns : List Column) (name : List ℕ) (records : List Record) (bytes : List ℕ) (kept : Record) (rest : List ℕ) → IsColumn head.length (column_of name records) → IsBytes bytes
    → read_record head columns records bytes ≡ Good (kept, rest) → RecordTaken head columns name records bytes kept rest
unfolding read_record
record_taken head columns name records bytes kept rest is fits e =
    good_then _ _ _ e (λ path e0 r0. good_then _ _ _ r0 (λ size e1 r1. good_then _ _ _ r1 (λ stamp e2 r2. good_then _ _ _ r2 (λ blocks e3 r3.
    let block_size = head.shape.block_size in
    let t0 = path_taken name records bytes path.0 path.1 fits e0 in
    let t1 = size_taken block_size (records_of columns ++ records) path.1 size.0 size.1 t0.takes.rest_fits e1 in
    let t2 = stamp_taken size.1 stamp.0 stamp.1 t1.takes.rest_fits e2 in
    let meta : Meta = record { size = size.0; stamp = stamp.0 } in
    let is_meta : IsMeta meta = record { size = t1.fits; seconds = t2.seconds; nanos = t2.nanos } in
    let new : IsRecord (record_of path.0 meta []) = record { path = t0.allowed; meta = is_meta; digests = All-nil HasDigest } in
    let start : IsColumnWith head.length name records path.0 meta [] = IsColumn-record head.length (column_of name records) (record_of path.0 meta []) is new refl t0.greatest t0.not_nested in
    let m = many_taken (λ before. read_block head.length (blocks_in records ++ before)) block_bytes (IsColumnWith head.length name records path.0 meta) (block_count block_size size.0)
    (blocks_step head.length name records path.0 meta (block_count block_size size.0)) (block_count block_size size.0) [] stamp.1 blocks.0 blocks.1 (omega arith) start t2.takes.rest_fits e3 in
    let seconds = to_le_bytes w64 (cast_unsigned w64 stamp.0.seconds) in
    let nanos = to_le_bytes w32 stamp.0.nanos in
    let all_meta : Takes path.1 (meta_bytes meta) stamp.1 = subst (λ (text : List ℕ). Takes path.1 text stamp.1) (sym (append_assoc (to_le_bytes w64 size.0) seconds nanos))
    (takes_then path.1 (to_le_bytes w64 size.0) size.1 (seconds ++ nanos) stamp.1 t1.takes t2.takes) in
    let cells : Takes stamp.1 (flat_map block_bytes blocks.0) blocks.1 = subst (λ (bs : List Block). Takes stamp.1 (flat_map block_bytes bs) blocks.1) (sym m.all_is) m.takes in
    let all = takes_then bytes (long_text path.0 ++ meta_bytes meta) stamp.1 (flat_map block_bytes blocks.0) blocks.1
    (takes_then bytes (long_text path.0) path.1 (meta_bytes meta) stamp.1 t0.takes all_meta) cells in
    let made : Record × List ℕ = (record_of path.0 meta blocks.0, blocks.1) in
    let here : RecordTaken head columns name records bytes made.0 made.1 = record { takes = all; column = m.holds; whole = ap length m.all_is ∙ m.as_many; room = t1.room } in
    subst (λ (x : Record × List ℕ). RecordTaken head columns name records bytes x.0 x.1) (good_is made (kept, rest) r3) here))))

-- the records of a column that is read after these columns
pub record AreRecords (head : Head) (columns : List Column) (name : List ℕ) (records : List Record) : Type 0 where
  pub column : IsColumn head.length (column_of name records)
  pub whole : All (IsWhole head.shape.block_size) records
  pub room : blocks_due head.shape.block_size (records_of columns ++ records) ≤ most_blocks

pub records_step : (head : Head) (columns : List Column) (name : List ℕ) (total : ℕ) → TakesNext (read_record head columns) record_bytes (AreRecords head columns name) total
records_step head columns name total before bytes kept rest lt are fits e =
    let t = record_taken head columns name before bytes kept rest are.column fits e in
    let size = head.shape.block_size in
    let more = due-append size (records_of columns ++ before) (kept ∷ []) in
    let same = ap (blocks_due size) (append_assoc (records_of columns) before (kept ∷ [])) in
    (t.takes, record { column = t.column; whole = All-push (IsWhole size) before kept are.whole t.whole; room = omega (arith, t.room, more, same) })
