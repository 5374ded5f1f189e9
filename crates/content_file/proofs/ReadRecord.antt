-- A record that may stand in a table is read again from its spelling, without a flaw.
use Rattle.std.proofs.Common.{◌≡◌, ◌≢◌, ℕ, ◌+◌, ◌-◌, ◌^◌, ◌<◌, ◌≤◌, List, [], ◌∷◌, ◌++◌, length, Option, Some, None, refl, sym, ap, subst, ◌∙◌, append_assoc, append-nil, arith, All}
use Rattle.std.specs.Prelude.{AllPairs, Contains, IfSome, FitsSigned}
use Rattle.std.specs.List.{flat_map}
use Rattle.std.specs.Int.{w32, w64, to_le_bytes, cast_signed, cast_unsigned}
use Rattle.std.proofs.Math.Facts.{Fits-of_z, to_z-of_z}
use Rattle.std.proofs.lemmas.Bool.{lt-ltb}
use Rattle.std.proofs.lemmas.Bool.Decides.{Decides-and, Decides-not, Decides-ltb}
use Rattle.std.proofs.lemmas.List.Elements.{All-head}
use Rattle.disk_model.specs.Path.{IsRecordPath, IsDirectoryOf}
use Rattle.disk_model.specs.declared.meta.Meta.{Meta}
use Rattle.disk_model.specs.declared.meta.Stamp.{Stamp}
use Rattle.block_hash.specs.declared.Digest16.{Digest16}
use Rattle.file_table.specs.declared.block.Block.{Block}
use Rattle.file_table.specs.Table.{Record, Column, no_record, block_count, records_of, positions_of, blocks_due}
use Rattle.file_table.specs.Valid.{IsRecord, IsColumn, IsWhole, IsSixteenBytes, ComesBefore, HasDigest, most_blocks}
use Rattle.file_table.specs.Building.{IsGreatest, IsNested}
use Rattle.file_table.proofs.BuildingLemmas.{blocks_in-push}
use Rattle.content_file.specs.declared.head.Head.{Head}
use Rattle.content_file.specs.Spelling.{long_text, hash_bytes, block_bytes, meta_bytes, record_bytes}
use Rattle.content_file.specs.Flaw.{Read, Good}
use Rattle.content_file.specs.FirstFlaw.{read_many, read_hash, read_block, read_path, read_size, read_stamp, read_record, blocks_in}
use Rattle.content_file.proofs.Fields.{wide32, wide64, number_again, piece_again, long_text_again}
use Rattle.content_file.proofs.Columns.{column_of, record_of}
use Rattle.content_file.proofs.Fronts.{All-right, AllPairs-last, last_is, positions_in, positions_in-more, records_cut, blocks_cut, due-append}
use Rattle.content_file.proofs.Apart.{regroup}
use Rattle.content_file.proofs.FlawLemmas.{then_good, found_good, passed_good}
use Rattle.content_file.proofs.TestsLemmas.{leb_Decides, is_record_path-Decides, is_greatest-Decides, is_nested-Decides, is_used-Decides}
use Rattle.content_file.proofs.TakenRecord.{IsColumnWith, AreRecords}

-- ---- parts one after another

-- the next part of any list with the property is read from its spelling
abbrev pub ReadsNext : {A : Type 0} → (List A → List ℕ → Read (A × List ℕ)) → (A → List ℕ) → (List A → Type 0) → Type 0
ReadsNext {A} next spelled Q = (before : List A) (x : A) (later : List A) (rest : List ℕ) → Q (before ++ x ∷ later) → next before (spelled x ++ rest) ≡ Good (x, rest)

pub many_read : {A : Type 0} (next : List A → List ℕ → Read (A × List ℕ)) (spelled : A → List ℕ) (Q : List A → Type 0) → ReadsNext next spelled Q
    → (more before : List A) (rest : List ℕ) → Q (before ++ more) → read_many next (length more) before (flat_map spelled more ++ rest) ≡ Good (before ++ more, rest)
unfolding read_many
many_read {A} next spelled Q step [] before rest q = ap (λ (all : List A). Good (all, rest)) (sym (append-nil before))
many_read {A} next spelled Q step (x ∷ more) before rest q =
    let after = flat_map spelled more ++ rest in
    let longer = append_assoc before (x ∷ []) more in
    ap (λ (bytes : List ℕ). read_many next (length (x ∷ more)) before bytes) (append_assoc (spelled x) (flat_map spelled more) rest)
    ∙ then_good _ _ (x, after) _ (step before x more after q)
    (many_read next spelled Q step more (before ++ x ∷ []) rest (subst Q (sym longer) q) ∙ ap (λ (all : List A). Good (all, rest)) longer)

-- a list with an element, and then others
pub one_more : {X : Type 0} (before : List X) (x : X) (later : List X) → before ++ x ∷ later ≡ (before ++ x ∷ []) ++ later
one_more before x later = sym (append_assoc before (x ∷ []) later)

-- ---- blocks

hash_reads : (hash : Option Digest16) (rest : List ℕ) → IfSome hash (λ (digest : Digest16). IsSixteenBytes digest.0) → read_hash (hash_bytes hash ++ rest) ≡ Good (hash, rest)
unfolding read_hash
hash_reads None rest is = refl
hash_reads (Some digest) rest is = then_good _ _ (digest.0, rest) _ (found_good _ _ _ _ (piece_again 16 digest.0 rest is.sixteen)) refl

block_reads : (the_length : ℕ) (blocks : List Block) (block : Block) (rest : List ℕ) → the_length ≤ most_blocks → block.position < the_length → ¬ (Contains (positions_of blocks) block.position) → HasDigest block
    → read_block the_length blocks (block_bytes block ++ rest) ≡ Good (block, rest)
unfolding read_block
block_reads the_length blocks block rest short below unused digest =
    let small : block.position < 2 ^ 32 = omega arith in
    let after = hash_bytes block.hash ++ rest in
    let free = (Decides-and _ _ (Decides-ltb block.position the_length) (Decides-not _ (is_used-Decides blocks block.position))).1 (below, unused) in
    ap (read_block the_length blocks) (append_assoc (to_le_bytes w32 block.position) (hash_bytes block.hash) rest)
    ∙ then_good _ _ (block.position, after) _ (found_good _ _ _ _ (number_again w32 (2 ^ 32) wide32 block.position after small))
    (then_good _ _ (block.position, after) _ (passed_good _ _ _ _ free)
    (then_good _ _ (block.hash, rest) _ (hash_reads block.hash rest digest) refl))

blocks_step : (the_length : ℕ) (name : List ℕ) (records : List Record) (path : List ℕ) (meta : Meta) → the_length ≤ most_blocks
    → ReadsNext (λ before. read_block the_length (blocks_in records ++ before)) block_bytes (IsColumnWith the_length name records path meta)
blocks_step the_length name records path meta short before block later rest is =
    let all : IsColumnWith the_length name records path meta ((before ++ block ∷ []) ++ later) = subst (IsColumnWith the_length name records path meta) (one_more before block later) is in
    let cut = blocks_cut the_length name records path meta (before ++ block ∷ []) later all in
    let last : IsRecord (record_of path meta (before ++ block ∷ [])) = last_is IsRecord records (record_of path meta (before ++ block ∷ [])) cut.records in
    let used = positions_in (records ++ record_of path meta before ∷ []) in
    let more = positions_in-more records path meta before (block ∷ []) in
    let below = last_is (λ p. p < the_length) used block.position (subst (All (λ p. p < the_length)) more cut.below) in
    let once = subst (AllPairs (λ a b. a ≢ b)) more cut.once in
    let same : used ≡ positions_of (blocks_in records ++ before) = ap positions_of (blocks_in-push records (record_of path meta before)) in
    let unused : ¬ (Contains used block.position) = λ uses. AllPairs-last (λ a b. a ≢ b) used block.position once uses.0 block.position uses.1 uses.2 in
    block_reads the_length (blocks_in records ++ before) block rest short below (subst (λ (ps : List ℕ). ¬ (Contains ps block.position)) same unused) (last_is HasDigest before block last.digests)

-- ---- a record

path_reads : (name : List ℕ) (records : List Record) (path rest : List ℕ) → IsRecordPath path → IsGreatest (column_of name records) path → ¬ (IsNested (column_of name records) path)
    → read_path records (long_text path ++ rest) ≡ Good (path, rest)
unfolding read_path
path_reads name records path rest is greatest not_nested =
    let short : length path < 2 ^ 16 = omega (arith, is.short) in
    then_good _ _ (path, rest) _ (found_good _ _ _ _ (long_text_again path rest short))
    (then_good _ _ (path, rest) _ (passed_good _ _ _ _ ((is_record_path-Decides path).1 is))
    (then_good _ _ (path, rest) _ (passed_good _ _ _ _ ((is_greatest-Decides name records path).1 greatest))
    (passed_good _ _ _ _ ((Decides-not _ (is_nested-Decides name records path)).1 not_nested))))

size_reads : (block_size : ℕ) (records : List Record) (size : ℕ) (rest : List ℕ) → size < 2 ^ 64 → blocks_due block_size records + block_count block_size size ≤ most_blocks
    → read_size block_size records (to_le_bytes w64 size ++ rest) ≡ Good (size, rest)
unfolding read_size
size_reads block_size records size rest fits room =
    then_good _ _ (size, rest) _ (found_good _ _ _ _ (number_again w64 (2 ^ 64) wide64 size rest fits))
    (passed_good _ _ _ _ ((leb_Decides (blocks_due block_size records + block_count block_size size) most_blocks).1 room))

stamp_reads : (stamp : Stamp) (rest : List ℕ) → FitsSigned w64 stamp.seconds → stamp.nanos < 1000000000
    → read_stamp (to_le_bytes w64 (cast_unsigned w64 stamp.seconds) ++ (to_le_bytes w32 stamp.nanos ++ rest)) ≡ Good (stamp, rest)
unfolding read_stamp
stamp_reads stamp rest fits lt =
    let seconds = cast_unsigned w64 stamp.seconds in
    let small : seconds < 2 ^ 64 = omega (arith, Fits-of_z {w = w64} {z = stamp.seconds} fits) in
    let back : cast_signed w64 seconds ≡ stamp.seconds = to_z-of_z {w = w64} fits in
    let nanos : stamp.nanos < 2 ^ 32 = omega (arith, lt) in
    let after = to_le_bytes w32 stamp.nanos ++ rest in
    then_good _ _ (seconds, after) _ (found_good _ _ _ _ (number_again w64 (2 ^ 64) wide64 seconds after small))
    (then_good _ _ (stamp.nanos, rest) _ (found_good _ _ _ _ (number_again w32 (2 ^ 32) wide32 stamp.nanos rest nanos))
    (passed_good _ _ _ _ (lt-ltb stamp.nanos 1000000000 lt) ∙ ap (λ z. Good (record { seconds = z; nanos = stamp.nanos }, rest)) back))

pub records_step : (head : Head) (columns : List Column) (name : List ℕ) → head.length ≤ most_blocks → ReadsNext (read_record head columns) record_bytes (AreRecords head columns name)
unfolding read_record
records_step head columns name short before kept later rest are =
    let size = head.shape.block_size in
    let all : IsColumn head.length (column_of name ((before ++ kept ∷ []) ++ later)) = subst (λ (rs : List Record). IsColumn head.length (column_of name rs)) (one_more before kept later) are.column in
    let cut = records_cut head.length name (before ++ kept ∷ []) later all in
    let is : IsRecord kept = last_is IsRecord before kept cut.records in
    let comes = λ (k : ℕ) (d : Record). AllPairs-last ComesBefore before kept cut.order k d in
    let greatest : IsGreatest (column_of name before) kept.path = λ some. (comes (length before - 1) no_record (omega (arith, some))).less in
    let not_nested : ¬ (IsNested (column_of name before) kept.path) =
    λ found. (comes found.0 found.1 found.2).not_nested (subst (λ (r : Record). IsDirectoryOf r.path kept.path) (sym found.3) found.4) in
    let whole : IsWhole size kept = All-head (IsWhole size) kept later (All-right (IsWhole size) before (kept ∷ later) are.whole) in
    let due : blocks_due size ((records_of columns ++ before) ++ kept ∷ later) ≡ blocks_due size (records_of columns ++ before) + blocks_due size (kept ∷ later) = due-append size (records_of columns ++ before) (kept ∷ later) in
    let same : blocks_due size ((records_of columns ++ before) ++ kept ∷ later) ≡ blocks_due size (records_of columns ++ (before ++ kept ∷ later)) = ap (blocks_due size) (append_assoc (records_of columns) before (kept ∷ later)) in
    let first : blocks_due size (kept ∷ later) ≡ blocks_due size (kept ∷ []) + blocks_due size later = due-append size (kept ∷ []) later in
    let room : blocks_due size (records_of columns ++ before) + block_count size kept.meta.size ≤ most_blocks = omega (arith, are.room, due, same, first) in
    let cells = flat_map block_bytes kept.blocks in
    let seconds = to_le_bytes w64 (cast_unsigned w64 kept.meta.stamp.seconds) in
    let nanos = to_le_bytes w32 kept.meta.stamp.nanos in
    let after_stamp = cells ++ rest in
    let after_size = seconds ++ (nanos ++ after_stamp) in
    let after_path = to_le_bytes w64 kept.meta.size ++ after_size in
    let regrouped : record_bytes kept ++ rest ≡ long_text kept.path ++ after_path =
    regroup (long_text kept.path) (meta_bytes kept.meta) cells rest
    ∙ ap (λ (r : List ℕ). long_text kept.path ++ r) (regroup (to_le_bytes w64 kept.meta.size) seconds nanos after_stamp) in
    let blocks : read_many (λ bs. read_block head.length (blocks_in before ++ bs)) (block_count size kept.meta.size) [] after_stamp ≡ Good (kept.blocks, rest) =
    ap (λ (n : ℕ). read_many (λ bs. read_block head.length (blocks_in before ++ bs)) n [] after_stamp) (sym whole)
    ∙ many_read (λ bs. read_block head.length (blocks_in before ++ bs)) block_bytes (IsColumnWith head.length name before kept.path kept.meta) (blocks_step head.length name before kept.path kept.meta short) kept.blocks [] rest cut in
    ap (read_record head columns before) regrouped
    ∙ then_good _ _ (kept.path, after_path) _ (path_reads name before kept.path after_path is.path greatest not_nested)
    (then_good _ _ (kept.meta.size, after_size) _ (size_reads size (records_of columns ++ before) kept.meta.size after_size is.meta.size room)
    (then_good _ _ (kept.meta.stamp, after_stamp) _ (stamp_reads kept.meta.stamp after_stamp is.meta.seconds is.meta.nanos)
    (then_good _ _ (kept.blocks, rest) _ blocks refl)))
