-- Where the builder was asked before, it refuses a field only where memory runs out.
use Rattle.std.proofs.Common.{◌≡◌, ◌≢◌, ℕ, ◌+◌, ◌<◌, ◌≤◌, false, List, [], ◌∷◌, ◌++◌, length, Option, Result, Ok, Err, refl, sym, ap, subst, ◌∙◌, arith, IsTrue, OnOk, IfSome}
use Rattle.std.proofs.lemmas.List.{length-append}
use Rattle.disk_model.specs.Path.{IsRecordPath}
use Rattle.disk_model.specs.declared.meta.Meta.{Meta}
use Rattle.file_table.specs.declared.block.Block.{Block}
use Rattle.file_table.specs.declared.info.Info.{Info}
use Rattle.file_table.specs.declared.info.Mark.TheVariants.{Synced}
use Rattle.file_table.specs.declared.fault.BuildFault.{BuildFault}
use Rattle.file_table.specs.declared.fault.BuildFault.TheVariants as builds
use Rattle.file_table.specs.Table.{Record, no_record, records_of, column_blocks, block_count, blocks_due}
use Rattle.file_table.specs.Valid.{IsState, IsHashedAt, most_blocks}
use Rattle.file_table.specs.Building.{BuildingValue, LacksBlock, IsGreatest, IsNested, HasRoom, Uses, IsLength, last_column, last_record, newest_record, is_disk_fault, is_record_fault, is_block_fault, is_info_fault, is_finish_fault}
use Rattle.file_table.proofs.RefusedLemmas.{whole_lacks_none, finish_refused}
use Rattle.content_file.specs.declared.fault.Refusal.{Refusal}
use Rattle.content_file.specs.declared.fault.Refusal.TheVariants as refusals
use Rattle.content_file.specs.Flaw.{Good}
use Rattle.content_file.specs.FirstFlaw.{read_block, read_info}
use Rattle.content_file.specs.ReadingOn.{BodyValue, read_file}
use Rattle.content_file.specs.Body.{LacksThese, IsReading, IsPastColumns, IsEnded}
use Rattle.content_file.specs.Decoding.{StopsOn, told}
use Rattle.content_file.proofs.Fields.{IsBytes}
use Rattle.content_file.proofs.Columns.{front_of, last-push}
use Rattle.content_file.proofs.FlawLemmas.{good_is, good_then}
use Rattle.content_file.proofs.TakenRecord.{block_taken, path_taken, size_taken}
use Rattle.content_file.proofs.TakenColumn.{info_taken}
use Rattle.content_file.proofs.Steps.{records_end}

-- ---- a block

lacks_block : (built : BuildingValue) (count : ℕ) → 0 < count → LacksThese built count → LacksBlock built
lacks_block built count some lacks =
    let columns = built.columns in
    let front : List Record = records_of (front_of columns) ++ front_of (last_column columns).records in
    let all : records_of columns ≡ front ++ newest_record columns ∷ [] = records_end columns lacks.column lacks.some in
    let last : last_record (records_of columns) ≡ newest_record columns = ap last_record all ∙ last-push no_record front (newest_record columns) in
    record {
      some = omega (arith, ap length all, length-append front (newest_record columns ∷ []));
      fewer = subst (λ (r : Record). length r.blocks < block_count built.shape.block_size r.meta.size) (sym last) (omega (arith, lacks.lacking, some));
    }

block_cases : (fault : BuildFault) (built : BuildingValue) (position : ℕ)
    → (fault ≡ builds.Blocks → ¬ (LacksBlock built)) → (fault ≡ builds.Range → LacksBlock built × (built.length ≤ position))
    → (fault ≡ builds.Repeated → LacksBlock built × (position < built.length) × Uses (last_column built.columns) position)
    → IsTrue (is_block_fault fault) → LacksBlock built → position < built.length → ¬ (Uses (last_column built.columns) position) → fault ≡ builds.Memory
block_cases builds.Blocks built position blocks range repeated only lacks below unused = absurd (blocks refl lacks)
block_cases builds.Range built position blocks range repeated only lacks below unused = absurd (omega (arith, (range refl).1, below))
block_cases builds.Repeated built position blocks range repeated only lacks below unused = absurd (unused (repeated refl).2)
block_cases builds.Memory built position blocks range repeated only lacks below unused = refl
block_cases _ built position blocks range repeated only lacks below unused = absurd cc

pub block_fault : (fault : BuildFault) (body : BodyValue) (bytes : List ℕ) (block : Block) (rest : List ℕ) → IsReading body → 0 < body.blocks → IsBytes bytes
    → read_block body.builder.length (column_blocks (last_column body.builder.columns)) bytes ≡ Good (block, rest)
    → (fault ≡ builds.Blocks → ¬ (LacksBlock body.builder)) → (fault ≡ builds.Range → LacksBlock body.builder × (body.builder.length ≤ block.position))
    → (fault ≡ builds.Repeated → LacksBlock body.builder × (block.position < body.builder.length) × Uses (last_column body.builder.columns) block.position)
    → IsTrue (is_block_fault fault) → fault ≡ builds.Memory
block_fault fault body bytes block rest reading some fits read blocks range repeated only =
    let taken = block_taken body.builder.length (column_blocks (last_column body.builder.columns)) bytes block rest fits read in
    block_cases fault body.builder block.position blocks range repeated only (lacks_block body.builder body.blocks some (reading.lacking some)) taken.below taken.unused

-- ---- a record

-- a record that the builder takes
record Passes (built : BuildingValue) (path : List ℕ) (size : ℕ) : Type 0 where
  allowed : IsRecordPath path
  greatest : IsGreatest (last_column built.columns) path
  not_nested : ¬ (IsNested (last_column built.columns) path)
  due : blocks_due built.shape.block_size (records_of built.columns) + block_count built.shape.block_size size ≤ most_blocks

file_passes : (built : BuildingValue) (bytes path : List ℕ) (meta : Meta) (rest : List ℕ) → IsBytes bytes → read_file built.shape.block_size built.columns bytes ≡ Good ((path, meta), rest) → Passes built path meta.size
unfolding read_file
file_passes built bytes path meta rest fits e =
    good_then _ _ _ e (λ text e0 r0. good_then _ _ _ r0 (λ size e1 r1. good_then _ _ _ r1 (λ stamp e2 r2.
    let column = last_column built.columns in
    let t0 = path_taken column.name column.records bytes text.0 text.1 fits e0 in
    let t1 = size_taken built.shape.block_size (records_of built.columns) text.1 size.0 size.1 t0.takes.rest_fits e1 in
    let here : Passes built text.0 size.0 = record { allowed = t0.allowed; greatest = t0.greatest; not_nested = t0.not_nested; due = t1.room } in
    subst (λ (x : (List ℕ × Meta) × List ℕ). Passes built x.0.0 x.0.1.size) (good_is ((text.0, record { size = size.0; stamp = stamp.0 }), stamp.1) ((path, meta), rest) r2) here)))

record_cases : (fault : BuildFault) (built : BuildingValue) (path : List ℕ) (size : ℕ)
    → (fault ≡ builds.Blocks → LacksBlock built) → (fault ≡ builds.Name → ¬ (LacksBlock built) × ¬ (IsRecordPath path))
    → (fault ≡ builds.Order → ¬ (LacksBlock built) × IsRecordPath path × ¬ (IsGreatest (last_column built.columns) path))
    → (fault ≡ builds.Nested → ¬ (LacksBlock built) × IsRecordPath path × IsGreatest (last_column built.columns) path × IsNested (last_column built.columns) path)
    → (fault ≡ builds.Full → ¬ (LacksBlock built) × IsRecordPath path × IsGreatest (last_column built.columns) path × ¬ (IsNested (last_column built.columns) path) × ¬ (HasRoom built size))
    → IsTrue (is_record_fault fault) → ¬ (LacksBlock built) → Passes built path size → HasRoom built size → fault ≡ builds.Memory
record_cases builds.Blocks built path size blocks name order nested full only whole passes room = absurd (whole (blocks refl))
record_cases builds.Name built path size blocks name order nested full only whole passes room = absurd ((name refl).1 passes.allowed)
record_cases builds.Order built path size blocks name order nested full only whole passes room = absurd ((order refl).2 passes.greatest)
record_cases builds.Nested built path size blocks name order nested full only whole passes room = absurd (passes.not_nested (nested refl).3)
record_cases builds.Full built path size blocks name order nested full only whole passes room = absurd ((full refl).4 room)
record_cases builds.Memory built path size blocks name order nested full only whole passes room = refl
record_cases _ built path size blocks name order nested full only whole passes room = absurd cc

pub record_fault : (fault : BuildFault) (body : BodyValue) (bytes path : List ℕ) (meta : Meta) (rest : List ℕ) → IsReading body → body.blocks ≡ 0 → body.named ≡ false → 0 < body.records → IsBytes bytes
    → read_file body.builder.shape.block_size body.builder.columns bytes ≡ Good ((path, meta), rest)
    → (fault ≡ builds.Blocks → LacksBlock body.builder) → (fault ≡ builds.Name → ¬ (LacksBlock body.builder) × ¬ (IsRecordPath path))
    → (fault ≡ builds.Order → ¬ (LacksBlock body.builder) × IsRecordPath path × ¬ (IsGreatest (last_column body.builder.columns) path))
    → (fault ≡ builds.Nested → ¬ (LacksBlock body.builder) × IsRecordPath path × IsGreatest (last_column body.builder.columns) path × IsNested (last_column body.builder.columns) path)
    → (fault ≡ builds.Full → ¬ (LacksBlock body.builder) × IsRecordPath path × IsGreatest (last_column body.builder.columns) path × ¬ (IsNested (last_column body.builder.columns) path) × ¬ (HasRoom body.builder meta.size))
    → IsTrue (is_record_fault fault) → fault ≡ builds.Memory
record_fault fault body bytes path meta rest reading none named some fits read blocks name order nested full only =
    let passes = file_passes body.builder bytes path meta rest fits read in
    let room : HasRoom body.builder meta.size = record { records = omega (arith, reading.few named, reading.read, some); blocks = passes.due } in
    record_cases fault body.builder path meta.size blocks name order nested full only (whole_lacks_none body.builder (reading.whole none)) passes room

-- ---- a column

pub name_fault : (fault : BuildFault) (built : BuildingValue) → (fault ≡ builds.Blocks → LacksBlock built) → IsTrue (is_disk_fault fault) → fault ≢ builds.Name → ¬ (LacksBlock built) → fault ≡ builds.Memory
name_fault builds.Blocks built blocks only other whole = absurd (whole (blocks refl))
name_fault builds.Name built blocks only other whole = absurd (other refl)
name_fault builds.Memory built blocks only other whole = refl
name_fault _ built blocks only other whole = absurd cc

-- ---- the information on a stripe

info_cases : (fault : BuildFault) (built : BuildingValue) (info : Info)
    → (fault ≡ builds.Blocks → LacksBlock built) → (fault ≡ builds.State → ¬ (LacksBlock built) × ¬ (IsState info))
    → (fault ≡ builds.Length → ¬ (LacksBlock built) × IsState info × (length built.infos ≡ built.length))
    → (fault ≡ builds.Hash → ¬ (LacksBlock built) × IsState info × (length built.infos < built.length) × (info.mark ≡ Synced) × ¬ (IsHashedAt built.columns (length built.infos)))
    → IsTrue (is_info_fault fault) → ¬ (LacksBlock built) → IsState info → length built.infos < built.length → (info.mark ≡ Synced → IsHashedAt built.columns (length built.infos)) → fault ≡ builds.Memory
info_cases builds.Blocks built info blocks state full hash only whole is room hashed = absurd (whole (blocks refl))
info_cases builds.State built info blocks state full hash only whole is room hashed = absurd ((state refl).1 is)
info_cases builds.Length built info blocks state full hash only whole is room hashed = absurd (let e = (full refl).2 in omega (arith, e, room))
info_cases builds.Hash built info blocks state full hash only whole is room hashed = absurd ((hash refl).4 (hashed (hash refl).3))
info_cases builds.Memory built info blocks state full hash only whole is room hashed = refl
info_cases _ built info blocks state full hash only whole is room hashed = absurd cc

pub info_fault : (fault : BuildFault) (body : BodyValue) (bytes : List ℕ) (info : Info) (rest : List ℕ) → IsReading body → IsPastColumns body → 0 < body.stripes → IsBytes bytes
    → read_info body.builder.columns body.builder.infos bytes ≡ Good (info, rest)
    → (fault ≡ builds.Blocks → LacksBlock body.builder) → (fault ≡ builds.State → ¬ (LacksBlock body.builder) × ¬ (IsState info))
    → (fault ≡ builds.Length → ¬ (LacksBlock body.builder) × IsState info × (length body.builder.infos ≡ body.builder.length))
    → (fault ≡ builds.Hash → ¬ (LacksBlock body.builder) × IsState info × (length body.builder.infos < body.builder.length) × (info.mark ≡ Synced) × ¬ (IsHashedAt body.builder.columns (length body.builder.infos)))
    → IsTrue (is_info_fault fault) → fault ≡ builds.Memory
info_fault fault body bytes info rest reading past some fits read blocks state full hash only =
    let taken = info_taken body.builder.columns body.builder.infos bytes info rest fits read in
    let room : length body.builder.infos < body.builder.length = omega (arith, reading.stripes, reading.same_length, some) in
    info_cases fault body.builder info blocks state full hash only (whole_lacks_none body.builder (reading.whole past.blocks)) taken.is.state room taken.hashed

-- ---- the whole

pub finish_fault : (fault : BuildFault) (body : BodyValue) → IsReading body → IsEnded body
    → (fault ≡ builds.Name → body.builder.columns ≡ []) → (fault ≡ builds.Blocks → (0 < length body.builder.columns) × LacksBlock body.builder)
    → (fault ≡ builds.State → (0 < length body.builder.columns) × ¬ (LacksBlock body.builder) × (length body.builder.infos < body.builder.length))
    → (fault ≡ builds.Length → (0 < length body.builder.columns) × ¬ (LacksBlock body.builder) × (length body.builder.infos ≡ body.builder.length) × ¬ (IsLength body.builder))
    → IsTrue (is_finish_fault fault) → fault ≡ builds.Memory
finish_fault fault body reading ended name blocks state full only =
    let some : 0 < length body.builder.columns = omega (arith, reading.some, ended.done.past.columns) in
    let all : length body.builder.infos ≡ body.builder.length = omega (arith, reading.stripes, reading.same_length, ended.done.stripes) in
    finish_refused fault body.builder name blocks state full only some (reading.whole ended.done.past.blocks) all ended.fits

-- where reading came to the digest, all was read before it
pub ended_told : (place : Option BodyValue) (rest : List ℕ) (fed : ℕ) (stop : Result Unit Refusal) → StopsOn place rest stop → OnOk (told fed stop) (IfSome place IsEnded)
ended_told place rest fed (Ok x) stops = subst (λ (p : Option BodyValue). IfSome p IsEnded) (sym stops.1) stops.2.ended
ended_told place rest fed (Err (refusals.Flawed why field)) stops = tt
ended_told place rest fed (Err refusals.Length) stops = tt
ended_told place rest fed (Err refusals.Memory) stops = tt
