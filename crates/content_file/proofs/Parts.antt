-- What a file's meta, a block, a stripe's information and the shape are read as, and that they are read again.
use Rattle.std.proofs.Common.{◌≡◌, ℕ, ◌^◌, ◌<◌, List, ◌++◌, Option, Some, None, refl, ap, ◌∙◌, append_assoc, arith}
use Rattle.std.specs.Prelude.{IfSome}
use Rattle.std.specs.Int.{w32, w64, to_le_bytes, cast_signed, cast_unsigned}
use Rattle.std.proofs.Math.Facts.{Fits-of_z, to_z-of_z}
use Rattle.std.proofs.lemmas.Bool.{lt-ltb}
use Rattle.disk_model.specs.declared.meta.Meta.{Meta}
use Rattle.block_hash.specs.declared.Digest16.{Digest16}
use Rattle.file_table.specs.declared.block.Block.{Block}
use Rattle.file_table.specs.Valid.{IsMeta, HasDigest, IsSixteenBytes}
use Rattle.content_file.specs.Spelling.{meta_bytes, hash_bytes, block_bytes}
use Rattle.content_file.specs.Reading.{meta_at, hash_at, block_at}
use Rattle.content_file.proofs.Fields.{wide32, wide64, number_again, piece_again}

-- ---- a file's meta

pub meta_again : (meta : Meta) (rest : List ℕ) → IsMeta meta → meta_at (meta_bytes meta ++ rest) ≡ Some (meta, rest)
unfolding meta_at
meta_again meta rest fits =
    let seconds = cast_unsigned w64 meta.stamp.seconds in
    let small : seconds < 2 ^ 64 = omega (arith, Fits-of_z {w = w64} {z = meta.stamp.seconds} fits.seconds) in
    let back : cast_signed w64 seconds ≡ meta.stamp.seconds = to_z-of_z {w = w64} fits.seconds in
    let nanos : meta.stamp.nanos < 2 ^ 32 = omega (arith, fits.nanos) in
    let regrouped : meta_bytes meta ++ rest ≡ to_le_bytes w64 meta.size ++ (to_le_bytes w64 seconds ++ (to_le_bytes w32 meta.stamp.nanos ++ rest)) =
    append_assoc (to_le_bytes w64 meta.size ++ to_le_bytes w64 seconds) (to_le_bytes w32 meta.stamp.nanos) rest ∙ append_assoc (to_le_bytes w64 meta.size) (to_le_bytes w64 seconds) (to_le_bytes w32 meta.stamp.nanos ++ rest) in
    ap meta_at regrouped ∙ rw (number_again w64 (2 ^ 64) wide64 meta.size (to_le_bytes w64 seconds ++ (to_le_bytes w32 meta.stamp.nanos ++ rest)) fits.size, number_again w64 (2 ^ 64) wide64 seconds (to_le_bytes w32 meta.stamp.nanos ++ rest) small, number_again w32 (2 ^ 32) wide32 meta.stamp.nanos rest nanos, lt-ltb meta.stamp.nanos 1000000000 fits.nanos)
    (ap (λ z. Some (record { size = meta.size; stamp = record { seconds = z; nanos = meta.stamp.nanos } }, rest)) back)

-- ---- blocks

pub hash_again : (hash : Option Digest16) (rest : List ℕ) → IfSome hash (λ (digest : Digest16). IsSixteenBytes digest.0) → hash_at (hash_bytes hash ++ rest) ≡ Some (hash, rest)
unfolding hash_at
hash_again None rest h = refl
hash_again (Some digest) rest h = rw (piece_again 16 digest.0 rest h.sixteen) refl

-- what a block is besides its place in a table
pub record FitsBlock (block : Block) : Type 0 where
  pub position : block.position < 2 ^ 32
  pub digest : HasDigest block

pub block_again : (block : Block) (rest : List ℕ) → FitsBlock block → block_at (block_bytes block ++ rest) ≡ Some (block, rest)
unfolding block_at
block_again block rest fits =
    let regrouped : block_bytes block ++ rest ≡ to_le_bytes w32 block.position ++ (hash_bytes block.hash ++ rest) = append_assoc (to_le_bytes w32 block.position) (hash_bytes block.hash) rest in
    ap block_at regrouped ∙ rw (number_again w32 (2 ^ 32) wide32 block.position (hash_bytes block.hash ++ rest) fits.position, hash_again block.hash rest fits.digest) refl
