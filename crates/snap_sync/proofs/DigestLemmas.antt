-- The hash of a block is a digest: sixteen bytes.
use Rattle.std.proofs.Common.{◌≡◌, ℕ, zero, suc, ◌<◌, List, ◌++◌, length, arith}
use Rattle.std.specs.Prelude.{slice_index}
use Rattle.std.specs.Int.{byte_at, bytes_low_first, bytes_high_first, to_le_bytes, to_be_bytes, w32}
use Rattle.std.specs.List.{All}
use Rattle.std.proofs.lemmas.List.{length-take-le}
use Rattle.std.proofs.lemmas.List.Elements.{All-append, All-cons, All-nil}
use Rattle.block_hash.specs.Hash.{hash}
use Rattle.block_hash.specs.declared.Kind.{Kind}
use Rattle.block_hash.specs.declared.Kind.TheVariants.{Md5, Sha256}
use Rattle.file_table.specs.Valid.{IsSixteenBytes}
use Rattle.md5.specs.Md5.{md5, digest_bytes}
use Rattle.md5.proofs.StandardFacts.{length-md5}
use Rattle.sha2.specs.Sha256.{sha256, digest_bytes as digest_words}
use Rattle.sha2.proofs.Facts256.{length-sha256}
use Rattle.snap_sync.proofs.ListFacts.{All-take}

abbrev IsByte : ℕ → Type 0
IsByte byte = byte < 256

byte_below : (i n : ℕ) → byte_at i n < 256
byte_below zero n = omega arith
byte_below (suc i) n = omega arith

low_bytes : (i k n : ℕ) → All IsByte (bytes_low_first i k n)
low_bytes i zero n = All-nil IsByte
low_bytes i (suc k) n = All-cons IsByte (byte_at i n) (bytes_low_first (suc i) k n) (byte_below i n) (low_bytes (suc i) k n)

high_bytes : (k n : ℕ) → All IsByte (bytes_high_first k n)
high_bytes zero n = All-nil IsByte
high_bytes (suc k) n = All-cons IsByte (byte_at k n) (bytes_high_first k n) (byte_below k n) (high_bytes k n)

md5_words : (h : List ℕ) (n : ℕ) → All IsByte (digest_bytes h n)
unfolding digest_bytes
md5_words h zero = All-nil IsByte
md5_words h (suc n) = All-append IsByte (digest_bytes h n) (to_le_bytes w32 (slice_index h n)) (md5_words h n) (low_bytes 0 4 (slice_index h n))

sha_words : (h : List ℕ) (n : ℕ) → All IsByte (digest_words h n)
unfolding digest_words
sha_words h zero = All-nil IsByte
sha_words h (suc n) = All-append IsByte (digest_words h n) (to_be_bytes w32 (slice_index h n)) (sha_words h n) (high_bytes 4 (slice_index h n))

md5_bytes : (m : List ℕ) → All IsByte (md5 m)
unfolding md5
md5_bytes m = md5_words _ 4

sha_bytes : (m : List ℕ) → All IsByte (sha256 m)
unfolding sha256
sha_bytes m = sha_words _ 8

pub digest_sixteen : (kind : Kind) (seed bytes : List ℕ) → IsSixteenBytes (hash kind seed bytes)
unfolding hash
digest_sixteen Md5 seed bytes = record { sixteen = length-md5 (seed ++ bytes); in_range = md5_bytes (seed ++ bytes) }
digest_sixteen Sha256 seed bytes =
    let long : length (sha256 (seed ++ bytes)) ≡ 32 = length-sha256 (seed ++ bytes) in
    record {
      sixteen = length-take-le 16 (sha256 (seed ++ bytes)) (omega (arith, long));
      in_range = All-take IsByte 16 (sha256 (seed ++ bytes)) (sha_bytes (seed ++ bytes));
    }
