-- The hash of a block, on lists of bytes. MD5 is RFC 1321's, SHA-256 is FIPS 180-4's.
use Rattle.std.specs.Prelude.{ℕ, List, ◌++◌, take}
use Rattle.md5.specs.Md5.{md5}
use Rattle.sha2.specs.Sha256.{sha256}
use Rattle.block_hash.specs.declared.Kind.{Kind}
use Rattle.block_hash.specs.declared.Kind.TheVariants.{Md5, Sha256}

-- MD5 of the seed followed by the block's bytes, or the first 16 bytes of SHA-256 of the same
unfoldable pub hash : Kind → List ℕ → List ℕ → List ℕ
hash Md5 seed bytes = md5 (seed ++ bytes)
hash Sha256 seed bytes = take 16 (sha256 (seed ++ bytes))
