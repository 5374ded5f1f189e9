-- Values of the two standards, computed on the definition. Each message is cut after 16 bytes,
-- which are the seed.
use Rattle.std.proofs.Common.{◌≡◌, [], ◌∷◌, codes, refl}
use Rattle.md5.specs.Md5 as rfc
use Rattle.sha2.specs.Sha256 as fips
use Rattle.block_hash.specs.declared.Kind.TheVariants.{Md5, Sha256}
use Rattle.block_hash.specs.Hash.{hash}

-- RFC 1321, A.5: the 26 letters
alphabet_under_md5 : hash Md5 (codes "abcdefghijklmnop") (codes "qrstuvwxyz") ≡
    0xC3 ∷ 0xFC ∷ 0xD3 ∷ 0xD7 ∷ 0x61 ∷ 0x92 ∷ 0xE4 ∷ 0x00 ∷
    0x7D ∷ 0xFB ∷ 0x49 ∷ 0x6C ∷ 0xCA ∷ 0x67 ∷ 0xE1 ∷ 0x3B ∷ []
unfolding rfc.block_words rfc.rounds rfc.compress rfc.hash_after rfc.digest_bytes rfc.md5 hash
alphabet_under_md5 = refl

-- FIPS 180-4, the example of 448 bits: the first 16 of the 32 bytes of its digest
two_blocks_under_sha256 : hash Sha256
    (codes "abcdbcdecdefdefg") (codes "efghfghighijhijkijkljklmklmnlmnomnopnopq") ≡
    0x24 ∷ 0x8D ∷ 0x6A ∷ 0x61 ∷ 0xD2 ∷ 0x06 ∷ 0x38 ∷ 0xB8 ∷
    0xE5 ∷ 0xC0 ∷ 0x26 ∷ 0x93 ∷ 0x0C ∷ 0x3E ∷ 0x60 ∷ 0x39 ∷ []
unfolding fips.first_words fips.schedule fips.rounds fips.compress fips.hash_after fips.digest_bytes fips.sha256 hash
two_blocks_under_sha256 = refl
