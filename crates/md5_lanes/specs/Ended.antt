-- The digests of the lanes whose messages have ended.
use Rattle.std.specs.Prelude.{◌≡◌, ◌≢◌, ℕ, List, length, slice_index_or}
use Rattle.std.specs.Borrow.{Bor}
use Rattle.block_hash.specs.declared.Digest16.{Digest16}
use Rattle.md5.specs.Md5.{digest_bytes}
use Rattle.md5_lanes.specs.Lanes.{lane, bytes_of}
use Rattle.md5_lanes.specs.Message.{chunk_count}
use Rattle.md5_lanes.specs.declared.state.State.{State}

-- the digest in a lane after so many chunks: of its state, where its message has so many, else the one that was there
pub record IsDigestAfter (state : State) (blocks : List (Bor (List ℕ))) (digests : List Digest16) (end i : ℕ) (digest : Digest16) : Type 0 where
  pub ends : chunk_count (length (bytes_of blocks i)) ≡ end → digest.0 ≡ digest_bytes (lane state i) 4
  pub stays : chunk_count (length (bytes_of blocks i)) ≢ end → (other : Digest16) → digest ≡ slice_index_or digests i other
