-- The message that a seed and a block make, and its blocks of 64 bytes (RFC 1321, 3.1, 3.2 and 3.4).
use Rattle.std.specs.Prelude.{ℕ, ◌+◌, ◌/◌, List, ◌++◌, take, drop}
use Rattle.md5.specs.Md5.{padded_message}

-- the seed and the block with the padding of both
abbrev pub message : List ℕ → List ℕ → List ℕ
message seed block = padded_message (seed ++ block)

-- the 64 bytes at a place
abbrev pub bytes_at : ℕ → List ℕ → List ℕ
bytes_at at bytes = take 64 (drop at bytes)

-- how many chunks of 64 bytes the message has that a seed of 16 bytes and a block of a length make
abbrev pub chunk_count : ℕ → ℕ
chunk_count len = (len + 24) / 64 + 1
