-- One stage: the lanes that go on, and the digests of those that have ended.
use Rattle.std.proofs.Common.{◌≡◌, ◌≢◌, ℕ, ◌-◌, ◌*◌, ◌<◌, ◌≤◌, List, ◌++◌, length, get_or, inl, inr, sym, ap, ◌∙◌, subst, arith}
use Rattle.std.specs.Borrow.{Bor}
use Rattle.std.specs.List.{All}
use Rattle.std.proofs.lemmas.Bool.{cases_lt}
use Rattle.block_hash.specs.declared.Digest16.{Digest16}
use Rattle.md5.specs.Md5.{hash_after, padded_message, md5}
use Rattle.md5_lanes.specs.Ended.{IsDigestAfter}
use Rattle.md5_lanes.specs.Lanes.{lane, bytes_of}
use Rattle.md5_lanes.specs.Message.{chunk_count}
use Rattle.md5_lanes.specs.declared.state.State.{State}
use Rattle.md5_lanes.proofs.MessageLemmas.{bytes_at_least, digest_is}

-- after so many chunks each lane whose message has more is at that chunk of it
abbrev pub AreRunning : List ℕ → List (Bor (List ℕ)) → ℕ → State → Type 0
AreRunning seed blocks k state = (i : ℕ) → i < 8 → k < chunk_count (length (bytes_of blocks i)) → lane state i ≡ hash_after (padded_message (seed ++ bytes_of blocks i)) k

-- and each lane whose message has no more has its digest
abbrev pub AreMade : List ℕ → List (Bor (List ℕ)) → ℕ → List Digest16 → Type 0
AreMade seed blocks k digests = (i : ℕ) (other : Digest16) → i < 8 → chunk_count (length (bytes_of blocks i)) ≤ k → (get_or digests i other).0 ≡ md5 (seed ++ bytes_of blocks i)

-- a stage takes some chunks in: each of the blocks that are shown has more, and none is shorter than the shortest
pub goes_on : (shown : List (Bor (List ℕ))) (k len : ℕ) → All (λ block. k < chunk_count (length block.now)) shown → ((n : ℕ) → All (λ block. n ≤ length block.now) shown → n ≤ len) → k < chunk_count len
goes_on shown k len more greatest =
    let low : 64 * k - 24 ≤ len = greatest (64 * k - 24) (λ i none h. omega (arith, more i none h)) in
    omega (arith, low)

module _ (seed : List ℕ) (blocks shown : List (Bor (List ℕ))) (k end : ℕ) (before after : State)
    (own : (i : ℕ) → i < 8 → k < chunk_count (length (bytes_of blocks i)) → bytes_of shown i ≡ bytes_of blocks i)
    (ran : (i : ℕ) → i < 8 → lane before i ≡ hash_after (padded_message (seed ++ bytes_of shown i)) k → lane after i ≡ hash_after (padded_message (seed ++ bytes_of shown i)) end)
    (running : AreRunning seed blocks k before) (goes : k < end) where
  -- a lane whose message has more at the head of the stage is at the end of it
  lane_ran : (i : ℕ) → i < 8 → k < chunk_count (length (bytes_of blocks i)) → lane after i ≡ hash_after (padded_message (seed ++ bytes_of blocks i)) end
  lane_ran i lt more =
      let same = own i lt more in
      subst (λ (b : List ℕ). lane after i ≡ hash_after (padded_message (seed ++ b)) end) same
      (ran i lt (subst (λ (b : List ℕ). lane before i ≡ hash_after (padded_message (seed ++ b)) k) (sym same) (running i lt more)))

  pub running_next : AreRunning seed blocks end after
  running_next i lt more = lane_ran i lt (omega (arith, goes, more))

  pub made_next : (len : ℕ) (old new : List Digest16) → end ≡ chunk_count len → length seed ≡ 16 → length shown ≡ 8 → All (λ block. len ≤ length block.now) shown
      → ((i : ℕ) → i < 8 → (other : Digest16) → IsDigestAfter after blocks old end i (get_or new i other))
      → AreMade seed blocks k old → AreMade seed blocks end new
  made_next len old new end_is long eight least gave made i other lt ended = elim (cases_lt k (chunk_count (length (bytes_of blocks i)))) [
    | inl more ↦
        let size : length (bytes_of shown i) ≡ length (bytes_of blocks i) = ap length (own i lt more) in
        let shortest : len ≤ length (bytes_of shown i) = bytes_at_least shown len i least (omega (arith, lt, eight)) in
        let here : chunk_count (length (bytes_of blocks i)) ≡ end = omega (arith, size, ended, shortest, end_is) in
        (gave i lt other).ends here ∙ digest_is seed (bytes_of blocks i) (lane after i) end long (sym here) (lane_ran i lt more)
    | inr done ↦
        let past : chunk_count (length (bytes_of blocks i)) ≢ end = omega (arith, done, goes) in
        ap (λ (it : Digest16). it.0) ((gave i lt other).stays past other) ∙ made i other lt done
  ]
