-- What keeps a table sound.
use Rattle.std.proofs.Common.{ℕ, ◌+◌, ◌*◌, ◌<◌, ◌≤◌, length, Bool, sym, subst, refl, arith}
use Rattle.std.proofs.lemmas.Nat.{row_fits}
use Rattle.disk_model.specs.Files.{Files}
use Rattle.file_table.specs.Table.{TableValue}
use Rattle.parity_writer.specs.Keeps.{KeepsAt, SameParities}
use Rattle.parity_writer.specs.Parity.{HasLevel, WritesBlocks}
use Rattle.parity_writer.specs.Sound.{IsSynced, Sound, Closed, last_row}
use Rattle.parity_writer.proofs.WriteLemmas.{apart}

module _ (table : TableValue) (old new : Files) (snapshot : Closed) (is_changed : ℕ → ℕ → Bool) (sound : Sound table old snapshot is_changed) where
  pub others_written : (IsOne : ℕ → Type 0) → WritesBlocks table.shape.block_size IsOne old new → ((stripe : ℕ) → IsOne stripe → IsSynced table stripe → ⊥) → Sound table new snapshot is_changed
  others_written IsOne writes other = record {
    was_closed = sound.was_closed;
    rows = sound.rows;
    sums = λ stripe level synced below out i within.
        let size = table.shape.block_size in
        writes.keeps.bytes level (stripe * size + i) _
        (λ one is_one. apart size size stripe one i refl (λ same. other one is_one (subst (λ (s : ℕ). IsSynced table s) same synced)) within)
        (sound.sums stripe level synced below out i within);
  }

  pub same_levels : (levels : ℕ) → table.shape.levels ≤ levels → SameParities levels old new → Sound table new snapshot is_changed
  same_levels levels enough same = record {
    was_closed = sound.was_closed;
    rows = sound.rows;
    sums = λ stripe level synced below out.
        subst (HasLevel table.shape.block_size level stripe (last_row snapshot stripe)) (sym (same level (omega (arith, below, enough)))) (sound.sums stripe level synced below out);
  }

  -- all bytes below the end of the blocks are kept
  pub below_kept : (bytes : ℕ) → KeepsAt (λ i. i < bytes) old new → length table.infos * table.shape.block_size ≤ bytes → Sound table new snapshot is_changed
  below_kept bytes keeps enough = record {
    was_closed = sound.was_closed;
    rows = sound.rows;
    sums = λ stripe level synced below out i within.
        let size = table.shape.block_size in
        let fits : stripe * size + size ≤ length table.infos * size = row_fits stripe size (length table.infos) size synced.within (omega arith) in
        keeps.bytes level (stripe * size + i) _ (omega (arith, within, fits, enough)) (sound.sums stripe level synced below out i within);
  }
