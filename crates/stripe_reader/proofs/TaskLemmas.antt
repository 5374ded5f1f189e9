-- What is to be done for a cell, where nothing is asked.
use Rattle.std.proofs.Common.{◌≡◌, ◌≢◌, ℕ, ◌+◌, ◌*◌, ◌<◌, List, nat_le, false, refl, sym, ap, ◌∙◌, arith}
use Rattle.std.proofs.lemmas.Bool.{lt-leb}
use Rattle.file_table.specs.Table.{Column, record_in}
use Rattle.file_table.specs.declared.block.Cell.{Cell}
use Rattle.stripe_reader.specs.Reading.{Known, Nowhere, Beyond, block_length, file_task, block_task}
use Rattle.stripe_reader.specs.Starts.{start_in}
use Rattle.stripe_reader.specs.declared.starts.Start.{Start}
use Rattle.stripe_reader.specs.declared.starts.Place.{Place}
use Rattle.stripe_reader.specs.declared.starts.Place.TheVariants as place

file_beyond : (where_ : Place) (size : ℕ) (path : List ℕ) (at n : ℕ) → where_ ≢ place.Nowhere → nat_le (at + n) size ≡ false → file_task where_ size path at n ≡ Known Beyond
file_beyond place.Nowhere size path at n somewhere past = absurd (somewhere refl)
file_beyond place.Plain size path at n somewhere past = rw past refl
file_beyond place.Lost size path at n somewhere past = rw past refl

module _ (block_size : ℕ) (column : Column) (starts : List Start) (cell : Cell) (start : Start) (start_is : start ≡ start_in starts cell.rec) where
  -- no file was there
  pub block_nowhere : start.place ≡ place.Nowhere → block_task block_size column starts cell ≡ Known Nowhere
  block_nowhere nowhere =
      let kept = record_in column cell.rec in
      let same : (start_in starts cell.rec).place ≡ place.Nowhere = ap (λ (it : Start). it.place) (sym start_is) ∙ nowhere in
      ap (λ (it : Place). file_task it (start_in starts cell.rec).size kept.path (cell.index * block_size) (block_length block_size kept.meta.size cell.index)) same

  -- the file ended before the block does
  pub block_beyond : (at n : ℕ) → start.place ≢ place.Nowhere → at ≡ cell.index * block_size → n ≡ block_length block_size (record_in column cell.rec).meta.size cell.index → start.size < at + n
      → block_task block_size column starts cell ≡ Known Beyond
  block_beyond at n somewhere at_is n_is past =
      let kept = record_in column cell.rec in
      let size = block_length block_size kept.meta.size cell.index in
      let same = ap (λ (it : Start). file_task it.place it.size kept.path (cell.index * block_size) size) (sym start_is) in
      same ∙ file_beyond start.place start.size kept.path (cell.index * block_size) size somewhere (lt-leb (cell.index * block_size + size) start.size (omega (arith, at_is, n_is, past)))
