-- What is kept of the cells and the levels of a stripe.
use Rattle.std.proofs.Common.{◌≡◌, ℕ, zero, suc, ◌<◌, ◌≤◌, min, List, [], ◌∷◌, length, take, get_or, None, Some, ap, ◌∙◌, arith}
use Rattle.std.specs.Prelude.{slice_index_or}
use Rattle.std.proofs.lemmas.List.{length-take, length-replicate, get_or-take}
use Rattle.std.proofs.Math.ListN.{get_or-map as get_or-map-any}
use Rattle.file_table.specs.declared.shape.Shape.{Shape}
use Rattle.disk_model.specs.Vault.{VaultView}
use Rattle.parity_writer.proofs.ElsewhereLemmas.{length-resized}
use Rattle.parity_writer.specs.LevelReading.{LevelReading, ReadsLevels, kept_level}
use Rattle.parity_writer.specs.LevelsValue.{LevelValue, LevelsValue, level_at, no_level}
use Rattle.stripe_reader.specs.SlotValue.{SlotValue}
use Rattle.stripe_reader.specs.WindowValue.{WindowValue, slot_at, no_slot}
use Rattle.stripe_examiner.specs.Marks.{slots_at}

-- the slot of a column is the one that the window has there
pub slot_of_stripe : (window : WindowValue) (i d : ℕ) → slice_index_or (slots_at window i) d no_slot ≡ slot_at window i d
slot_of_stripe window i d = get_or-map-any (λ (lane : List SlotValue). slice_index_or lane i no_slot) window.lanes d []

-- the first levels are those of a vault
pub levels_as_many : (levels : LevelsValue) → levels.count ≤ length levels.levels → length (take levels.count levels.levels) ≡ levels.count
levels_as_many levels room =
    let long : length (take levels.count levels.levels) ≡ min levels.count (length levels.levels) = length-take levels.count levels.levels in
    omega (arith, long, room)

pub level_of_first : (levels : LevelsValue) (r : ℕ) → r < levels.count → get_or (take levels.count levels.levels) r no_level ≡ level_at levels r
level_of_first levels r below = get_or-take levels.count levels.levels r no_level below

pub levels_of_shape : {one other : Shape} → one ≡ other → one.levels ≡ other.levels
levels_of_shape is = ap (λ (shape : Shape). shape.levels) is

-- ---- levels that were read have their places

-- a level whose block is not empty has one
has_place : (levels : List LevelValue) (r : ℕ) → 0 < length (get_or levels r no_level).block → r < length levels
has_place [] r some = absurd (omega (arith, some))
has_place (level ∷ levels) zero some = omega arith
has_place (level ∷ levels) (suc r) some = let rest : r < length levels = has_place levels r some in omega (arith, rest)

long_block : (block_size : ℕ) (reading : LevelReading) → length (kept_level block_size reading).block ≡ block_size
long_block block_size None = length-replicate block_size 0
long_block block_size (Some bytes) = length-resized bytes block_size

pub read_has_room : (block_size stripe count : ℕ) (levels : List LevelValue) (old new : VaultView) → 0 < block_size
    → ReadsLevels block_size stripe count levels old new → count ≤ length levels
read_has_room block_size stripe zero levels old new some reads = omega arith
read_has_room block_size stripe (suc r) levels old new some reads =
    let long : length (get_or levels r no_level).block ≡ block_size =
    ap (λ (level : LevelValue). length level.block) (reads.are_kept r (omega arith)) ∙ long_block block_size (get_or reads.readings r None) in
    let place : r < length levels = has_place levels r (omega (arith, long, some)) in
    omega (arith, place)
