-- Fronts of lists, and the first stripes of some.
use Rattle.std.proofs.Common.{◌≡◌, inl, inr, ℕ, zero, suc, ◌+◌, ◌<◌, ◌≤◌, List, [], ◌∷◌, ◌++◌, length, map, take, get_or, append_assoc, append-nil, refl, sym, ap, ◌∙◌, subst, arith}
use Rattle.std.specs.Prelude.{◌*◌, All, Some}
use Rattle.std.specs.List.{flat_map, range_with_len}
use Rattle.std.proofs.lemmas.Bool.{cases_lt}
use Rattle.std.proofs.lemmas.List.{get_or-take, length-take}
use Rattle.folder_listing.specs.Kept.{ListedFile}
use Rattle.folder_listing.proofs.JoinedLemmas.{flat_range_more}
use Rattle.disk_model.specs.Bytes.{read_from}
use Rattle.disk_model.specs.Files.{Files, parity_of}
use Rattle.disk_model.specs.Tree.{Tree}
use Rattle.file_table.specs.Table.{TableValue}
use Rattle.parity_writer.specs.LevelReading.{kept_level}
use Rattle.parity_writer.specs.LevelsValue.{no_level}
use Rattle.snap_fix.specs.Fixing.{facts_of}
use Rattle.snap_fix.specs.Mended.{Mended}
use Rattle.stripe_examiner.specs.Facts.{StripeFacts, slot_of}
use Rattle.stripe_examiner.specs.Looking.{facts_at, no_facts}
use Rattle.snap_top.specs.Alike.{KeptAlike}
use Rattle.snap_top.proofs.HeldLemmas.{CameAsHeld, held_slot}

-- ---- fronts of lists

abbrev pub IsFront : {X : Type 0} → List X → List X → Type 0
IsFront {X} front whole = (rest : List X) × (whole ≡ front ++ rest)

pub all_front : {X : Type 0} (xs : List X) → IsFront xs xs
all_front xs = ([], sym (append-nil xs))

pub front_in : {X : Type 0} (before xs ys : List X) → IsFront xs ys → IsFront (before ++ xs) (before ++ ys)
front_in {X} before xs ys (rest, is) = (rest, ap (λ (zs : List X). before ++ zs) is ∙ sym (append_assoc before xs rest))

pub front_more : {X : Type 0} (xs ys more : List X) → IsFront xs ys → IsFront xs (ys ++ more)
front_more {X} xs ys more (rest, is) = (rest ++ more, ap (λ (zs : List X). zs ++ more) is ∙ append_assoc xs rest more)

pub front_below : {X : Type 0} (f : ℕ → List X) (a n : ℕ) → a ≤ n → IsFront (flat_map f (range_with_len 0 a)) (flat_map f (range_with_len 0 n))
front_below f a zero few =
    let none : 0 ≡ a = omega (arith, few) in
    subst (λ (k : ℕ). IsFront (flat_map f (range_with_len 0 k)) (flat_map f (range_with_len 0 0))) none (all_front (flat_map f (range_with_len 0 0)))
front_below {X} f a (suc n) few = elim (cases_lt a (suc n)) [
  | inl less ↦
      let more : IsFront (flat_map f (range_with_len 0 a)) (flat_map f (range_with_len 0 n) ++ f n)
      = front_more (flat_map f (range_with_len 0 a)) (flat_map f (range_with_len 0 n)) (f n) (front_below f a n (omega (arith, less))) in
      let one : n + 1 ≡ suc n = omega arith in
      subst (λ (k : ℕ). IsFront (flat_map f (range_with_len 0 a)) (flat_map f (range_with_len 0 k))) one
      (subst (λ (xs : List X). IsFront (flat_map f (range_with_len 0 a)) xs) (flat_range_more f n) more)
  | inr all ↦
      let same : suc n ≡ a = omega (arith, few, all) in
      subst (λ (k : ℕ). IsFront (flat_map f (range_with_len 0 k)) (flat_map f (range_with_len 0 (suc n)))) same (all_front (flat_map f (range_with_len 0 (suc n))))
]

-- ---- the first stripes of a list

pub map_take : {A B : Type 0} (f : A → B) (n : ℕ) (xs : List A) → map f (take n xs) ≡ take n (map f xs)
map_take f zero xs = refl
map_take f (suc n) [] = refl
map_take {A} {B} f (suc n) (x ∷ xs) = ap (λ (rest : List B). f x ∷ rest) (map_take f n xs)

pub take_front : {A : Type 0} (xs ys : List A) → take (length xs) (xs ++ ys) ≡ xs
take_front [] ys = refl
take_front {A} (x ∷ xs) ys = ap (λ (rest : List A). x ∷ rest) (take_front xs ys)

pub facts_take : (n : ℕ) (stripes : List Mended) → facts_of (take n stripes) ≡ take n (facts_of stripes)
facts_take n stripes = map_take (λ (mended : Mended). mended.facts) n stripes

pub all_take : {A : Type 0} (P : A → Type 0) (n : ℕ) (xs : List A) → All P xs → All P (take n xs)
all_take P zero xs all k d within = absurd (omega (arith, within))
all_take P (suc n) [] all k d within = absurd (omega (arith, within))
all_take P (suc n) (x ∷ xs) all zero d within = all 0 d (omega arith)
all_take P (suc n) (x ∷ xs) all (suc k) d within = all_take P n xs (λ j e below. all (suc j) e (omega (arith, below))) k d (omega (arith, within))

module _ (table : TableValue) (lists : List (List ListedFile)) (trees : List Tree) (files : Files) where
  abbrev SlotCame : ℕ → StripeFacts → Type 0
  SlotCame d facts = KeptAlike (slot_of facts d) (held_slot table lists trees d facts.stripe)

  abbrev LevelCame : ℕ → StripeFacts → Type 0
  LevelCame r facts = r < length facts.levels
      → get_or facts.levels r no_level ≡ kept_level table.shape.block_size (Some (read_from (parity_of files r) (facts.stripe * table.shape.block_size) table.shape.block_size))

  pub came_first : (n : ℕ) (stripes : List StripeFacts) → CameAsHeld table lists trees files stripes → CameAsHeld table lists trees files (take n stripes)
  came_first n stripes came = record {
    slots = λ k d within below. subst (SlotCame d) (sym (at_first k within)) (came.slots k d (among k within) below);
    levels = λ k r within. subst (LevelCame r) (sym (at_first k within)) (came.levels k r (among k within));
  }
    where
      among : (k : ℕ) → k < length (take n stripes) → k < length stripes
      among k within = let long = length-take n stripes in omega (arith, within, long)

      at_first : (k : ℕ) → k < length (take n stripes) → facts_at (take n stripes) k ≡ facts_at stripes k
      at_first k within = get_or-take n stripes k no_facts (let long = length-take n stripes in omega (arith, within, long))
