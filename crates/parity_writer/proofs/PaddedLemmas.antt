-- Rows whose blocks are padded with zeros.
use Rattle.std.proofs.Common.{◌≡◌, inl, inr, ℕ, ◌-◌, ◌<◌, List, [], length, take, get_or, replicate, sym, ◌∙◌, ap, arith}
use Rattle.std.proofs.lemmas.Bool.{cases_lt}
use Rattle.std.proofs.lemmas.List.{get_or-map, length-map, get_or_past, get_or_append_left, get_or-append_right, get_or-take, get_or-replicate, length-take, length-replicate}
use Rattle.cauchy.specs.Matrix.{byte_of, parity_byte, parity_of as level_of}
use Rattle.disk_model.specs.Bytes.{resized}
use Rattle.parity_writer.specs.Parity.{Row, padded}
use Rattle.parity_writer.proofs.SumLemmas.{byte_of_level}

-- a byte below the new length is as before, and 0 where it was added
pub resized_byte : (file : List ℕ) (len i : ℕ) → i < len → get_or (resized file len) i 0 ≡ get_or file i 0
resized_byte file len i below = elim (cases_lt i (length file)) [
  | inl within ↦
      get_or_append_left (take len file) (replicate (len - length file) 0) 0 i (omega (arith, below, within, length-take len file))
      ∙ get_or-take len file i 0 below
  | inr past ↦
      let long : length (take len file) ≡ length file = omega (arith, below, past, length-take len file) in
      get_or-append_right (take len file) (replicate (len - length file) 0) (length file) i 0 long past
      ∙ zeros (len - length file) (i - length file)
      ∙ sym (get_or_past file i 0 past)
]
  where
    zeros : (n k : ℕ) → get_or (replicate {A = ℕ} n 0) k 0 ≡ 0
    zeros n k = elim (cases_lt k n) [
      | inl near ↦ get_or-replicate n k 0 0 near
      | inr far ↦ get_or_past (replicate {A = ℕ} n 0) k 0 (omega (arith, far, length-replicate {A = ℕ} n 0))
    ]

-- what cauchy says of rows of the same bytes
abbrev pub SameBytes : Type 0
SameBytes = (level size : ℕ) (one other : List (List ℕ)) → length one ≡ length other → ((c p : ℕ) → c < length one → p < size → byte_of one c p ≡ byte_of other c p)
    → level_of level size one ≡ level_of level size other

pub padded_level : SameBytes → (level block_size : ℕ) (row : Row) (i : ℕ) → i < block_size → parity_byte level (padded block_size row) i ≡ parity_byte level row i
padded_level same level block_size row i below =
    let pad = λ (block : List ℕ). resized block block_size in
    let count : length (padded block_size row) ≡ length row = length-map row pad in
    sym (byte_of_level level block_size (padded block_size row) i below)
    ∙ ap (λ (bytes : List ℕ). get_or bytes i 0) (same level block_size (padded block_size row) row count
    (λ c p within near. ap (λ (block : List ℕ). get_or block p 0) (get_or-map pad row c [] [] (omega (arith, within, count))) ∙ resized_byte (get_or row c []) block_size p near))
    ∙ byte_of_level level block_size row i below
