-- The pieces in which bytes are saved.
use Rattle.std.proofs.Common.{◌≡◌, ℕ, zero, suc, ◌+◌, ◌*◌, ◌<◌, ◌≤◌, List, [], ◌∷◌, ◌++◌, length, take, drop, sym, ◌∙◌, ap, arith, length-drop}
use Rattle.std.specs.List.{flat_map, range_with_len}
use Rattle.std.proofs.Math.Nat.{zero-mul, suc-mul, mul-le-mul_right}
use Rattle.std.proofs.Math.Seq.{take-add}
use Rattle.std.proofs.lemmas.List.{append-nil, take_all, length-take}
use Rattle.std.proofs.lemmas.List.Concat.{flat_map-append}
use Rattle.std.proofs.lemmas.Grind.{div_ceil_times}
use Rattle.disk_model.proofs.InOrder.{range_more}
use Rattle.content_file.specs.Save.{piece_of, piece_count}

module _ (size : ℕ) (bytes : List ℕ) where
  -- the first pieces are the first bytes
  first_pieces : (k : ℕ) → flat_map (piece_of size bytes) (range_with_len 0 k) ≡ take (k * size) bytes
  first_pieces zero = ap (λ n. take n bytes) (sym (zero-mul size))
  first_pieces (suc k) =
      let one : k + 1 ≡ suc k = omega arith in
      ap (λ n. flat_map (piece_of size bytes) (range_with_len 0 n)) (sym one)
      ∙ ap (flat_map (piece_of size bytes)) (sym (range_more k))
      ∙ flat_map-append (piece_of size bytes) (range_with_len 0 k) (k ∷ [])
      ∙ ap (λ xs. xs ++ flat_map (piece_of size bytes) (k ∷ [])) (first_pieces k)
      ∙ ap (λ xs. take (k * size) bytes ++ xs) (append-nil (piece_of size bytes k))
      ∙ sym (take-add (k * size) size bytes)
      ∙ ap (λ n. take n bytes) (sym (suc-mul k size))

  pub pieces_joined : 0 < size → flat_map (piece_of size bytes) (range_with_len 0 (piece_count size bytes)) ≡ bytes
  pieces_joined some =
      let bounds = div_ceil_times (length bytes) size some in
      first_pieces (piece_count size bytes) ∙ take_all (piece_count size bytes * size) bytes bounds.0

  pub each_piece : 0 < size → (n : ℕ) → n < piece_count size bytes → (0 < length (piece_of size bytes n)) × (length (piece_of size bytes n) ≤ size)
  each_piece some n below =
      let bounds = div_ceil_times (length bytes) size some in
      let next : suc n * size ≤ piece_count size bytes * size = mul-le-mul_right size below in
      let inside : n * size < length bytes = omega (arith, bounds.1, next, suc-mul n size) in
      let long = length-take size (drop (n * size) bytes) in
      let left = length-drop (n * size) bytes in
      (omega (arith, inside, long, left, some), omega (arith, long))
