-- What is left of the levels of a row, once the blocks that were found are taken from it.
use Rattle.std.proofs.Common.{◌≡◌, ◌≢◌, inl, inr, ℕ, ◌+◌, ◌-◌, ◌*◌, ◌<◌, ◌≤◌, List, [], ◌++◌, length, take, drop, get_or, set, true, sym, ap, ap₂, ◌∙◌, arith}
use Rattle.std.specs.List.{All}
use Rattle.std.specs.Int.Bits.{bit_xor, xor_assoc, xor_zero_r}
use Rattle.std.proofs.lemmas.Nat.{xor_comm}
use Rattle.std.proofs.lemmas.Bool.{cases_lt}
use Rattle.std.proofs.lemmas.Bool.Decides.{eqb_tells}
use Rattle.std.proofs.lemmas.List.{get_or-append_right, get_or-drop, get_or-map, get_or-set_other, get_or-set_same, get_or-take, get_or_append_left, get_or_past, length-drop, length-map, length-set, length-take}
use borrow.Rule.Slice.PartMut.{put_mid}
use Rattle.cauchy.specs.Field.{sum_below, product}
use Rattle.cauchy.specs.Matrix.{AddsTerm, entry_of, byte_of, parity_byte}
use Rattle.cauchy.specs.System.{byte_in}
use Rattle.parity_writer.specs.LevelsValue.{LevelValue, no_level}
use Rattle.parity_writer.specs.Parity.{Row}
use Rattle.stripe_examiner.specs.declared.search.Wanted.{Wanted}
use Rattle.stripe_examiner.specs.Judged.{AreMissingIn}
use Rattle.stripe_examiner.specs.Known.{AreRemainders, whole_level}
use Rattle.stripe_examiner.specs.Restorable.{filled}
use Rattle.stripe_examiner.specs.Search.{columns_of}
use Rattle.stripe_examiner.proofs.KnowFilled.{filled_more}
use Rattle.stripe_examiner.proofs.RestorableFilling.{filled_others, length-filled}
use Rattle.stripe_examiner.proofs.RestorableSums.{except, except-other, except-same, not_among, one_apart, sum_below-same}
use Rattle.stripe_examiner.proofs.SearchBlocks.{place_within}

-- ---- a block is put into an empty column of a row

module _ (nothing : (a : ℕ) → product a 0 ≡ 0) (r c p : ℕ) (row : Row) (block : List ℕ) (below : c < length row) (empty : get_or row c [] ≡ []) where
  abbrev term : Row → ℕ → ℕ
  term it k = product (entry_of r k) (byte_of it k p)

  no_term : term row c ≡ 0
  no_term = ap (λ (bytes : List ℕ). product (entry_of r c) (get_or bytes p 0)) empty ∙ nothing (entry_of r c)

  rest_is : (k : ℕ) → except c (term (set row c block)) k ≡ term row k
  rest_is k = elim (eqb_tells c k) [
    | inl same ↦ except-same c (term (set row c block)) k same.1 ∙ sym no_term ∙ ap (term row) same.1
    | inr other ↦
        except-other c (term (set row c block)) k other.1
        ∙ ap (λ (bytes : List ℕ). product (entry_of r k) (get_or bytes p 0)) (get_or-set_other row c k block [] (λ same. other.1 (sym same)))
  ]

  -- then the sums grow by its products
  pub parity_with : parity_byte r (set row c block) p ≡ bit_xor (parity_byte r row p) (product (entry_of r c) (get_or block p 0))
  unfolding parity_byte
  parity_with =
      let n = length row in
      ap (sum_below (term (set row c block))) (length-set row c block)
      ∙ one_apart c (term (set row c block)) n below
      ∙ ap₂ bit_xor (ap (λ (bytes : List ℕ). product (entry_of r c) (get_or bytes p 0)) (get_or-set_same row c block [] below))
      (sum_below-same (except c (term (set row c block))) (term row) n (λ k near. rest_is k))
      ∙ xor_comm (product (entry_of r c) (get_or block p 0)) (sum_below (term row) n)

-- ---- bytes that are written into a part of a list

module _ (a k : ℕ) (xs ys : List ℕ) (room : a + k ≤ length xs) (long : length ys ≡ k) where
  abbrev rest : List ℕ
  rest = drop k (drop a xs)

  front_long : length (take a xs) ≡ a
  front_long = omega (arith, length-take a xs, room)

  pub in_front : (n : ℕ) → n < a → get_or (put_mid a k xs ys) n 0 ≡ get_or xs n 0
  in_front n less = get_or_append_left (take a xs) (ys ++ rest) 0 n (omega (arith, less, front_long)) ∙ get_or-take a xs n 0 less

  pub in_part : (j : ℕ) → j < k → get_or (put_mid a k xs ys) (a + j) 0 ≡ get_or ys j 0
  in_part j less =
      let at : a + j - a ≡ j = omega arith in
      get_or-append_right (take a xs) (ys ++ rest) a (a + j) 0 front_long (omega arith)
      ∙ ap (λ (n : ℕ). get_or (ys ++ rest) n 0) at
      ∙ get_or_append_left ys rest 0 j (omega (arith, less, long))

  pub behind_part : (n : ℕ) → a + k ≤ n → get_or (put_mid a k xs ys) n 0 ≡ get_or xs n 0
  behind_part n far =
      let at : a + (k + (n - a - k)) ≡ n = omega (arith, far) in
      get_or-append_right (take a xs) (ys ++ rest) a n 0 front_long (omega (arith, far))
      ∙ get_or-append_right ys rest k (n - a) 0 long (omega (arith, far))
      ∙ get_or-drop k (drop a xs) (n - a - k) 0
      ∙ get_or-drop a xs (k + (n - a - k)) 0
      ∙ ap (λ (m : ℕ). get_or xs m 0) at

-- ---- the products of a block are added to what is left of one of six levels

module _ (nothing : (a : ℕ) → product a 0 ≡ 0) (size r column n : ℕ) (old out block : List ℕ) (known : r < 6) (all : length old ≡ 6 * size) (fits : length block ≤ size) (many : n ≡ length block)
    (adds : AddsTerm r column block (take n (drop (r * size) old)) out) where
  abbrev after : List ℕ
  after = put_mid (r * size) n old out

  abbrev start : ℕ
  start = r * size

  inside : start + size ≤ length old
  inside = omega (arith, all, place_within size 6 r known)

  part_long : length (take n (drop start old)) ≡ n
  part_long = omega (arith, length-take n (drop start old), length-drop start old, inside, fits, many)

  out_long : length out ≡ n
  out_long = adds.same_length ∙ part_long

  pub added_here : (p : ℕ) → p < size → byte_in size after p r ≡ bit_xor (byte_in size old p r) (product (entry_of r column) (get_or block p 0))
  added_here p less = elim (cases_lt p n) [
    | inl near ↦
        in_part start n old out (omega (arith, inside, fits, many)) out_long p near
        ∙ adds.bytes p (omega (arith, near, part_long))
        ∙ ap (λ (x : ℕ). bit_xor x (product (entry_of r column) (get_or block p 0))) (get_or-take n (drop start old) p 0 near ∙ get_or-drop start old p 0)
    | inr far ↦
        behind_part start n old out (omega (arith, inside, fits, many)) out_long (start + p) (omega (arith, far))
        ∙ sym (ap (bit_xor (byte_in size old p r))
        (ap (product (entry_of r column)) (get_or_past block p 0 (omega (arith, far, many))) ∙ nothing (entry_of r column)) ∙ xor_zero_r (byte_in size old p r))
  ]

  pub added_elsewhere : (k p : ℕ) → k ≢ r → p < size → byte_in size after p k ≡ byte_in size old p k
  added_elsewhere k p apart less = elim (cases_lt k r) [
    | inl earlier ↦ in_front start n old out (omega (arith, inside, fits, many)) out_long (k * size + p) (omega (arith, less, place_within size r k earlier))
    | inr later ↦
        let behind : r < k = omega (arith, later, apart) in
        behind_part start n old out (omega (arith, inside, fits, many)) out_long (k * size + p) (omega (arith, fits, many, place_within size k r behind))
  ]

-- ---- what is left then

pub taken : ((a : ℕ) → product a 0 ≡ 0) → (size column count : ℕ) (row : Row) (block old new : List ℕ) (levels : List LevelValue) → length new ≡ length old → column < length row → get_or row column [] ≡ []
    → length levels ≤ count
    → ((r p : ℕ) → r < count → whole_level levels r ≡ true → p < size → byte_in size new p r ≡ bit_xor (byte_in size old p r) (product (entry_of r column) (get_or block p 0)))
    → AreRemainders size row levels old → AreRemainders size (set row column block) levels new
taken nothing size column count row block old new levels long below empty few added are = record {
  long = long ∙ are.long;
  bytes = λ r p within whole less.
      let here : ℕ = get_or (get_or levels r no_level).block p 0 in
      let part : ℕ = product (entry_of r column) (get_or block p 0) in
      added r p (omega (arith, within, few)) whole less
      ∙ ap (λ (x : ℕ). bit_xor x part) (are.bytes r p within whole less)
      ∙ xor_assoc here (parity_byte r row p) part
      ∙ ap (bit_xor here) (sym (parity_with nothing r column p row block below empty));
}

-- ---- the blocks are taken one after another

module _ (size : ℕ) (wanteds : List Wanted) (blocks : List ℕ) (row : Row) (missing : AreMissingIn row size wanteds) (j : ℕ) (other : Wanted) (within : j < length wanteds) where
  abbrev so_far : Row
  so_far = filled size blocks (take j wanteds) row

  abbrev column : ℕ
  column = (get_or wanteds j other).column

  column_of : (k : ℕ) (it : Wanted) → k < length wanteds → get_or (columns_of wanteds) k 0 ≡ (get_or wanteds k it).column
  column_of k it near = get_or-map (λ (wanted : Wanted). wanted.column) wanteds k it 0 near

  columns_long : length (columns_of wanteds) ≡ length wanteds
  columns_long = length-map wanteds (λ (wanted : Wanted). wanted.column)

  pub next_below : column < length so_far
  next_below = omega (arith, length-filled size blocks 0 (take j wanteds) row, column_of j other within, missing.distinct.below j (omega (arith, within, columns_long)))

  apart : All (λ c. column ≢ c) (columns_of (take j wanteds))
  apart k it inside =
      let near : k < j = omega (arith, inside, length-map (take j wanteds) (λ (wanted : Wanted). wanted.column), length-take j wanteds) in
      let is : get_or (columns_of (take j wanteds)) k it ≡ get_or (columns_of wanteds) k 0 =
      get_or-map (λ (wanted : Wanted). wanted.column) (take j wanteds) k other it (omega (arith, near, within, length-take j wanteds))
      ∙ ap (λ (wanted : Wanted). wanted.column) (get_or-take j wanteds k other near)
      ∙ sym (column_of k other (omega (arith, near, within))) in
      λ same. missing.distinct.distinct k j near (omega (arith, within, columns_long)) (sym is ∙ sym same ∙ sym (column_of j other within))

  pub next_empty : get_or so_far column [] ≡ []
  next_empty =
      filled_others size blocks 0 (take j wanteds) row column (not_among column (columns_of (take j wanteds)) apart)
      ∙ missing.empty j other within

  pub next_filled : (n : ℕ) → n ≡ (get_or wanteds j other).length → set so_far column (take n (drop (j * size) blocks)) ≡ filled size blocks (take (j + 1) wanteds) row
  next_filled n is = ap (λ (m : ℕ). set so_far column (take m (drop (j * size) blocks))) is ∙ sym (filled_more size blocks wanteds row j other within)
