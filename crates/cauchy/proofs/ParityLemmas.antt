-- The parity of a row, byte by byte.
use Rattle.std.proofs.Common.{◌≡◌, ℕ, suc, ◌<◌, List, [], ◌∷◌, ◌++◌, length, get_or, sym, ap, ◌∙◌, zero-add, add-one, replicate, length-append}
use Rattle.std.specs.Int.Bits.{bit_xor, xor_zero_r}
use Rattle.std.proofs.lemmas.List.{get_or_append_left, get_or-replicate, length-replicate}
use Rattle.std.proofs.Math.Seq.{get_or-append_seam}
use Rattle.std.proofs.lemmas.List.FromFn.{fill_by_all, length-map-range_with_len, get_or-map-range_with_len}
use Rattle.gf256.specs.Field.{sum_below, product}
use Rattle.gf256.proofs.Theorems.{product-zero}
use Rattle.cauchy.specs.Matrix.{entry_of, byte_of, parity_byte, parity_of, AddsTerm}
use Rattle.cauchy.proofs.Sums.{sum_below-same}

pub length-parity_of : (level size : ℕ) (row : List (List ℕ)) → length (parity_of level size row) ≡ size
unfolding parity_of
length-parity_of level size row = length-map-range_with_len (parity_byte level row) 0 size

pub get_or-parity_of : (level size : ℕ) (row : List (List ℕ)) (i : ℕ) → i < size → get_or (parity_of level size row) i 0 ≡ parity_byte level row i
unfolding parity_of
get_or-parity_of level size row i h = get_or-map-range_with_len (parity_byte level row) 0 size i i 0 h (zero-add i)

-- a block of a level is known by its bytes
pub parity_of-bytes : (level size : ℕ) (row : List (List ℕ)) (xs : List ℕ) → length xs ≡ size → ((i : ℕ) → i < size → get_or xs i 0 ≡ parity_byte level row i) → xs ≡ parity_of level size row
unfolding parity_of
parity_of-bytes level size row xs long bytes = fill_by_all (parity_byte level row) xs size 0 long bytes

-- one more block
pub parity_byte-push : (level : ℕ) (row : List (List ℕ)) (block : List ℕ) (i : ℕ)
    → parity_byte level (row ++ block ∷ []) i ≡ bit_xor (parity_byte level row i) (product (entry_of level (length row)) (get_or block i 0))
unfolding parity_byte
parity_byte-push level row block i =
    let longer : length (row ++ block ∷ []) ≡ suc (length row) = length-append row (block ∷ []) ∙ add-one (length row) in
    ap (sum_below (λ c. product (entry_of level c) (byte_of (row ++ block ∷ []) c i))) longer
    ∙ ap (λ (x : ℕ). bit_xor x (product (entry_of level (length row)) (byte_of (row ++ block ∷ []) (length row) i)))
    (sum_below-same (λ c. product (entry_of level c) (byte_of (row ++ block ∷ []) c i)) (λ c. product (entry_of level c) (byte_of row c i)) (length row)
    (λ c hc. ap (λ (b : List ℕ). product (entry_of level c) (get_or b i 0)) (get_or_append_left row (block ∷ []) [] c hc)))
    ∙ ap (λ (b : List ℕ). bit_xor (parity_byte level row i) (product (entry_of level (length row)) (get_or b i 0))) (get_or-append_seam row block [] [])

-- the levels of a row grow by a block
pub next_block : (level column : ℕ) (row : List (List ℕ)) (block old new : List ℕ) → AddsTerm level column block old new → length row ≡ column → old ≡ parity_of level (length old) row
    → new ≡ parity_of level (length old) (row ++ block ∷ [])
next_block level column row block old new added here whole =
    parity_of-bytes level (length old) (row ++ block ∷ []) new added.same_length
    (λ i hi.
    added.bytes i hi
    ∙ ap (λ (c : ℕ). bit_xor (get_or old i 0) (product (entry_of level c) (get_or block i 0))) (sym here)
    ∙ ap (λ (x : ℕ). bit_xor x (product (entry_of level (length row)) (get_or block i 0)))
    (ap (λ (xs : List ℕ). get_or xs i 0) whole ∙ get_or-parity_of level (length old) row i hi)
    ∙ sym (parity_byte-push level row block i))

-- a column without a block adds nothing
pub no_block : (level size : ℕ) (row : List (List ℕ)) → parity_of level size (row ++ [] ∷ []) ≡ parity_of level size row
no_block level size row =
    parity_of-bytes level size row (parity_of level size (row ++ [] ∷ [])) (length-parity_of level size (row ++ [] ∷ []))
    (λ i hi.
    get_or-parity_of level size (row ++ [] ∷ []) i hi ∙ parity_byte-push level row [] i
    ∙ ap (bit_xor (parity_byte level row i)) (product-zero (entry_of level (length row))) ∙ xor_zero_r (parity_byte level row i))

-- a row without columns
pub empty_row : (level size : ℕ) → parity_of level size [] ≡ replicate size 0
unfolding parity_byte
empty_row level size =
    sym (parity_of-bytes level size [] (replicate size 0) (length-replicate size 0) (λ i hi. get_or-replicate size i 0 0 hi))

same_byte : (level : ℕ) (one other : List (List ℕ)) (p : ℕ) → length one ≡ length other → ((c : ℕ) → c < length one → byte_of one c p ≡ byte_of other c p)
    → parity_byte level one p ≡ parity_byte level other p
unfolding parity_byte
same_byte level one other p long same =
    sum_below-same (λ c. product (entry_of level c) (byte_of one c p)) (λ c. product (entry_of level c) (byte_of other c p)) (length one)
    (λ c hc. ap (product (entry_of level c)) (same c hc))
    ∙ ap (sum_below (λ c. product (entry_of level c) (byte_of other c p))) long

-- rows of the same bytes have the same levels
pub same_bytes : (level size : ℕ) (one other : List (List ℕ)) → length one ≡ length other
    → ((c p : ℕ) → c < length one → p < size → byte_of one c p ≡ byte_of other c p) → parity_of level size one ≡ parity_of level size other
same_bytes level size one other long same =
    parity_of-bytes level size other (parity_of level size one) (length-parity_of level size one)
    (λ p hp. get_or-parity_of level size one p hp ∙ same_byte level one other p long (λ c hc. same c p hc hp))
