-- What is selected, number by number.
use Rattle.std.proofs.Common.{◌≡◌, ℕ, ◌+◌, ◌<◌, List, [], ◌∷◌, ◌++◌, length, get_or, Bool, true, false, cond, sym, ap, ◌∙◌, arith}
use Rattle.std.specs.Prelude.{◌||◌, filter}
use Rattle.std.specs.List.{range_with_len, list_any}
use Rattle.std.proofs.lemmas.List.{map-id, append-nil}
use Rattle.std.proofs.lemmas.List.FromFn.{map-range_with_len_more, length-range_with_len, get_or-range_with_len}
use Rattle.std.proofs.lemmas.List.Elements.{filter-append}
use Rattle.std.proofs.lemmas.List.Folds.{list_any-append, list_any_at}

-- the numbers up to one more
pub range_more : (n : ℕ) → range_with_len 0 (n + 1) ≡ range_with_len 0 n ++ n ∷ []
range_more n = sym (map-id (range_with_len 0 (n + 1))) ∙ map-range_with_len_more (λ (k : ℕ). k) 0 n n (omega arith) ∙ ap (λ (ks : List ℕ). ks ++ n ∷ []) (map-id (range_with_len 0 n))

-- one of the numbers passes
pub any_at : (p : ℕ → Bool) (n k : ℕ) → k < n → p k ≡ true → list_any p (range_with_len 0 n) ≡ true
any_at p n k below is =
    let long : length (range_with_len 0 n) ≡ n = length-range_with_len 0 n in
    let at : get_or (range_with_len 0 n) k 0 ≡ k = get_or-range_with_len 0 n k 0 below ∙ (omega arith) in
    list_any_at p (range_with_len 0 n) k 0 (omega (arith, long, below)) (ap p at ∙ is)

-- none of the numbers so far passes, and this one does not
pub none_more : (p : ℕ → Bool) (n : ℕ) → list_any p (range_with_len 0 n) ≡ false → p n ≡ false → list_any p (range_with_len 0 (n + 1)) ≡ false
none_more p n before here =
    ap (list_any p) (range_more n)
    ∙ list_any-append p (range_with_len 0 n) (n ∷ [])
    ∙ ap (λ (t : Bool). t || (p n || false)) before
    ∙ ap (λ (t : Bool). t || false) here

-- one that passes is kept, and one that does not is not
pub kept_more : (p : ℕ → Bool) (n : ℕ) (kept : List ℕ) → kept ≡ filter p (range_with_len 0 n) → p n ≡ true → kept ++ n ∷ [] ≡ filter p (range_with_len 0 (n + 1))
kept_more p n kept before here =
    sym (ap (filter p) (range_more n)
    ∙ filter-append p (range_with_len 0 n) (n ∷ [])
    ∙ ap (λ (t : Bool). filter p (range_with_len 0 n) ++ cond t (n ∷ []) []) here
    ∙ ap (λ (ks : List ℕ). ks ++ n ∷ []) (sym before))

pub left_out : (p : ℕ → Bool) (n : ℕ) (kept : List ℕ) → kept ≡ filter p (range_with_len 0 n) → p n ≡ false → kept ≡ filter p (range_with_len 0 (n + 1))
left_out p n kept before here =
    sym (ap (filter p) (range_more n)
    ∙ filter-append p (range_with_len 0 n) (n ∷ [])
    ∙ ap (λ (t : Bool). filter p (range_with_len 0 n) ++ cond t (n ∷ []) []) here
    ∙ append-nil (filter p (range_with_len 0 n))
    ∙ sym before)
