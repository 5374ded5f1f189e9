-- One stripe more: in a count, in the least of many, and in a text.
use Rattle.std.proofs.Common.{◌≡◌, ℕ, ◌+◌, ◌<◌, List, [], ◌∷◌, ◌++◌, Bool, cond, length, take, get_or, map, count_by, Option, None, Some, arith, refl, sym, ◌∙◌, ap}
use Rattle.std.proofs.lemmas.List.{take_more, flat_map_more, map-id}
use Rattle.std.proofs.lemmas.List.FromFn.{map-range_with_len_more}
use Rattle.std.specs.List.{range_with_len}
use Rattle.snap_report.specs.EventLines.{joined}
use Rattle.snap_report.specs.StatusText.{lesser, least}
use Rattle.snap_report.proofs.TallyLemmas.{count_more}

-- a count over the first items
pub count_one_more : {X : Type 0} (p : X → Bool) (xs : List X) (i : ℕ) (d : X) → i < length xs → count_by p (take (i + 1) xs) ≡ count_by p (take i xs) + cond (p (get_or xs i d)) 1 0
count_one_more p xs i d within = ap (count_by p) (take_more xs i d within) ∙ count_more p (take i xs) (get_or xs i d)

-- the least of three
lesser_assoc : (a b c : Option ℕ) → lesser a (lesser b c) ≡ lesser (lesser a b) c
lesser_assoc None b c = refl
lesser_assoc (Some a) None c = refl
lesser_assoc (Some a) (Some b) None = refl
lesser_assoc (Some a) (Some b) (Some c) = ap Some (omega arith)

lesser-none : (a : Option ℕ) → lesser a None ≡ a
lesser-none None = refl
lesser-none (Some a) = refl

least-append : (xs : List (Option ℕ)) (x : Option ℕ) → least (xs ++ x ∷ []) ≡ lesser (least xs) x
least-append [] x = lesser-none x
least-append (y ∷ ys) x = ap (lesser y) (least-append ys x) ∙ lesser_assoc y (least ys) x

pub least_more : (f : ℕ → Option ℕ) (n : ℕ) → least (map f (range_with_len 0 (n + 1))) ≡ lesser (least (map f (range_with_len 0 n))) (f n)
least_more f n = ap least (map-range_with_len_more f 0 n n (omega arith)) ∙ least-append (map f (range_with_len 0 n)) (f n)

-- one number more
pub range_more : (n : ℕ) → range_with_len 0 (n + 1) ≡ range_with_len 0 n ++ n ∷ []
range_more n = sym (map-id (range_with_len 0 (n + 1))) ∙ map-range_with_len_more (λ k. k) 0 n n (omega arith) ∙ ap (λ xs. xs ++ n ∷ []) (map-id (range_with_len 0 n))

-- a text of one stripe more
pub joined_more : (f : ℕ → List ℕ) (n : ℕ) → joined (map f (range_with_len 0 (n + 1))) ≡ joined (map f (range_with_len 0 n)) ++ f n
joined_more f n = ap joined (map-range_with_len_more f 0 n n (omega arith)) ∙ sym (flat_map_more (λ (text : List ℕ). text) [] (map f (range_with_len 0 n)) (f n))
