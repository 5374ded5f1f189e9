-- What a window keeps of the stripes that were read into it.
use Rattle.std.proofs.Common.{◌≡◌, ℕ, ◌+◌, List, [], ◌∷◌, ◌++◌, map, sym, ap, ◌∙◌, arith}
use Rattle.std.specs.List.{range_with_len}
use Rattle.std.proofs.Math.ListN.{get_or-map}
use Rattle.std.proofs.lemmas.List.{map-id}
use Rattle.std.proofs.lemmas.List.FromFn.{map-range_with_len_more}
use Rattle.stripe_reader.specs.WindowValue.{WindowValue, slot_at}
use Rattle.stripe_findings.specs.Reading.{StripeReading, slot_of, slot_in, reading_at}

-- the numbers below one that is one greater
pub range_more : (n : ℕ) → range_with_len 0 (n + 1) ≡ range_with_len 0 n ++ n ∷ []
range_more n = sym (map-id (range_with_len 0 (n + 1))) ∙ map-range_with_len_more (λ (k : ℕ). k) 0 n n (omega arith) ∙ ap (λ (ks : List ℕ). ks ++ n ∷ []) (map-id (range_with_len 0 n))

-- the slot of a column is the one that the window has there
pub slot_of-reading_at : (stripes : List ℕ) (window : WindowValue) (i d : ℕ) → slot_of d (reading_at stripes window i) ≡ slot_at window i d
slot_of-reading_at stripes window i d = get_or-map (slot_in i) window.lanes d []

-- what a window keeps of the first so many stripes
abbrev pub readings_to : List ℕ → WindowValue → ℕ → List StripeReading
readings_to stripes window n = map (reading_at stripes window) (range_with_len 0 n)

pub readings_more : (stripes : List ℕ) (window : WindowValue) (n : ℕ) → readings_to stripes window (n + 1) ≡ readings_to stripes window n ++ reading_at stripes window n ∷ []
readings_more stripes window n = map-range_with_len_more (reading_at stripes window) 0 n n (omega arith)
