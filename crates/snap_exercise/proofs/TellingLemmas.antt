-- The five lines of an exercise, and the sums in the first.
use Rattle.std.proofs.Common.{◌≡◌, ℕ, ◌+◌, List, [], ◌∷◌, ◌++◌, sum_by, sym, ap, ◌∙◌, arith, append_assoc}
use Rattle.std.proofs.lemmas.List.{append-nil, map-id}
use Rattle.std.proofs.lemmas.List.FromFn.{sum_by-map-range_with_len_more}
use Rattle.std.specs.List.{range_with_len}
use Rattle.disk_model.specs.Sink.{SinkView}
use Rattle.snap_report.specs.EventLines.{joined}
use Rattle.snap_report.specs.State.{Puts}
use Rattle.snap_report.specs.declared.pages.Lines.{Lines}
use Rattle.snap_report.proofs.PutsLemmas.{puts_then, puts_same}

-- the sum over one number more
pub sum_more : (f : ℕ → ℕ) (n : ℕ) → sum_by f (range_with_len 0 (n + 1)) ≡ sum_by f (range_with_len 0 n) + f n
sum_more f n = ap (sum_by f) (sym (map-id (range_with_len 0 (n + 1)))) ∙ sum_by-map-range_with_len_more f (λ (k : ℕ). k) 0 n n (omega arith) ∙ ap (λ (ks : List ℕ). sum_by f ks + f n) (map-id (range_with_len 0 n))

in_line : (a b c d e : List ℕ) → ((((a ++ b) ++ c) ++ d) ++ e) ++ [] ≡ joined (a ∷ b ∷ c ∷ d ∷ e ∷ [])
in_line a b c d e =
    append-nil ((((a ++ b) ++ c) ++ d) ++ e)
    ∙ append_assoc ((a ++ b) ++ c) d e ∙ append_assoc (a ++ b) c (d ++ e) ∙ append_assoc a b (c ++ (d ++ e))
    ∙ ap (λ (x : List ℕ). a ++ (b ++ (c ++ (d ++ x)))) (sym (append-nil e))

-- six texts, the last of which is none
pub puts_five : {W : Type 0} (view : W → SinkView) (a b c d e : List ℕ) (l0 l1 l2 l3 l4 l5 l6 : Lines W) → Puts view a l0 l1 → Puts view b l1 l2 → Puts view c l2 l3 → Puts view d l3 l4 → Puts view e l4 l5 → Puts view [] l5 l6
    → Puts view (joined (a ∷ b ∷ c ∷ d ∷ e ∷ [])) l0 l6
puts_five view a b c d e l0 l1 l2 l3 l4 l5 l6 p q r s t u =
    puts_same view _ _ l0 l6 (puts_then view ((((a ++ b) ++ c) ++ d) ++ e) [] l0 l5 l6 (puts_then view (((a ++ b) ++ c) ++ d) e l0 l4 l5 (puts_then view ((a ++ b) ++ c) d l0 l3 l4 (puts_then view (a ++ b) c l0 l2 l3 (puts_then view a b l0 l1 l2 p q) r) s) t) u) (in_line a b c d e)
