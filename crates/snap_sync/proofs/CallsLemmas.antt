-- The calls for the stripes that were read, window by window.
use Rattle.std.proofs.Common.{◌≡◌, ℕ, zero, suc, ◌+◌, ◌-◌, ◌<◌, ◌≤◌, List, [], ◌∷◌, ◌++◌, length, take, get_or, Bool, false, if◌then◌else◌, refl, sym, ◌∙◌, ap, ap₂, append_assoc, length-append, arith}
use Rattle.std.specs.List.{range_with_len, flat_map}
use Rattle.std.proofs.lemmas.List.{append-nil, take-append-le, get_or_append_left, get_or-append-add}
use Rattle.std.proofs.lemmas.Grind.{flat_map-append}
use Rattle.disk_model.specs.Vault.{VaultCall}
use Rattle.disk_model.proofs.InOrder.{range_more}
use Rattle.parity_writer.specs.Calls.{sum_calls}
use Rattle.parity_writer.specs.Chosen.{Choice, stripe_in, choice_calls, window_calls}
use Rattle.parity_writer.specs.Parity.{Row}
use Rattle.parity_writer.specs.WindowRow.{row_at}
use Rattle.stripe_reader.specs.WindowValue.{WindowValue}
use Rattle.snap_sync.specs.Calls.{SyncPlan, writes_of, checkpoint_calls, saves_after, no_reading, calls_at, stripe_calls}
use Rattle.snap_sync.specs.Closing.{closed}
use Rattle.stripe_findings.specs.Reading.{StripeReading, is_verified}
use Rattle.snap_sync.proofs.RowsLemmas.{IsWindowOf}

flat_more : (calls : ℕ → List VaultCall) (k : ℕ) → flat_map calls (range_with_len 0 (k + 1)) ≡ flat_map calls (range_with_len 0 k) ++ calls k
flat_more calls k =
    sym (ap (λ cs. flat_map calls (range_with_len 0 k) ++ cs) (sym (append-nil (calls k))) ∙ sym (flat_map-append calls (range_with_len 0 k) (k ∷ [])) ∙ ap (flat_map calls) (range_more k))

next : (n : ℕ) → suc n ≡ n + 1
next n = omega arith

flat_same : (f g : ℕ → List VaultCall) (n : ℕ) → ((i : ℕ) → i < n → f i ≡ g i) → flat_map f (range_with_len 0 n) ≡ flat_map g (range_with_len 0 n)
flat_same f g zero same = refl
flat_same f g (suc n) same =
    ap (λ (m : ℕ). flat_map f (range_with_len 0 m)) (next n) ∙ flat_more f n
    ∙ ap₂ (λ (xs ys : List VaultCall). xs ++ ys) (flat_same f g n (λ i below. same i (omega (arith, below)))) (same n (omega arith))
    ∙ sym (flat_more g n) ∙ ap (λ (m : ℕ). flat_map g (range_with_len 0 m)) (sym (next n))

-- the checkpoint that stands behind so many stripes, if one does
abbrev pub behind : SyncPlan → List StripeReading → ℕ → List VaultCall
behind plan readings k = if saves_after plan k then checkpoint_calls plan (closed plan.now plan.start (take k readings)) else []

module _ (plan : SyncPlan) (readings ws : List StripeReading) where
  -- those for the stripes that were read before stay
  pub calls_kept : (k : ℕ) → k ≤ length readings → stripe_calls plan (readings ++ ws) k ≡ stripe_calls plan readings k
  calls_kept k within = flat_same (calls_at plan (readings ++ ws)) (calls_at plan readings) k
      (λ i below.
      ap₂ (λ (one : StripeReading) (xs : List StripeReading).
      writes_of plan.start one ++ (if saves_after plan (i + 1) then checkpoint_calls plan (closed plan.now plan.start xs) else []))
      (get_or_append_left readings ws no_reading i (omega (arith, below, within))) (take-append-le (i + 1) readings ws (omega (arith, below, within))))

  abbrev k : ℕ
  k = length readings

  module _ (window : WindowValue) (choice : Choice) (of : IsWindowOf plan.start ws window choice) where
    choice_is : (i : ℕ) → i < length ws → choice_calls plan.start.shape.levels window choice i ≡ writes_of plan.start (get_or (readings ++ ws) (k + i) no_reading)
    choice_is i below =
        let levels = plan.start.shape.levels in
        let one = get_or ws i no_reading in
        ap (λ (b : Bool). if b then sum_calls levels window.block_size (stripe_in choice i) (row_at window i) else []) (of.chosen i below)
        ∙ ap (λ (n : ℕ). if is_verified plan.start one then sum_calls levels n (stripe_in choice i) (row_at window i) else []) of.block_size
        ∙ ap₂ (λ (s : ℕ) (row : Row). if is_verified plan.start one then sum_calls levels plan.start.shape.block_size s row else []) (of.stripes i below) (of.rows i below)
        ∙ ap (writes_of plan.start) (sym (get_or-append-add readings ws i no_reading))

    abbrev its : ℕ → List VaultCall
    its n = window_calls plan.start.shape.levels window choice n

    -- one more stripe, and the checkpoint behind it
    one_more : (n : ℕ) → n < length ws → stripe_calls plan (readings ++ ws) (k + n) ≡ stripe_calls plan readings k ++ its n
        → (stripe_calls plan readings k ++ its (n + 1)) ++ behind plan (readings ++ ws) (k + n + 1) ≡ stripe_calls plan (readings ++ ws) (k + n + 1)
    one_more n below so_far =
        let before = stripe_calls plan readings k in
        let last = behind plan (readings ++ ws) (k + n + 1) in
        ap (λ (cs : List VaultCall). (before ++ cs) ++ last) (flat_more (choice_calls plan.start.shape.levels window choice) n)
        ∙ ap (λ (cs : List VaultCall). cs ++ last) (sym (append_assoc before (its n) (choice_calls plan.start.shape.levels window choice n)))
        ∙ append_assoc (before ++ its n) (choice_calls plan.start.shape.levels window choice n) last
        ∙ ap₂ (λ (xs ys : List VaultCall). xs ++ (ys ++ last)) (sym so_far) (choice_is n below)
        ∙ sym (flat_more (calls_at plan (readings ++ ws)) (k + n))

    -- the calls of a window follow, where no checkpoint stands within it
    within_window : (n : ℕ) → n ≤ length ws → ((j : ℕ) → 0 < j → j ≤ n → saves_after plan (k + j) ≡ false) → stripe_calls plan (readings ++ ws) (k + n) ≡ stripe_calls plan readings k ++ its n
    within_window zero within none =
        ap (stripe_calls plan (readings ++ ws)) (let e : k + 0 ≡ k = omega arith in e) ∙ calls_kept k (omega arith) ∙ sym (append-nil (stripe_calls plan readings k))
    within_window (suc n) within none =
        let e : k + suc n ≡ k + n + 1 = omega arith in
        let off : saves_after plan (k + n + 1) ≡ false = ap (saves_after plan) (sym e) ∙ none (suc n) (omega arith) (omega arith) in
        let nothing : behind plan (readings ++ ws) (k + n + 1) ≡ [] = ap (λ (b : Bool). if b then checkpoint_calls plan (closed plan.now plan.start (take (k + n + 1) (readings ++ ws))) else []) off in
        ap (stripe_calls plan (readings ++ ws)) e
        ∙ sym (one_more n (omega (arith, within)) (within_window n (omega (arith, within)) (λ j some small. none j some (omega (arith, small)))))
        ∙ ap (λ (cs : List VaultCall). (stripe_calls plan readings k ++ its (n + 1)) ++ cs) nothing
        ∙ append-nil (stripe_calls plan readings k ++ its (n + 1))
        ∙ ap (λ (m : ℕ). stripe_calls plan readings k ++ its m) (sym (next n))

    -- and then the checkpoint behind it, if one stands there
    pub window_ends : 0 < length ws → ((j : ℕ) → 0 < j → j < length ws → saves_after plan (k + j) ≡ false)
        → (stripe_calls plan readings k ++ its (length ws)) ++ behind plan (readings ++ ws) (length (readings ++ ws)) ≡ stripe_calls plan (readings ++ ws) (length (readings ++ ws))
    window_ends some none =
        let n = length ws - 1 in
        let all : n + 1 ≡ length ws = omega (arith, some) in
        let whole : k + n + 1 ≡ length (readings ++ ws) = omega (arith, some, length-append readings ws) in
        ap₂ (λ (m j : ℕ). (stripe_calls plan readings k ++ its m) ++ behind plan (readings ++ ws) j) (sym all) (sym whole)
        ∙ one_more n (omega (arith, some)) (within_window n (omega arith) (λ j more small. none j more (omega (arith, some, small))))
        ∙ ap (stripe_calls plan (readings ++ ws)) whole
