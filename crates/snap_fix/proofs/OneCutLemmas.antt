-- Stripes are cut into windows in one way.
use Rattle.std.proofs.Common.{◌≡◌, ℕ, suc, ◌+◌, ◌<◌, List, [], ◌∷◌, ◌++◌, length, get_or, All, refl, sym, ap, ap₂, ◌∙◌, arith}
use Rattle.std.proofs.lemmas.List.{length-append}
use Rattle.parity_writer.specs.LevelReading.{LevelReading}
use Rattle.stripe_examiner.specs.Facts.{StripeFacts}
use Rattle.repair_scope.specs.Plan.{FixPlan}
use Rattle.snap_fix.specs.Windows.{AreWindows, FixWindow, IsFixWindow, IsFull, cut_of, no_window, readings_in, stripes_in, window_of}

-- two lists that are the same, cut behind as many elements
cut_alike : {A : Type 0} (xs ys rest others : List A) → length xs ≡ length ys → xs ++ rest ≡ ys ++ others → (xs ≡ ys) × (rest ≡ others)
cut_alike [] [] rest others long is = (refl, is)
cut_alike [] (y ∷ ys) rest others long is = absurd (omega (arith, long))
cut_alike (x ∷ xs) [] rest others long is = absurd (omega (arith, long))
cut_alike {A = A} (x ∷ xs) (y ∷ ys) rest others long is =
    let first : x ≡ y = cc in
    let more : xs ++ rest ≡ ys ++ others = cc in
    let both = cut_alike xs ys rest others (omega (arith, long)) more in
    (ap₂ (λ (a : A) (its : List A). a ∷ its) first both.0, both.1)

-- each of these windows but the last one is full
abbrev AllButLast : FixPlan → List FixWindow → Type 0
AllButLast plan ws = (k : ℕ) → k + 1 < length ws → IsFull plan (get_or ws k no_window)

tail_each : (plan : FixPlan) (w : FixWindow) (ws : List FixWindow) → All (IsFixWindow plan) (w ∷ ws) → All (IsFixWindow plan) ws
tail_each plan w ws each k none below = each (suc k) none (omega (arith, below))

tail_full : (plan : FixPlan) (w : FixWindow) (ws : List FixWindow) → AllButLast plan (w ∷ ws) → AllButLast plan ws
tail_full plan w ws full k below = full (suc k) (omega (arith, below))

-- how many stripes there are in a window and those behind it
many_in : (w : FixWindow) (ws : List FixWindow) → length (stripes_in (w ∷ ws)) ≡ length w.stripes + length (stripes_in ws)
many_in w ws = length-append w.stripes (stripes_in ws)

-- the first windows of two cuts have as many stripes
same_size : (plan : FixPlan) (w v : FixWindow) (ws vs : List FixWindow) → All (IsFixWindow plan) (w ∷ ws) → All (IsFixWindow plan) (v ∷ vs)
    → AllButLast plan (w ∷ ws) → AllButLast plan (v ∷ vs) → length (stripes_in (w ∷ ws)) ≡ length (stripes_in (v ∷ vs)) → length w.stripes ≡ length v.stripes
same_size plan w v [] [] one two ones others same =
    let none : length (stripes_in []) ≡ 0 = refl in
    omega (arith, many_in w [], many_in v [], none, same)
same_size plan w v [] (u ∷ vs) one two ones others same =
    let none : length (stripes_in []) ≡ 0 = refl in
    let is = one 0 w (omega arith) in
    let next = two 1 v (omega arith) in
    let full : IsFull plan v = others 0 (omega arith) in
    absurd (omega (arith, many_in w [], many_in v (u ∷ vs), many_in u vs, none, same, is.few, next.some, full))
same_size plan w v (u ∷ ws) [] one two ones others same =
    let none : length (stripes_in []) ≡ 0 = refl in
    let is = two 0 v (omega arith) in
    let next = one 1 w (omega arith) in
    let full : IsFull plan w = ones 0 (omega arith) in
    absurd (omega (arith, many_in v [], many_in w (u ∷ ws), many_in u ws, none, same, is.few, next.some, full))
same_size plan w v (u ∷ ws) (t ∷ vs) one two ones others same =
    let first : IsFull plan w = ones 0 (omega arith) in
    let second : IsFull plan v = others 0 (omega arith) in
    first ∙ sym second

-- So are all windows; and where the readings are the same, the windows are, with what was read of them.
same_windows : (plan : FixPlan) (ws vs : List FixWindow) → All (IsFixWindow plan) ws → All (IsFixWindow plan) vs → AllButLast plan ws → AllButLast plan vs
    → stripes_in ws ≡ stripes_in vs → (cut_of ws ≡ cut_of vs) × (readings_in ws ≡ readings_in vs → ws ≡ vs)
same_windows plan [] [] one two ones others stripes = (refl, λ readings. refl)
same_windows plan [] (v ∷ vs) one two ones others stripes =
    let none : length (stripes_in []) ≡ 0 = refl in
    let is = two 0 v (omega arith) in
    absurd (omega (arith, none, many_in v vs, is.some, ap (λ (its : List StripeFacts). length its) stripes))
same_windows plan (w ∷ ws) [] one two ones others stripes =
    let none : length (stripes_in []) ≡ 0 = refl in
    let is = one 0 w (omega arith) in
    absurd (omega (arith, none, many_in w ws, is.some, ap (λ (its : List StripeFacts). length its) stripes))
same_windows plan (w ∷ ws) (v ∷ vs) one two ones others stripes =
    let size = same_size plan w v ws vs one two ones others (ap (λ (its : List StripeFacts). length its) stripes) in
    let first = cut_alike w.stripes v.stripes (stripes_in ws) (stripes_in vs) size stripes in
    let behind = same_windows plan ws vs (tail_each plan w ws one) (tail_each plan v vs two) (tail_full plan w ws ones) (tail_full plan v vs others) first.1 in (
      ap₂ (λ (its : List StripeFacts) (more : List (List StripeFacts)). its ∷ more) first.0 behind.0,
      λ readings.
          let as_many : length w.readings ≡ length v.readings = (one 0 w (omega arith)).as_many ∙ size ∙ sym (two 0 v (omega arith)).as_many in
          let second = cut_alike w.readings v.readings (readings_in ws) (readings_in vs) as_many readings in
          let here : w ≡ v = ap₂ (λ (a : List StripeFacts) (b : List (List LevelReading)). window_of a b) first.0 second.0 in
          ap₂ (λ (a : FixWindow) (its : List FixWindow). a ∷ its) here (behind.1 second.1),
    )

module _ (plan : FixPlan) (windows others : List FixWindow) (stripes : List StripeFacts) where
  both_cut : (readings more : List (List LevelReading)) → AreWindows plan windows stripes readings → AreWindows plan others stripes more
      → (cut_of windows ≡ cut_of others) × (readings_in windows ≡ readings_in others → windows ≡ others)
  both_cut readings more one two = same_windows plan windows others one.each two.each one.full two.full (sym one.stripes_are ∙ two.stripes_are)

  -- whatever was read of their levels
  pub one_cut_of : (readings more : List (List LevelReading)) → AreWindows plan windows stripes readings → AreWindows plan others stripes more → cut_of windows ≡ cut_of others
  one_cut_of readings more one two = (both_cut readings more one two).0

  pub one_cut : (readings : List (List LevelReading)) → AreWindows plan windows stripes readings → AreWindows plan others stripes readings → windows ≡ others
  one_cut readings one two = (both_cut readings readings one two).1 (sym one.readings_are ∙ two.readings_are)
