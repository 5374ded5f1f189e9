-- What is told of finished files, record by record and column by column.
use Rattle.std.proofs.Common.{◌≡◌, ℕ, zero, suc, ◌+◌, ◌-◌, ◌<◌, List, [], ◌∷◌, ◌++◌, length, true, false, refl, sym, ap, ap₂, ◌∙◌, subst, arith}
use Rattle.std.specs.List.{range_with_len, flat_map}
use Rattle.std.proofs.lemmas.Grind.{flat_map-append}
use Rattle.std.proofs.lemmas.List.{get_or_append_left, get_or_push}
use Rattle.disk_model.proofs.InOrder.{range_split}
use Rattle.snap_report.specs.declared.events.Event.{Event}
use Rattle.file_restorer.specs.declared.finishing.Finish.{Finish}
use Rattle.file_restorer.specs.declared.finishing.Finish.TheVariants.{Kept, Restored, Unstamped, Renamed, Gone}
use Rattle.snap_fix.specs.Ending.{column_news, column_news_at, finish_at, finish_news, finishes_at, news_of, record_news}
use Rattle.snap_fix.specs.EndingSteps.{done_news, unstamped_news}
use Rattle.repair_scope.specs.Plan.{FixPlan}
use Rattle.stripe_examiner.proofs.TellingLemmas.{events_to, events_to-more}

-- ---- of one record

-- that it was done, and then that its stamp was not set
pub news_parts : (d i : ℕ) (finish : Finish) → finish_news d i finish ≡ done_news d i finish ++ unstamped_news d i finish
news_parts d i Kept = refl
news_parts d i (Restored true) = refl
news_parts d i (Restored false) = refl
news_parts d i Unstamped = refl
news_parts d i Renamed = refl
news_parts d i Gone = refl

-- ---- of the first of them

pub events_same : (of other : ℕ → List Event) (n : ℕ) → ((i : ℕ) → i < n → of i ≡ other i) → events_to of n ≡ events_to other n
events_same of other zero same = refl
events_same of other (suc n) same =
    let more : n + 1 ≡ suc n = omega arith in
    subst (λ (m : ℕ). events_to of m ≡ events_to other m) more
    (events_to-more of n
    ∙ ap₂ (λ (front back : List Event). front ++ back) (events_same of other n (λ i below. same i (omega (arith, below)))) (same n (omega arith))
    ∙ sym (events_to-more other n))

-- the first events, and the others
abbrev pub events_after : (ℕ → List Event) → ℕ → ℕ → List Event
events_after of k n = flat_map of (k ∷ range_with_len (k + 1) (n - suc k))

pub events_split : (of : ℕ → List Event) (k n : ℕ) → k < n → events_to of n ≡ events_to of k ++ events_after of k n
events_split of k n below =
    ap (λ (ns : List ℕ). flat_map of ns) (sym (range_split k n below)) ∙ flat_map-append of (range_with_len 0 k) (k ∷ range_with_len (k + 1) (n - suc k))

-- one more record was finished
pub finish_before : (done : List Finish) (finish : Finish) (i : ℕ) → i < length done → finish_at (done ++ finish ∷ []) i ≡ finish_at done i
finish_before done finish i below = get_or_append_left done (finish ∷ []) Kept i below

pub finish_last : (done : List Finish) (finish : Finish) (i : ℕ) → length done ≡ i → finish_at (done ++ finish ∷ []) i ≡ finish
finish_last done finish i last = get_or_push done finish Kept i last

pub records_before : (plan : FixPlan) (d : ℕ) (done : List Finish) (finish : Finish) (n : ℕ) → length done ≡ n
    → events_to (record_news plan d (done ++ finish ∷ [])) n ≡ events_to (record_news plan d done) n
records_before plan d done finish n long = events_same (record_news plan d (done ++ finish ∷ [])) (record_news plan d done) n
    (λ i below. ap (news_of plan d i) (finish_before done finish i (omega (arith, below, long))))

-- one more column was
pub finishes_before : (finishes : List (List Finish)) (done : List Finish) (d : ℕ) → d < length finishes → finishes_at (finishes ++ done ∷ []) d ≡ finishes_at finishes d
finishes_before finishes done d below = get_or_append_left finishes (done ∷ []) [] d below

pub finishes_last : (finishes : List (List Finish)) (done : List Finish) (d : ℕ) → length finishes ≡ d → finishes_at (finishes ++ done ∷ []) d ≡ done
finishes_last finishes done d last = get_or_push finishes done [] d last

pub columns_before : (plan : FixPlan) (finishes : List (List Finish)) (done : List Finish) (n : ℕ) → length finishes ≡ n
    → events_to (column_news_at plan (finishes ++ done ∷ [])) n ≡ events_to (column_news_at plan finishes) n
columns_before plan finishes done n long = events_same (column_news_at plan (finishes ++ done ∷ [])) (column_news_at plan finishes) n
    (λ d below. ap (column_news plan d) (finishes_before finishes done d (omega (arith, below, long))))
