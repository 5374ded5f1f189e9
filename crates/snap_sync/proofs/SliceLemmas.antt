-- The pending stripes as the code cuts them out.
use Rattle.std.proofs.Common.{◌≡◌, ℕ, ◌+◌, ◌-◌, List, take, drop, Option, refl, ap, ap₂, ◌∙◌, arith}
use Rattle.snap_sync.specs.declared.beginning.Work.{Work}
use Rattle.snap_sync.specs.Run.{all_of, count_after, pending_after, stripes_near, stripes_next}
use Rattle.snap_sync.specs.Schedule.{window_count}

pub slice_is : (xs ys : List ℕ) (first count n : ℕ) → n ≡ first + count → xs ≡ ys → take (n - first) (drop first xs) ≡ take count (drop first ys)
slice_is xs ys first count n n_is same = ap₂ (λ (k : ℕ) (zs : List ℕ). take k (drop first zs)) (omega (arith, n_is)) same

pub near_slice : (work : Work) (done count : ℕ) (xs : List ℕ) → count ≡ work.room.near.count → xs ≡ work.pending.items → take ((done + count) - done) (drop done xs) ≡ stripes_near work done
near_slice work done count xs count_is same =
    slice_is xs work.pending.items done count (done + count) refl same ∙ ap (λ (n : ℕ). take n (drop done work.pending.items)) count_is

pub next_slice : (every : Option ℕ) (work : Work) (done count more room all : ℕ) (xs : List ℕ) → count ≡ work.room.near.count → room ≡ work.room.near.room → all ≡ all_of work
    → more ≡ window_count every room all (done + count) → xs ≡ work.pending.items
    → take ((done + count + more) - (done + count)) (drop (done + count) xs) ≡ stripes_next every work done
next_slice every work done count more room all xs count_is room_is all_is more_is same =
    slice_is xs work.pending.items (done + count) more (done + count + more) refl same
    ∙ ap (λ (n : ℕ). take n (drop (done + count) work.pending.items)) (more_is ∙ ap₂ (λ (r : ℕ) (a : ℕ). window_count every r a (done + count)) room_is all_is)
    ∙ ap (λ (n : ℕ). pending_after work (done + n) (count_after every work (done + n))) count_is
