-- Writes to the parts of a level.
use Rattle.std.proofs.Common.{◌≡◌, ℕ, ◌+◌, ◌*◌, ◌-◌, ◌^◌, ◌<◌, ◌≤◌, min, max, List, [], ◌∷◌, length, take, drop, set, IsTrue, sym, ◌∙◌, ap, subst, arith, get_or, length-append}
use Rattle.std.proofs.lemmas.List.{get_or-take, get_or-drop, length-take, length-drop, get_or-set_same}
use Rattle.disk_model.specs.Bytes.{Torn, put}
use Rattle.disk_model.specs.Files.{Stays, parity_of}
use Rattle.disk_model.specs.Vault.{VaultView, Reads, IsWellFormed}
use Rattle.parity_split.specs.Joined.{joined, level_bytes, part_of}
use Rattle.parity_split.specs.Parts.{InStep, IsNear, IsReady}
use Rattle.parity_split.specs.Values.{SameValues, IsPut, IsPutBelow}
use Rattle.parity_split.specs.Works.{Works, HoldsOf, LevelBy, IsWithin, IsFound, parts_in}
use Rattle.parity_split.specs.declared.parts.End.{End}
use Rattle.parity_split.specs.declared.parts.Parts.{Parts}
use Rattle.parity_split.proofs.JoinedLemmas.{front, length-front, joined_at}
use Rattle.parity_split.proofs.PartsLemmas.{near_before, ready_before, in_step_after, near_of_ready}
use Rattle.parity_split.proofs.PieceLemmas.{torn_wider}
use Rattle.parity_split.proofs.StepLemmas.{before_torn, before_put, ready_torn, ready_put}
use Rattle.parity_split.proofs.ValueLemmas.{put_values, put_take, put_below_more, put_below_end, put_below_all, put_after_growth}
use Rattle.parity_split.proofs.WorksLemmas.{OnePart, part_works, part_holds, in_count, holds_with, holds_more, part_is, parts_set}

-- a piece of what is written
pub piece_values : (bytes : List ℕ) (from n k : ℕ) → k < length (take n (drop from bytes)) → get_or (take n (drop from bytes)) k 0 ≡ get_or bytes (from + k) 0
piece_values bytes from n k within =
    let a = length-take n (drop from bytes) in
    get_or-take n (drop from bytes) k 0 (omega arith) ∙ get_or-drop from bytes k 0

pub rest_values : (bytes : List ℕ) (from k : ℕ) → get_or (drop from bytes) k 0 ≡ get_or bytes (from + k) 0
rest_values bytes from k = get_or-drop from bytes k 0

pub exact_start : (s limit start at from to : ℕ) → start ≡ min s limit → from ≡ max at start → from < to → to ≤ limit → start ≡ s
exact_start s limit start at from to is_start is_from below room = omega arith

pub exact_low : (s limit start : ℕ) → start ≡ min s limit → s ≤ limit → start ≡ s
exact_low s limit start is room = omega arith

pub exact_end : (n e limit next to : ℕ) → next ≡ min e limit → to ≡ min n next → n ≤ limit → to ≡ min n e
exact_end n e limit next to is_next is_to room = omega arith

pub piece_length : (bytes : List ℕ) (at from to : ℕ) → at ≤ from → from ≤ to → to ≤ at + length bytes → length (take (to - at - (from - at)) (drop (from - at) bytes)) ≡ to - from
piece_length bytes at from to low up high =
    length-take (to - at - (from - at)) (drop (from - at) bytes) ∙ ap (λ m. min (to - at - (from - at)) m) (length-drop (from - at) bytes) ∙ omega arith

pub piece_end : (s o n from to whole : ℕ) → s + o ≡ from → n ≡ to - from → from ≤ to → to ≡ whole → s + o + n ≡ whole
piece_end s o n from to whole a b c d = omega arith

-- a level that goes on behind so many full parts is that long at least
pub full_length : (K i : ℕ) (reads : List (List ℕ)) → i < length reads → ((j : ℕ) → j < i → K ≤ length (part_of reads j)) → i * K ≤ length (joined K reads)
full_length K i reads within full =
    let a = length-append (front K i reads) (joined K (part_of reads i ∷ drop (i + 1) reads)) in
    let b = length-front K i reads (omega arith) full in
    subst (λ x. i * K ≤ length x) (sym (joined_at K i reads within full)) (omega arith)

module _ (p : Parts) where
  pub before_works : (end part o l at n : ℕ) (old new : VaultView) → IsWellFormed old → IsWithin p old.levels → part < end → end < p.count → o + l ≤ p.capacity → at ≤ part * p.capacity + o → part * p.capacity + o + l ≤ at + n
      → HoldsOf p (IsNear p.capacity end) old → Works (OnePart p part (Torn o l)) old new → Works (LevelBy p (Torn at n)) old new
  before_works end part o l at n old new formed within before low room from to near works =
      part_works p part (Torn o l) (IsNear p.capacity end) old new (omega arith) formed within near (Torn at n)
      (λ r b bytes held torn. torn_wider at n (part * p.capacity + o) l (joined p.capacity b) (joined p.capacity (set b part bytes)) from to
      (before_torn p.capacity within.capacity end part o l r b bytes before room held torn)) works

  pub before_near : (end part o l : ℕ) (old new : VaultView) → IsWellFormed old → IsWithin p old.levels → part < end → end < p.count → HoldsOf p (IsNear p.capacity end) old → Works (OnePart p part (Torn o l)) old new → HoldsOf p (IsNear p.capacity end) new
  before_near end part o l old new formed within before low near works =
      part_holds p part (Torn o l) (IsNear p.capacity end) old new (omega arith) formed within near (IsNear p.capacity end)
      (λ r b read bytes own held one two. near_before p.capacity within.capacity end part r b read bytes held before one.no_shorter two.no_shorter) works

  pub before_ready : (end part o l len : ℕ) (old new : VaultView) → IsWellFormed old → IsWithin p old.levels → part < end → end < p.count → HoldsOf p (IsReady p.capacity end len) old → Works (OnePart p part (Torn o l)) old new → HoldsOf p (IsReady p.capacity end len) new
  before_ready end part o l len old new formed within before low ready works =
      part_holds p part (Torn o l) (IsReady p.capacity end len) old new (omega arith) formed within ready (IsReady p.capacity end len)
      (λ r b read bytes own held one two. ready_before p.capacity within.capacity end part len r b read bytes held before one.no_shorter two.no_shorter) works

  -- the part as it reads after a write
  written_part : (part o l : ℕ) (piece : List ℕ) (old new : VaultView) → IsWellFormed old → IsWithin p old.levels → part < p.count → (works : Works (OnePart p part (Torn o l)) old new)
      → Reads (λ files. parity_of files (p.first + part) ≡ put (parity_of old.files (p.first + part)) o piece) new → IsTrue old.tells
      → (y : List ℕ) × (parts_in p new.files ≡ set (parts_in p old.files) part y) × IsPut o piece (part_of (parts_in p old.files) part) y
  written_part part o l piece old new formed within low works written was =
      let one = works.changes.reads was in
      let is : one.part ≡ put (part_of (parts_in p old.files) part) o piece =
      sym (get_or-set_same old.files.parities (p.first + part) one.part [] (omega (arith, within.within, (formed.shape was).files.parities)))
      ∙ ap (λ f. parity_of f (p.first + part)) (sym one.rest) ∙ written (works.calls.goes_on.tells ∙ was) ∙ ap (λ y. put y o piece) (sym (part_is p old.files part low)) in
      (one.part, ap (parts_in p) one.rest ∙ parts_set p old.files part one.part low, subst (λ y. IsPut o piece (part_of (parts_in p old.files) part) y) (sym is) (put_values o piece (part_of (parts_in p old.files) part)))

  pub before_written : (end part o l at : ℕ) (bytes piece start : List ℕ) (old new : VaultView) → IsWellFormed old → IsWithin p old.levels → part < end → end < p.count
      → part * p.capacity + o ≡ max at (part * p.capacity) → part * p.capacity + o + length piece ≡ min (at + length bytes) (part * p.capacity + p.capacity)
      → ((k : ℕ) → k < length piece → get_or piece k 0 ≡ get_or bytes (part * p.capacity + o + k - at) 0)
      → HoldsOf p (IsNear p.capacity end) old → Works (OnePart p part (Torn o l)) old new
      → Reads (λ files. parity_of files (p.first + part) ≡ put (parity_of old.files (p.first + part)) o piece) new
      → Reads (λ files. IsPutBelow (part * p.capacity) at bytes start (joined p.capacity (parts_in p files))) old
      → Reads (λ files. IsPutBelow (part * p.capacity + p.capacity) at bytes start (joined p.capacity (parts_in p files))) new
  before_written end part o l at bytes piece start old new formed within before low from to values near works written so_far t =
      let was : IsTrue old.tells = sym works.calls.goes_on.tells ∙ t in
      let w = written_part part o l piece old new formed within (omega arith) works written was in
      let r = parts_in p old.files in
      let own = near.reads was in
      let count = in_count p old.files old.levels within (formed.shape was).files.parities in
      let long = full_length p.capacity (part + 1) r (omega arith) (λ j below. own.read j (omega arith)) in
      let m : (part + 1) * p.capacity ≡ part * p.capacity + p.capacity = omega arith in
      subst (λ y. IsPutBelow (part * p.capacity + p.capacity) at bytes start (joined p.capacity y)) (sym w.1)
      (put_below_more (part * p.capacity) (part * p.capacity + p.capacity) at o bytes piece start (joined p.capacity r) (joined p.capacity (set r part w.0)) (omega arith) (omega arith) from to values (so_far was)
      (before_put p.capacity within.capacity end part o piece r w.0 before (omega arith) own w.2))

  pub end_works : (part o l len at n : ℕ) (old new : VaultView) → IsWellFormed old → IsWithin p old.levels → part < p.count → o + l ≡ len → (part + 1 < p.count → len ≤ p.capacity) → at ≤ part * p.capacity + o → part * p.capacity + len ≤ at + n
      → HoldsOf p (IsReady p.capacity part len) old → Works (OnePart p part (Torn o l)) old new → Works (LevelBy p (Torn at n)) old new
  end_works part o l len at n old new formed within low whole room from to ready works =
      part_works p part (Torn o l) (λ r b. IsReady p.capacity part len r b × (length r ≡ p.count)) old new low formed within
      (holds_with p (IsReady p.capacity part len) (λ r b. IsReady p.capacity part len r b × (length r ≡ p.count)) (λ r. Unit {0}) old formed within (λ t. tt) (λ r b count a own held. (held, count)) ready)
      (Torn at n)
      (λ r b bytes held torn. torn_wider at n (part * p.capacity + o) l (joined p.capacity b) (joined p.capacity (set b part bytes)) from (omega arith)
      (ready_torn p.capacity within.capacity part o l len r b bytes whole (λ more. room (omega (arith, held.1))) held.0 torn)) works

  pub end_keeps : (part o l len : ℕ) (old new : VaultView) → IsWellFormed old → IsWithin p old.levels → part < p.count → o + l ≡ len → HoldsOf p (IsReady p.capacity part len) old → Works (OnePart p part (Torn o l)) old new → HoldsOf p (InStep p.capacity) new
  end_keeps part o l len old new formed within low whole ready works =
      part_holds p part (Torn o l) (IsReady p.capacity part len) old new low formed within ready (InStep p.capacity)
      (λ r b read bytes own held one two. in_step_after p.capacity within.capacity part len r b read bytes own held (omega (arith, one.no_longer)) (omega (arith, two.no_longer))) works

  pub end_written : (part o l len at : ℕ) (bytes piece start : List ℕ) (old new : VaultView) → IsWellFormed old → IsWithin p old.levels → part < p.count → o + length piece ≡ len → (part + 1 < p.count → len ≤ p.capacity)
      → part * p.capacity + o ≡ max at (part * p.capacity) → part * p.capacity + o + length piece ≡ at + length bytes
      → ((k : ℕ) → k < length piece → get_or piece k 0 ≡ get_or bytes (part * p.capacity + o + k - at) 0)
      → HoldsOf p (IsReady p.capacity part len) old → Works (OnePart p part (Torn o l)) old new
      → Reads (λ files. parity_of files (p.first + part) ≡ put (parity_of old.files (p.first + part)) o piece) new
      → Reads (λ files. IsPutBelow (part * p.capacity) at bytes start (joined p.capacity (parts_in p files))) old
      → Reads (λ files. IsPut at bytes start (joined p.capacity (parts_in p files))) new
  end_written part o l len at bytes piece start old new formed within low whole room from to values ready works written so_far t =
      let was : IsTrue old.tells = sym works.calls.goes_on.tells ∙ t in
      let w = written_part part o l piece old new formed within low works written was in
      let r = parts_in p old.files in
      let count = in_count p old.files old.levels within (formed.shape was).files.parities in
      subst (λ y. IsPut at bytes start (joined p.capacity y)) (sym w.1)
      (put_below_end (part * p.capacity) at o bytes piece start (joined p.capacity r) (joined p.capacity (set r part w.0)) from to values (so_far was)
      (ready_put p.capacity within.capacity part o len piece r r w.0 whole (λ more. room (omega arith)) (ready.reads was) w.2))

  -- the part where what is written ends is near, and ready
  pub near_of_ready_for : (part len : ℕ) (v : VaultView) → IsWellFormed v → IsWithin p v.levels → HoldsOf p (IsReady p.capacity part len) v → HoldsOf p (IsNear p.capacity part) v
  near_of_ready_for part len v formed within ready =
      holds_more p (IsReady p.capacity part len) (IsNear p.capacity part) v formed (λ r b own n. near_of_ready p.capacity within.capacity part len r b n) ready

  -- a level that ends behind what is written is long enough
  pub found_room : (end : End) (to : ℕ) (v : VaultView) → IsWellFormed v → IsWithin p v.levels → to ≤ end.part * p.capacity → Reads (IsFound p end) v → IsTrue v.tells → to ≤ length (joined p.capacity (parts_in p v.files))
  found_room end to v formed within low found t =
      let f = found t in
      let long = full_length p.capacity end.part (parts_in p v.files) f.is.within f.is.full in
      omega arith

  -- bytes were written all before the part where the level ends
  pub all_before : (end : End) (at : ℕ) (bytes : List ℕ) (old new : VaultView) → IsWellFormed old → IsWithin p old.levels → at + length bytes ≤ end.part * p.capacity → new.tells ≡ old.tells → Reads (IsFound p end) old
      → Reads (λ files. IsPutBelow (end.part * p.capacity) at bytes (joined p.capacity (parts_in p old.files)) (joined p.capacity (parts_in p files))) new
      → Reads (λ files. IsPut at bytes (joined p.capacity (parts_in p old.files)) (joined p.capacity (parts_in p files))) new
  all_before end at bytes old new formed within low tells found is t =
      let was : IsTrue old.tells = sym tells ∙ t in
      put_below_all (end.part * p.capacity) at bytes (joined p.capacity (parts_in p old.files)) (joined p.capacity (parts_in p new.files)) low
      (found_room end (at + length bytes) old formed within low found was) (is t)

  pub grown_put : (at to : ℕ) (bytes : List ℕ) (old mid new : VaultView) → at + length bytes ≡ to → new.tells ≡ mid.tells → Works (LevelBy p (Torn to 0)) old mid
      → Reads (λ files. SameValues (joined p.capacity (parts_in p old.files)) (joined p.capacity (parts_in p files))) mid
      → Reads (λ files. IsPut at bytes (joined p.capacity (parts_in p mid.files)) (joined p.capacity (parts_in p files))) new
      → Reads (λ files. IsPut at bytes (joined p.capacity (parts_in p old.files)) (joined p.capacity (parts_in p files))) new
  grown_put at to bytes old mid new e tells works same is t =
      let t_mid : IsTrue mid.tells = sym tells ∙ t in
      let was : IsTrue old.tells = sym works.calls.goes_on.tells ∙ t_mid in
      put_after_growth at to bytes (joined p.capacity (parts_in p old.files)) (joined p.capacity (parts_in p mid.files)) (joined p.capacity (parts_in p new.files)) e
      (works.changes.reads was).inside (same t_mid) (is t)

  pub level_put : (at : ℕ) (bytes : List ℕ) (old new : VaultView) → at + length bytes ≤ 2 ^ 64 - 1
      → Reads (λ files. IsPut at bytes (joined p.capacity (parts_in p old.files)) (joined p.capacity (parts_in p files))) new
      → Reads (λ files. IsPut at bytes (level_bytes p.capacity (parts_in p old.files)) (level_bytes p.capacity (parts_in p files))) new
  level_put at bytes old new room is t = put_take (2 ^ 64 - 1) at bytes _ _ room (is t)

  pub level_put_after : (at : ℕ) (bytes : List ℕ) (old mid new : VaultView) → at + length bytes ≤ 2 ^ 64 - 1 → Works Stays old mid → new.tells ≡ mid.tells
      → Reads (λ files. IsPut at bytes (joined p.capacity (parts_in p mid.files)) (joined p.capacity (parts_in p files))) new
      → Reads (λ files. IsPut at bytes (level_bytes p.capacity (parts_in p old.files)) (level_bytes p.capacity (parts_in p files))) new
  level_put_after at bytes old mid new room works tells is t =
      let was : IsTrue old.tells = sym (tells ∙ works.calls.goes_on.tells) ∙ t in
      subst (λ files. IsPut at bytes (level_bytes p.capacity (parts_in p files)) (level_bytes p.capacity (parts_in p new.files))) (works.changes.reads was) (put_take (2 ^ 64 - 1) at bytes _ _ room (is t))
