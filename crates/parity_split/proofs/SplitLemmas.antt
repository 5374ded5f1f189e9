-- A vault of several parts a level, by the calls of its base.
use Rattle.std.proofs.Common.{◌≡◌, inl, inr, ◌⊎◌, ⊎_elim, ℕ, suc, ◌+◌, ◌*◌, ◌-◌, ◌^◌, ◌<◌, ◌≤◌, min, List, [], ◌∷◌, length, take, drop, get_or, Option, Bool, true, false, ◌||◌, Result, OnErr, IsTrue, refl, sym, ◌∙◌, ap, subst, arith}
use Rattle.std.specs.List.{sum}
use Rattle.std.proofs.lemmas.List.{length-take, take-take, drop-drop, drop-take, ext_get_or}
use Rattle.std.proofs.lemmas.List.Sums.{sum_by-cons, sum_by_more, sum_by_more_le, sum_by-take-le}
use Rattle.std.proofs.lemmas.Bool.{cases_lt, cases_eq}
use Rattle.disk_model.specs.Bytes.{Torn, Stretched, put, resized}
use Rattle.disk_model.specs.Cause.{Rose, Counts}
use Rattle.disk_model.specs.Files.{Files, parity_of, content_of, TearsParity, StretchesParity, MayPublish, Stays}
use Rattle.disk_model.specs.Vault.{VaultView, VaultCall, VaultDone, writes_vault, IsUnwritten, GoesOn, IsCallBy, IsCall, IsReading, ChangesBy, DraftsStay, DraftIs, Reads, Holds, IsWellFormed, HasFiles}
use Rattle.disk_model.specs.declared.answer.Answer.{Answer}
use Rattle.disk_model.specs.declared.draft.Draft.{Draft}
use Rattle.disk_model.specs.declared.fault.Failed.{Failed}
use Rattle.parity_split.specs.Joined.{joined, level_bytes, seen, first_part, part_count}
use Rattle.parity_split.specs.Parts.{InStep}
use Rattle.parity_split.specs.Split.{AreParts, AllInStep, loosely, split_view, parts_at}
use Rattle.parity_split.specs.Values.{IsResized, IsPut}
use Rattle.parity_split.specs.Works.{Works, HoldsOf, OnParts, LevelBy, IsWithin, IsFound, SameFrom, parts_in}
use Rattle.parity_split.specs.declared.parts.End.{End}
use Rattle.parity_split.specs.declared.parts.Parts.{Parts}
use Rattle.parity_split.proofs.SeenLemmas.{seen_parity, seen_tears, seen_stretches, changes_seen, remembers_seen, goes_on_seen, counts_same, counts_unwritten, counts_written}
use Rattle.parity_split.proofs.StepLemmas.{end_length}
use Rattle.parity_split.proofs.ValueLemmas.{is_put, is_resized}
use Rattle.parity_split.proofs.WorksLemmas.{in_count}

sum_within : (counts : List ℕ) (level : ℕ) → level < length counts → first_part counts level + part_count counts level ≤ sum counts
sum_within counts level within = sum_by_more_le (λ x. x) counts level 0 within

sum_apart : (counts : List ℕ) (level later : ℕ) → level < later → later < length counts → first_part counts level + part_count counts level ≤ first_part counts later
sum_apart counts level later low within =
    let one : sum (take (level + 1) counts) ≡ first_part counts level + part_count counts level = sum_by_more (λ x. x) counts level 0 (omega arith) in
    let two : sum (take (level + 1) (take later counts)) ≤ sum (take later counts) = sum_by-take-le (λ x. x) (take later counts) (level + 1) in
    subst (λ n. n ≤ sum (take later counts)) (ap sum (take-take (level + 1) later counts (omega arith)) ∙ one) two

-- a sum that goes on in a front of counts
pub sum_room : (counts : List ℕ) (level i : ℕ) → i < length (take level counts) → sum (take i (take level counts)) + get_or (take level counts) i 0 ≤ sum counts
sum_room counts level i within =
    let one : sum (take i (take level counts)) + get_or (take level counts) i 0 ≤ sum (take level counts) = sum_by_more_le (λ x. x) (take level counts) i 0 within in
    let two : sum (take level counts) ≤ sum counts = sum_by-take-le (λ x. x) counts level in
    omega arith

pub parts_fit : (counts : List ℕ) (capacity files : ℕ) → AreParts counts capacity files → sum counts < 2 ^ 32
parts_fit counts capacity files are = omega (arith, are.all, are.fit)

-- the parts of a level, by the same numbers
pub parts_same : {xs items counts : List ℕ} {k capacity : ℕ} (level : ℕ) → xs ≡ items → items ≡ counts → k ≡ capacity → parts_at xs k level ≡ parts_at counts capacity level
parts_same {counts = counts} {k = k} level one two three = ap (λ ys. parts_at ys k level) (one ∙ two) ∙ ap (λ n. parts_at counts n level) three

pub few_levels : (counts : List ℕ) → ((i : ℕ) → i < length counts → 0 < part_count counts i) → length counts ≤ sum counts
few_levels [] each = omega arith
few_levels (count ∷ counts) each =
    let e : sum (count ∷ counts) ≡ count + sum counts = sum_by-cons (λ x. x) count counts in
    let here : 0 < count = each 0 (let w : 0 < suc (length counts) = omega arith in w) in
    let rest = few_levels counts (λ i below. each (suc i) (let w : suc i < suc (length counts) = omega arith in w)) in
    let long : length (count ∷ counts) ≡ suc (length counts) = refl in
    omega arith

pub levels_fit : (counts : List ℕ) (capacity files : ℕ) → AreParts counts capacity files → length counts < 2 ^ 32
levels_fit counts capacity files are = let a = few_levels counts (λ i below. are.each i 0 below) in omega (arith, are.all, are.fit)

pub within_at : (counts : List ℕ) (capacity level files : ℕ) → AreParts counts capacity files → level < length counts → IsWithin (parts_at counts capacity level) files
within_at counts capacity level files are low = record {
  within = (let a = sum_within counts level low in omega (arith, are.all));
  fit = are.fit;
  some = are.each level 0 low;
  capacity = are.some;
}

-- the parts of a level that stands apart from one that went on
apart_same : (p q : Parts) (step : List (List ℕ) → List (List ℕ) → Type 0) (old new : Files) → (q.first + q.count ≤ p.first) ⊎ (p.first + p.count ≤ q.first) → OnParts p step old new → parts_in q new ≡ parts_in q old
apart_same p q step old new apart on = ⊎_elim
    (λ low.
    let e : take (q.first + q.count) new.parities ≡ take (q.first + q.count) old.parities =
    sym (take-take (q.first + q.count) p.first new.parities low) ∙ ap (take (q.first + q.count)) on.before ∙ take-take (q.first + q.count) p.first old.parities low in
    sym (drop-take q.first q.count new.parities) ∙ ap (drop q.first) e ∙ drop-take q.first q.count old.parities)
    (λ high.
    let n = q.first - (p.first + p.count) in
    let s : p.first + p.count + n ≡ q.first = omega arith in
    let e : drop q.first new.parities ≡ drop q.first old.parities =
    ap (λ m. drop m new.parities) (sym s) ∙ sym (drop-drop n (p.first + p.count) new.parities) ∙ ap (drop n) on.after ∙ drop-drop n (p.first + p.count) old.parities ∙ ap (λ m. drop m old.parities) s in
    ap (take q.count) e)
    apart

-- what held of parts that a step leaves as they are
holds_by : (q : Parts) (P : List (List ℕ) → List (List ℕ) → Type 0) (step : Files → Files → Type 0) (old new : VaultView) → IsWellFormed old → new.tells ≡ old.tells → ((a b : Files) → step a b → parts_in q b ≡ parts_in q a) → ChangesBy step old new → HoldsOf q P old → HoldsOf q P new
holds_by q P step old new formed tells same changes holds = record {
  reads = λ t. let was : IsTrue old.tells = sym tells ∙ t in subst (λ x. P x x) (sym (same _ _ (changes.reads was))) (holds.reads was);
  leaves = λ told files left.
      let told_old = changes.leaves.told told in
      let came = changes.leaves.at_end told files left in
      let was : IsTrue old.tells = formed.tells told_old in
      subst (λ x. P x (parts_in q files)) (sym (same _ _ (changes.reads was)))
      (subst (λ y. P (parts_in q old.files) y) (sym (same came.0 files came.2)) (holds.leaves told_old came.0 came.1));
}

module _ (counts : List ℕ) (capacity : ℕ) where
  pub are_still : (step : Files → Files → Type 0) (old new : VaultView) → Works step old new → AreParts counts capacity old.levels → AreParts counts capacity new.levels
  are_still step old new works are = subst (λ n. AreParts counts capacity n) (sym works.calls.goes_on.levels) are

  pub are_on : (done : List VaultDone) (old new : VaultView) → GoesOn old new done → AreParts counts capacity old.levels → AreParts counts capacity new.levels
  are_on done old new on are = subst (λ n. AreParts counts capacity n) (sym on.levels) are

  -- one level went on, and its parts keep in step
  pub in_step_one : (step : List ℕ → List ℕ → Type 0) (level : ℕ) (old new : VaultView) → IsWellFormed old → AreParts counts capacity old.levels → level < length counts → Works (LevelBy (parts_at counts capacity level) step) old new
      → HoldsOf (parts_at counts capacity level) (InStep capacity) new → AllInStep counts capacity old → AllInStep counts capacity new
  in_step_one step level old new formed are low works kept all other within = ⊎_elim
      (λ e. subst (λ n. HoldsOf (parts_at counts capacity n) (InStep capacity) new) (sym e) kept)
      (λ ne. holds_by (parts_at counts capacity other) (InStep capacity) (LevelBy (parts_at counts capacity level) step) old new formed works.calls.goes_on.tells
      (λ a b by. apart_same (parts_at counts capacity level) (parts_at counts capacity other) (λ x y. step (joined capacity x) (joined capacity y)) a b
      (⊎_elim (λ below. inl (sum_apart counts other level below low)) (λ above. inr (sum_apart counts level other (omega arith) within)) (cases_lt other level)) by)
      works.changes (all other within))
      (cases_eq other level)

  -- a step that leaves the parity files as they are
  pub in_step_still : (step : Files → Files → Type 0) (old new : VaultView) → IsWellFormed old → new.tells ≡ old.tells → ((a b : Files) → step a b → b.parities ≡ a.parities) → ChangesBy step old new → AllInStep counts capacity old → AllInStep counts capacity new
  in_step_still step old new formed tells same changes all level within =
      holds_by (parts_at counts capacity level) (InStep capacity) step old new formed tells (λ a b by. ap (λ x. take (part_count counts level) (drop (first_part counts level) x)) (same a b by)) changes (all level within)

  pub in_step_stays : (old new : VaultView) → IsWellFormed old → new.tells ≡ old.tells → ChangesBy Stays old new → AllInStep counts capacity old → AllInStep counts capacity new
  in_step_stays old new formed tells changes all = in_step_still Stays old new formed tells (λ a b by. ap (λ f. f.parities) by) changes all

  pub in_step_publish : (copy : ℕ) (is_sealed : Bool) (bytes : List ℕ) (old new : VaultView) → IsWellFormed old → new.tells ≡ old.tells → ChangesBy (MayPublish copy is_sealed bytes) old new → AllInStep counts capacity old → AllInStep counts capacity new
  in_step_publish copy is_sealed bytes old new formed tells changes all = in_step_still (MayPublish copy is_sealed bytes) old new formed tells (λ a b by. ap (λ f. f.parities) by.rest) changes all

  seen_stays : (a b : Files) → Stays a b → Stays (seen counts capacity a) (seen counts capacity b)
  seen_stays a b stays = ap (seen counts capacity) stays

  -- calls that only read are a reading call
  pub reading_seen : {T : Type 0} (call : VaultCall) (gives : T → Answer) (result : Result T Failed) (old new : VaultView) → Works Stays old new → IsUnwritten old new → OnErr result (Rose old.faults new.faults)
      → IsReading call gives result (split_view counts capacity old) (split_view counts capacity new)
  reading_seen call gives result old new works unwritten cause = record {
    called = record {
      goes_on = goes_on_seen counts capacity old new works.calls.done _ (counts_unwritten _ old.writes new.writes unwritten) works.calls.goes_on;
      cause = cause;
      remembers = remembers_seen counts capacity old.images new.images works.remembers;
    };
    changes = changes_seen counts capacity Stays Stays old new seen_stays works.changes;
    drafts = record { state = works.drafts.state; bytes = works.drafts.bytes };
  }

  pub call_seen : {T : Type 0} (call : VaultCall) (step : Files → Files → Type 0) (result : Result T Failed) (old new : VaultView) → writes_vault call ≡ true → Works step old new → OnErr result (Rose old.faults new.faults)
      → IsCall call result (split_view counts capacity old) (split_view counts capacity new)
  call_seen call step result old new is works cause = record {
    goes_on = goes_on_seen counts capacity old new works.calls.done _
        (subst (λ (wrote : Bool). Counts (wrote || false) (loosely old.writes) (loosely new.writes)) (sym is) (counts_written old.writes new.writes works.calls.goes_on.writes)) works.calls.goes_on;
    cause = cause;
    remembers = remembers_seen counts capacity old.images new.images works.remembers;
  }

  pub drafts_seen : (old new : VaultView) → DraftsStay old new → DraftsStay (split_view counts capacity old) (split_view counts capacity new)
  drafts_seen old new drafts = record { state = drafts.state; bytes = drafts.bytes }

  -- a call of the base that is one of the vault
  pub one_seen : {T : Type 0} (done : VaultDone) (result : Result T Failed) (old new : VaultView) → IsCallBy done result old new → IsCallBy done result (split_view counts capacity old) (split_view counts capacity new)
  one_seen done result old new is = record {
    goes_on = goes_on_seen counts capacity old new _ _ (counts_same old.writes new.writes is.goes_on.writes) is.goes_on;
    cause = is.cause;
    remembers = remembers_seen counts capacity old.images new.images is.remembers;
  }

  pub stays_seen : (old new : VaultView) → ChangesBy Stays old new → ChangesBy Stays (split_view counts capacity old) (split_view counts capacity new)
  stays_seen old new changes = changes_seen counts capacity Stays Stays old new seen_stays changes

  pub one_reading_seen : {T : Type 0} (call : VaultCall) (gives : T → Answer) (result : Result T Failed) (old new : VaultView) → IsReading call gives result old new → IsReading call gives result (split_view counts capacity old) (split_view counts capacity new)
  one_reading_seen call gives result old new is = record {
    called = one_seen _ result old new is.called;
    changes = stays_seen old new is.changes;
    drafts = drafts_seen old new is.drafts;
  }

  seen_publish : (copy : ℕ) (is_sealed : Bool) (bytes : List ℕ) (a b : Files) → MayPublish copy is_sealed bytes a b → MayPublish copy is_sealed bytes (seen counts capacity a) (seen counts capacity b)
  seen_publish copy is_sealed bytes a b by = record { content = by.content; whole = by.whole; rest = ap (seen counts capacity) by.rest }

  pub publish_seen : (copy : ℕ) (is_sealed : Bool) (bytes : List ℕ) (old new : VaultView) → ChangesBy (MayPublish copy is_sealed bytes) old new → ChangesBy (MayPublish copy is_sealed bytes) (split_view counts capacity old) (split_view counts capacity new)
  publish_seen copy is_sealed bytes old new changes = changes_seen counts capacity (MayPublish copy is_sealed bytes) (MayPublish copy is_sealed bytes) old new (seen_publish copy is_sealed bytes) changes

  pub draft_seen : (copy : ℕ) (draft : Draft) (content : List ℕ) (old new : VaultView) → DraftIs copy draft content old new → DraftIs copy draft content (split_view counts capacity old) (split_view counts capacity new)
  draft_seen copy draft content old new is = record { state = is.state; bytes = is.bytes }

  -- what holds of each image of the contents
  pub contents_seen : (copy : ℕ) (P : Option (List ℕ) → Type 0) (v : VaultView) → Holds (λ files. P (content_of files copy)) v → Holds (λ files. P (content_of files copy)) (split_view counts capacity v)
  contents_seen copy P v holds = record {
    reads = holds.reads;
    leaves = λ told files left. subst (λ f. P (content_of f copy)) (sym left.2) (holds.leaves told left.0 left.1);
  }

  -- the length of a level
  pub len_found : (level : ℕ) (end : End) (len : ℕ) (old : VaultView) → AreParts counts capacity old.levels → level < length counts → IsFound (parts_at counts capacity level) end old.files
      → len ≡ min (end.part * capacity + end.len) (2 ^ 64 - 1) → len ≡ length (parity_of (seen counts capacity old.files) level)
  len_found level end len old are low found is =
      let x = joined capacity (parts_in (parts_at counts capacity level) old.files) in
      let long = end_length capacity are.some end.part (parts_in (parts_at counts capacity level) old.files) found.is in
      let a = length-take (2 ^ 64 - 1) x in
      let e = found.len in
      let here : len ≡ length (level_bytes capacity (parts_in (parts_at counts capacity level) old.files)) = omega arith in
      here ∙ ap length (sym (seen_parity counts capacity old.files level low))

  pub tears_seen : (level at n : ℕ) (old new : VaultView) → level < length counts → at + n ≤ 2 ^ 64 - 1 → Works (LevelBy (parts_at counts capacity level) (Torn at n)) old new → ChangesBy (TearsParity level at n) (split_view counts capacity old) (split_view counts capacity new)
  tears_seen level at n old new low room works = changes_seen counts capacity (LevelBy (parts_at counts capacity level) (Torn at n)) (TearsParity level at n) old new (λ a b by. seen_tears counts capacity level at n a b low room by) works.changes

  pub stretches_seen : (level len : ℕ) (old new : VaultView) → level < length counts → len ≤ 2 ^ 64 - 1 → Works (LevelBy (parts_at counts capacity level) (Stretched len)) old new → ChangesBy (StretchesParity level len) (split_view counts capacity old) (split_view counts capacity new)
  stretches_seen level len old new low room works = changes_seen counts capacity (LevelBy (parts_at counts capacity level) (Stretched len)) (StretchesParity level len) old new (λ a b by. seen_stretches counts capacity level len a b low room by) works.changes

  pub put_seen : (level at : ℕ) (bytes : List ℕ) (old new : VaultView) → level < length counts
      → Reads (λ files. IsPut at bytes (level_bytes capacity (parts_in (parts_at counts capacity level) old.files)) (level_bytes capacity (parts_in (parts_at counts capacity level) files))) new
      → Reads (λ files. parity_of files level ≡ put (parity_of (seen counts capacity old.files) level) at bytes) (split_view counts capacity new)
  put_seen level at bytes old new low is t =
      seen_parity counts capacity new.files level low ∙ is_put at bytes _ _ (is t) ∙ ap (λ x. put x at bytes) (sym (seen_parity counts capacity old.files level low))

  pub resized_seen : (level len : ℕ) (old new : VaultView) → level < length counts
      → Reads (λ files. IsResized len (level_bytes capacity (parts_in (parts_at counts capacity level) old.files)) (level_bytes capacity (parts_in (parts_at counts capacity level) files))) new
      → Reads (λ files. parity_of files level ≡ resized (parity_of (seen counts capacity old.files) level) len) (split_view counts capacity new)
  resized_seen level len old new low is t =
      seen_parity counts capacity new.files level low ∙ is_resized len _ _ (is t) ∙ ap (λ x. resized x len) (sym (seen_parity counts capacity old.files level low))

  -- each part was synced
  same_parts : (p : Parts) (levels : ℕ) (a b : Files) → IsWithin p levels → length a.parities ≡ levels → length b.parities ≡ levels → SameFrom 0 p.count (parts_in p a) (parts_in p b) → parts_in p b ≡ parts_in p a
  same_parts p levels a b within long_a long_b same =
      let x = in_count p a levels within long_a in
      let y = in_count p b levels within long_b in
      ext_get_or [] (parts_in p b) (parts_in p a) (y ∙ sym x) (λ i below. same i (omega arith) (omega arith))

  pub synced_seen : (level : ℕ) (old new : VaultView) → IsWellFormed old → IsWellFormed new → AreParts counts capacity old.levels → level < length counts → Works Stays old new
      → Holds (λ files. SameFrom 0 (part_count counts level) (parts_in (parts_at counts capacity level) old.files) (parts_in (parts_at counts capacity level) files)) new
      → Holds (λ files. parity_of files level ≡ parity_of (seen counts capacity old.files) level) (split_view counts capacity new)
  synced_seen level old new formed_old formed are low works same = record {
    reads = λ t. let was : IsTrue old.tells = sym works.calls.goes_on.tells ∙ t in step new.files (was_long was) (now_long new.files (formed.shape t).files) (same.reads t);
    leaves = λ told files left.
        let was : IsTrue old.tells = sym works.calls.goes_on.tells ∙ formed.tells told in
        subst (λ f. parity_of f level ≡ parity_of (seen counts capacity old.files) level) (sym left.2)
        (step left.0 (was_long was) (now_long left.0 (formed.leaves_shape told new.images.moment left.0 left.1)) (same.leaves told left.0 left.1));
  }
    where
      was_long : IsTrue old.tells → length old.files.parities ≡ old.levels
      was_long t = (formed_old.shape t).files.parities

      now_long : (files : Files) → HasFiles new.levels (length new.drafts) files → length files.parities ≡ old.levels
      now_long files has = has.parities ∙ works.calls.goes_on.levels

      step : (files : Files) → length old.files.parities ≡ old.levels → length files.parities ≡ old.levels → SameFrom 0 (part_count counts level) (parts_in (parts_at counts capacity level) old.files) (parts_in (parts_at counts capacity level) files)
          → parity_of (seen counts capacity files) level ≡ parity_of (seen counts capacity old.files) level
      step files a b s =
          seen_parity counts capacity files level low
          ∙ ap (level_bytes capacity) (same_parts (parts_at counts capacity level) old.levels old.files files (within_at counts capacity level old.levels are low) a b s)
          ∙ sym (seen_parity counts capacity old.files level low)
