-- What the one call for a level says of its reading.
use Rattle.std.proofs.Common.{◌≡◌, inl, inr, ℕ, ◌+◌, ◌*◌, ◌<◌, ◌≤◌, List, [], ◌∷◌, ◌++◌, length, take, get_or, set, true, false, cond, IsTrue, None, Some, Ok, refl, sym, ◌∙◌, ap, ap₂, subst, arith, append_assoc, zero-add}
use Rattle.std.specs.List.{count_by, range_with_len}
use Rattle.std.proofs.lemmas.Bool.{cases_eq}
use Rattle.std.proofs.lemmas.List.{append-nil, ext_get_or, get_or_append_left, get_or_push, get_or-set_same, get_or-set_other, length-take, length-replicate, length_push}
use Rattle.std.proofs.lemmas.List.Elements.{All-map, All-set}
use Rattle.std.proofs.lemmas.List.Folds.{list_any_none}
use Rattle.std.proofs.lemmas.List.FromFn.{length-map-range_with_len, get_or-map-range_with_len}
use Rattle.std.proofs.lemmas.List.Sums.{sum_by-append}
use Rattle.disk_model.specs.Bytes.{read_from}
use Rattle.disk_model.specs.Cause.{RoseBy}
use Rattle.disk_model.specs.Files.{Files, parity_of, Stays}
use Rattle.disk_model.specs.Vault.{VaultView, VaultDone, ParityRead, GoesOn, IsReading, writes_vault, any_write}
use Rattle.disk_model.specs.declared.answer.Answer.TheVariants.{Bytes}
use Rattle.disk_model.proofs.VaultLemmas.{changes_start, stays_then}
use Rattle.disk_model.proofs.CountLemmas.{counts_none, writes_then}
use Rattle.parity_writer.specs.LevelReading.{LevelReading, has_failed, kept_level, level_done, calls_of, IsReadingOf, ReadsLevel, ReadsLevels}
use Rattle.parity_writer.specs.LevelsValue.{LevelValue, HaveSize, no_level}
use Rattle.parity_writer.proofs.ElsewhereLemmas.{length-resized}
use Rattle.parity_writer.proofs.Keeping.{drafts_start, drafts_then}

-- so many bytes came
pub level_came : (size stripe level at n got : ℕ) (out : List ℕ) (value : LevelValue) (old new : VaultView) → at ≡ stripe * size → n ≡ size → length out ≡ size → got ≤ length out
    → value ≡ kept_level (length out) (Some (take got out)) → IsReading (ParityRead level at n) Bytes (Ok got) old new
    → (IsTrue old.tells → take got out ≡ read_from (parity_of old.files level) at n) → ReadsLevel size stripe level value old new
level_came size stripe level at n got out value old new at_is n_is long few kept reading found =
    let came : got ≡ length (take got out) = omega (arith, few, length-take got out) in
    let done_is : (let d : VaultDone = record { call = ParityRead level at n; answer = Bytes got } in d) ≡ level_done size stripe level (Some (take got out))
    = ap₂ (λ (a : ℕ) (m : ℕ). let d : VaultDone = record { call = ParityRead level a m; answer = Bytes got } in d) at_is n_is
    ∙ ap (λ (b : ℕ). let d : VaultDone = record { call = ParityRead level (stripe * size) size; answer = Bytes b } in d) came in
    record {
      reading = Some (take got out);
      is_kept = kept ∙ ap (λ (k : ℕ). kept_level k (Some (take got out))) long;
      is_of = (omega (arith, few, long, length-take got out), λ told. found told ∙ ap₂ (λ (a : ℕ) (m : ℕ). read_from (parity_of old.files level) a m) at_is n_is);
      cause = λ failed. absurd (let clash : false ≡ true = failed in cc);
      goes_on = subst (λ (d : VaultDone). GoesOn old new (d ∷ [])) done_is reading.called.goes_on;
      changes = reading.changes;
      drafts = reading.drafts;
    }

-- a block that is kept has its size
length-level_kept : (size : ℕ) (reading : LevelReading) → length (kept_level size reading).block ≡ size
length-level_kept size None = length-replicate size 0
length-level_kept size (Some bytes) = length-resized bytes size

-- calls, and then others
goes_on_then : (old mid new : VaultView) (first back : List VaultDone) → GoesOn old mid first → GoesOn mid new back → GoesOn old new (first ++ back)
goes_on_then old mid new first back one two = record {
  later = omega (arith, one.later, two.later);
  writes = writes_then first back old.writes mid.writes new.writes one.writes two.writes;
  levels = two.levels ∙ one.levels;
  copies = two.copies ∙ one.copies;
  tells = two.tells ∙ one.tells;
  calls = record {
    told = λ t. one.calls.told (two.calls.told t);
    more = λ t. two.calls.more t ∙ ap (λ (calls : List VaultDone). calls ++ back) (one.calls.more (two.calls.told t)) ∙ append_assoc old.calls first back;
  };
}

-- the calls for one level more
one_call_more : (size stripe : ℕ) (readings : List LevelReading) (reading : LevelReading) (none : VaultDone) → calls_of size stripe (readings ++ reading ∷ []) ≡ calls_of size stripe readings ++ level_done size stripe (length readings) reading ∷ []
one_call_more size stripe readings reading none =
    ext_get_or none (calls_of size stripe all) (calls_of size stripe readings ++ level_done size stripe (length readings) reading ∷ [])
    (length-map-range_with_len one 0 (length all) ∙ length_push readings reading ∙ sym (length_push (calls_of size stripe readings) (level_done size stripe (length readings) reading) ∙ ap (λ (n : ℕ). n + 1) many))
    (λ i below. at i (omega (arith, below, length-map-range_with_len one 0 (length all), length_push readings reading)))
  where
    all : List LevelReading
    all = readings ++ reading ∷ []

    one : ℕ → VaultDone
    one level = level_done size stripe level (get_or (readings ++ reading ∷ []) level None)

    many : length (calls_of size stripe readings) ≡ length readings
    many = length-map-range_with_len (λ (level : ℕ). level_done size stripe level (get_or readings level None)) 0 (length readings)

    at : (i : ℕ) → i < length readings + 1 → get_or (calls_of size stripe (readings ++ reading ∷ [])) i none ≡ get_or (calls_of size stripe readings ++ level_done size stripe (length readings) reading ∷ []) i none
    at i below =
        get_or-map-range_with_len (λ (level : ℕ). level_done size stripe level (get_or (readings ++ reading ∷ []) level None)) 0 (length (readings ++ reading ∷ [])) i i none (omega (arith, below, length_push readings reading)) (zero-add i)
        ∙ elim (cases_eq i (length readings)) [
          | inl same ↦
              ap₂ (λ (n : ℕ) (it : LevelReading). level_done size stripe n it) same (get_or_push readings reading None i (sym same))
              ∙ sym (get_or_push (calls_of size stripe readings) (level_done size stripe (length readings) reading) none i (many ∙ sym same))
          | inr other ↦
              let near : i < length readings = omega (arith, below, other) in
              ap (level_done size stripe i) (get_or_append_left readings (reading ∷ []) None i near)
              ∙ sym (get_or-map-range_with_len (λ (level : ℕ). level_done size stripe level (get_or readings level None)) 0 (length readings) i i none near (zero-add i))
              ∙ sym (get_or_append_left (calls_of size stripe readings) (level_done size stripe (length readings) reading ∷ []) none i (omega (arith, near, many)))
        ]

-- none of them writes
pub calls_only_read : (size stripe : ℕ) (readings : List LevelReading) → any_write (calls_of size stripe readings) ≡ false
calls_only_read size stripe readings =
    list_any_none (λ (done : VaultDone). writes_vault done.call) (calls_of size stripe readings)
    (All-map (λ (done : VaultDone). writes_vault done.call ≡ false) (λ (level : ℕ). level_done size stripe level (get_or readings level None)) (range_with_len 0 (length readings)) (λ k d below. refl))

-- a level that failed is counted
rose_once : (reading : LevelReading) (before after : ℕ) → before ≤ after → (has_failed reading ≡ true → RoseBy 1 before after) → RoseBy (count_by has_failed (reading ∷ [])) before after
rose_once None before after later cause = omega (arith, cause refl)
rose_once (Some bytes) before after later cause = omega arith

rose_more : (readings : List LevelReading) (reading : LevelReading) (before mid after : ℕ) → RoseBy (count_by has_failed readings) before mid → RoseBy (count_by has_failed (reading ∷ [])) mid after → RoseBy (count_by has_failed (readings ++ reading ∷ [])) before after
rose_more readings reading before mid after rose more =
    let counted : count_by has_failed (readings ++ reading ∷ []) ≡ count_by has_failed readings + count_by has_failed (reading ∷ []) = sum_by-append (λ (it : LevelReading). cond (has_failed it) 1 0) readings (reading ∷ []) in
    omega (arith, counted)

-- what a level gives later, it gives before, since the files stay
pub given_before : (old mid : VaultView) (size stripe level : ℕ) (reading : LevelReading) → mid.tells ≡ old.tells → (IsTrue old.tells → mid.files ≡ old.files) → IsReadingOf mid size stripe level reading → IsReadingOf old size stripe level reading
given_before old mid size stripe level None tells stay is = tt
given_before old mid size stripe level (Some bytes) tells stay is =
    (is.0, λ told. is.1 (tells ∙ told) ∙ ap (λ (files : Files). read_from (parity_of files level) (stripe * size) size) (stay told))

-- no level was read
pub levels_start : (size stripe : ℕ) (values : List LevelValue) (v : VaultView) → ReadsLevels size stripe 0 values v v
levels_start size stripe values v = record {
  readings = [];
  as_many = refl;
  are_kept = λ level below. absurd (omega (arith, below));
  are_of = λ level below. absurd (omega (arith, below));
  unread = omega arith;
  goes_on = record { later = omega arith; writes = counts_none v.writes; levels = refl; copies = refl; tells = refl; calls = record { told = λ t. t; more = λ t. sym (append-nil v.calls) } };
  changes = changes_start Stays v (λ files. refl);
  drafts = drafts_start v;
}

-- one level more
pub levels_more : (size stripe level : ℕ) (values : List LevelValue) (value : LevelValue) (old mid new : VaultView) → level < length values → ReadsLevels size stripe level values old mid → ReadsLevel size stripe level value mid new
    → ReadsLevels size stripe (level + 1) (set values level value) old new
levels_more size stripe level values value old mid new within so_far one = record {
  readings = so_far.readings ++ one.reading ∷ [];
  as_many = length_push so_far.readings one.reading ∙ ap (λ (n : ℕ). n + 1) so_far.as_many;
  are_kept = λ r below. elim (cases_eq r level) [
    | inl same ↦
        ap (λ (n : ℕ). get_or (set values level value) n no_level) same ∙ get_or-set_same values level value no_level within ∙ one.is_kept
        ∙ sym (ap (kept_level size) (get_or_push so_far.readings one.reading None r (so_far.as_many ∙ sym same)))
    | inr other ↦
        let near : r < level = omega (arith, below, other) in
        get_or-set_other values level r value no_level other ∙ so_far.are_kept r near
        ∙ sym (ap (kept_level size) (get_or_append_left so_far.readings (one.reading ∷ []) None r (omega (arith, near, so_far.as_many))))
  ];
  are_of = λ r below. elim (cases_eq r level) [
    | inl same ↦
        subst (IsReadingOf old size stripe r) (sym (get_or_push so_far.readings one.reading None r (so_far.as_many ∙ sym same)))
        (subst (λ (n : ℕ). IsReadingOf old size stripe n one.reading) (sym same) (given_before old mid size stripe level one.reading so_far.goes_on.tells so_far.changes.reads one.is_of))
    | inr other ↦
        let near : r < level = omega (arith, below, other) in
        subst (IsReadingOf old size stripe r) (sym (get_or_append_left so_far.readings (one.reading ∷ []) None r (omega (arith, near, so_far.as_many)))) (so_far.are_of r near)
  ];
  unread = rose_more so_far.readings one.reading old.faults mid.faults new.faults so_far.unread (rose_once one.reading mid.faults new.faults one.goes_on.later one.cause);
  goes_on =
      let done : VaultDone = level_done size stripe level one.reading in
      subst (GoesOn old new)
      (ap (λ (n : ℕ). calls_of size stripe so_far.readings ++ level_done size stripe n one.reading ∷ []) (sym so_far.as_many) ∙ sym (one_call_more size stripe so_far.readings one.reading done))
      (goes_on_then old mid new (calls_of size stripe so_far.readings) (done ∷ []) so_far.goes_on one.goes_on);
  changes = stays_then Stays old mid new so_far.goes_on.tells so_far.changes one.changes (λ files. refl);
  drafts = drafts_then old mid new so_far.goes_on.tells so_far.drafts one.drafts;
}

-- the blocks keep their size
pub sizes_more : (size stripe level : ℕ) (values : List LevelValue) (value : LevelValue) (old new : VaultView) → HaveSize size values → ReadsLevel size stripe level value old new → HaveSize size (set values level value)
sizes_more size stripe level values value old new all one =
    All-set (λ (it : LevelValue). length it.block ≡ size) values level value (ap (λ (it : LevelValue). length it.block) one.is_kept ∙ length-level_kept size one.reading) all
