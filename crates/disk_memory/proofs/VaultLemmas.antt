-- How the calls of a vault in memory change its files, as they read and in each image.
use Rattle.std.proofs.Common.{◌≡◌, ◌⊎◌, inl, inr, ℕ, ◌+◌, ◌<◌, ◌≤◌, List, [], ◌∷◌, ◌++◌, length, set, map, not, IsTrue, Bool, true, false, ◌||◌, cond, nat_lt, position, Option, None, Some, Result, Ok, Err, OnOk, OnErr, is_err, refl, sym, ◌∙◌, ap, subst, arith}
use Rattle.std.specs.List.{position_or_len}
use Rattle.std.proofs.lemmas.List.{set-get_or, length-map, length-set, get_or-set_same}
use Rattle.disk_model.specs.Answer.{plain, vault_answer}
use Rattle.disk_model.specs.Bytes.{put, resized}
use Rattle.disk_model.specs.Cause.{Rose, Grows, Counts}
use Rattle.disk_model.specs.Files.{Files, parity_of, content_of, with_parity, with_content, TearsParity, StretchesParity, MayPublish, Stays}
use Rattle.disk_model.specs.Machine.{Machine, settled, IsWithin, step_of, images_of}
use Rattle.disk_model.specs.Moments.{Images, LeavesBy, Remembers}
use Rattle.disk_model.specs.Unsynced.{synced}
use Rattle.disk_model.specs.Vault.{VaultView, VaultCall, VaultDone, writes_vault, vault_writes, ParityWrite, ParitySetLen, ParitySync, DraftBegin, DraftAppend, DraftSeal, Publish, IsCall, IsCallBy, IsReading, ChangesBy, DraftsStay, DraftIs, Reads, Holds, is_sealed, draft_of, staged_of}
use Rattle.disk_model.specs.Vault as vault
use Rattle.disk_model.specs.declared.answer.Answer.{Answer}
use Rattle.disk_model.specs.declared.answer.Answer.TheVariants.{Done}
use Rattle.disk_model.specs.declared.draft.Draft.{Draft}
use Rattle.disk_model.specs.declared.draft.Draft.TheVariants.{Absent, Sealed}
use Rattle.disk_model.specs.declared.fault.Failed.{Failed}
use Rattle.disk_model.proofs.BytesLemmas.{torn_by_put, torn_not, stretched_by_resized, stretched_not}
use Rattle.disk_model.proofs.ByCallsLemmas.{changes_by_call, remembers_by_call, holds_synced, holds_published}
use Rattle.disk_model.proofs.CountLemmas.{counts_call}
use Rattle.disk_model.proofs.MomentsLemmas.{leaves_more}
use Rattle.disk_model.proofs.SteadyLemmas.{levels_stay, copies_stay}
use Rattle.disk_memory.specs.Calls.{vault_calls}
use Rattle.disk_memory.specs.Goes.{Goes, GoesBy, CountsFaults}
use Rattle.disk_calm.specs.Held.{Held}
use Rattle.disk_memory.specs.Past.{answered}
use Rattle.disk_memory.specs.Recorded.{opened_by, held_by, calls_since, held_after, is_quiet}
use Rattle.disk_memory.specs.RecordedLaws.{follows, untold}
use Rattle.disk_memory.specs.Schedule.{answer_of}
use Rattle.disk_calm.specs.Store.{held, staged_held, draft_held, with_draft}
use Rattle.disk_memory.specs.Vault.{value_of, view_of, noted}
use Rattle.disk_calm.specs.StoreLaws.{parities_long, contents_long, drafts_long}
use Rattle.disk_memory.specs.VaultLaws.{machine_of, steady_store}
use Rattle.disk_memory.specs.declared.recorded.Recorded.{Recorded}
use Rattle.disk_calm.specs.declared.store.Store.{Store}
use Rattle.disk_memory.proofs.RecordedLemmas.{done_so, since_more, quiet_held}

-- ---- how a call answers

pub err_of : (done : Bool) (result : Result (Unit {0}) Failed) → result ≡ answer_of done → is_err result ≡ not done
err_of true result is = ap (λ (r : Result (Unit {0}) Failed). is_err r) is
err_of false result is = ap (λ (r : Result (Unit {0}) Failed). is_err r) is

rose_err : {T : Type 0} (result : Result T Failed) (failed : Bool) (P : Type 0) → is_err result ≡ failed → (failed ≡ true → P) → OnErr result P
rose_err (Ok x) failed P is rose = tt
rose_err (Err e) failed P is rose = rose (sym is)

pub on_ok : {T : Type 0} (result : Result T Failed) (failed : Bool) (P : Type 0) → is_err result ≡ failed → (failed ≡ false → P) → OnOk result P
on_ok (Ok x) failed P is holds = holds (sym is)
on_ok (Err e) failed P is holds = tt

pub on_err : {T : Type 0} (result : Result T Failed) (failed : Bool) (P : Type 0) → is_err result ≡ failed → (failed ≡ true → P) → OnErr result P
on_err result failed P is holds = rose_err result failed P is holds

pub counts_from : (done : Bool) (old mid new : ℕ) → mid ≡ old → mid ≤ new → (done ≡ true → new ≡ mid) → (done ≡ false → Rose mid new) → CountsFaults (not done) old new
counts_from true old mid new same later stays rose = record { later = omega (arith, same, later); cause = λ (no : false ≡ true). absurd (cc); unfailed = λ is. stays refl ∙ same }
counts_from false old mid new same later stays rose = record { later = omega (arith, same, later); cause = λ is. subst (λ n. Rose n new) same (rose refl); unfailed = λ (no : true ≡ false). absurd (cc) }

-- ---- what reads show

torn_by : (failed : Bool) (old new : Held) (level at : ℕ) (bytes : List ℕ) → new ≡ held_after old (ParityWrite level at bytes) failed → TearsParity level at (length bytes) old.files new.files
torn_by false old new level at bytes is = record {
  file = put (parity_of old.files level) at bytes;
  torn = torn_by_put (parity_of old.files level) at bytes;
  rest = ap (λ (h : Held). h.files) is;
}
torn_by true old new level at bytes is = record {
  file = parity_of old.files level;
  torn = torn_not (parity_of old.files level) at (length bytes);
  rest = ap (λ (h : Held). h.files) is ∙ parity_stays old.files level;
}
  where
    parity_stays : (files : Files) (level : ℕ) → files ≡ with_parity files level (parity_of files level)
    parity_stays files level = ap (λ (ps : List (List ℕ)). let f : Files = record { parities = ps; contents = files.contents } in f) (sym (set-get_or files.parities level []))

stretched_by : (failed : Bool) (old new : Held) (level len : ℕ) → new ≡ held_after old (ParitySetLen level len) failed → StretchesParity level len old.files new.files
stretched_by false old new level len is = record {
  file = resized (parity_of old.files level) len;
  stretched = stretched_by_resized (parity_of old.files level) len;
  rest = ap (λ (h : Held). h.files) is;
}
stretched_by true old new level len is = record {
  file = parity_of old.files level;
  stretched = stretched_not (parity_of old.files level) len;
  rest = ap (λ (h : Held). h.files) is ∙ parity_stays old.files level;
}
  where
    parity_stays : (files : Files) (level : ℕ) → files ≡ with_parity files level (parity_of files level)
    parity_stays files level = ap (λ (ps : List (List ℕ)). let f : Files = record { parities = ps; contents = files.contents } in f) (sym (set-get_or files.parities level []))

published_by : (failed : Bool) (old new : Held) (copy : ℕ) → new ≡ held_after old (Publish copy) failed → MayPublish copy (is_sealed (draft_held old copy)) (staged_held old copy) old.files new.files
published_by false old new copy is = record { content = Some (staged_held old copy); whole = λ t. inr refl; rest = ap (λ (h : Held). h.files) is }
published_by true old new copy is = record { content = content_of old.files copy; whole = λ t. inl refl; rest = ap (λ (h : Held). h.files) is ∙ content_stays old.files copy }
  where
    content_stays : (files : Files) (copy : ℕ) → files ≡ with_content files copy (content_of files copy)
    content_stays files copy = ap (λ (cs : List (Option (List ℕ))). let f : Files = record { parities = files.parities; contents = cs } in f) (sym (set-get_or files.contents copy None))

drafts_long_after : (h : Held) (call : VaultCall) (failed : Bool) → length (held_after h call failed).drafts ≡ length h.drafts
drafts_long_after h (vault.ParityLen level) failed = refl
drafts_long_after h (vault.ParityRead level at n) failed = refl
drafts_long_after h (vault.ParityWrite level at bytes) false = refl
drafts_long_after h (vault.ParityWrite level at bytes) true = refl
drafts_long_after h (vault.ParitySetLen level len) false = refl
drafts_long_after h (vault.ParitySetLen level len) true = refl
drafts_long_after h (vault.ParitySync level) failed = refl
drafts_long_after h (vault.ContentSize copy) failed = refl
drafts_long_after h (vault.ContentRead copy at n) failed = refl
drafts_long_after h (vault.DraftBegin copy) failed = length-set h.drafts copy _
drafts_long_after h (vault.DraftAppend copy bytes) failed = length-set h.drafts copy _
drafts_long_after h (vault.DraftSeal copy) failed = length-set h.drafts copy _
drafts_long_after h (vault.Publish copy) false = length-set h.drafts copy Absent
drafts_long_after h (vault.Publish copy) true = length-set h.drafts copy Absent

write_drafts : (failed : Bool) (old new : Held) (level at : ℕ) (bytes : List ℕ) → new ≡ held_after old (ParityWrite level at bytes) failed → (new.drafts ≡ old.drafts) × (new.staged ≡ old.staged)
write_drafts false old new level at bytes is = (ap (λ (h : Held). h.drafts) is, ap (λ (h : Held). h.staged) is)
write_drafts true old new level at bytes is = (ap (λ (h : Held). h.drafts) is, ap (λ (h : Held). h.staged) is)

set_len_drafts : (failed : Bool) (old new : Held) (level len : ℕ) → new ≡ held_after old (ParitySetLen level len) failed → (new.drafts ≡ old.drafts) × (new.staged ≡ old.staged)
set_len_drafts false old new level len is = (ap (λ (h : Held). h.drafts) is, ap (λ (h : Held). h.staged) is)
set_len_drafts true old new level len is = (ap (λ (h : Held). h.drafts) is, ap (λ (h : Held). h.staged) is)

publish_drafts : (failed : Bool) (old new : Held) (copy : ℕ) → new ≡ held_after old (Publish copy) failed → (new.drafts ≡ set old.drafts copy Absent) × (new.staged ≡ set old.staged copy [])
publish_drafts false old new copy is = (ap (λ (h : Held). h.drafts) is, ap (λ (h : Held). h.staged) is)
publish_drafts true old new copy is = (ap (λ (h : Held). h.drafts) is, ap (λ (h : Held). h.staged) is)

quiet_only : (m : Machine) (call : VaultCall) → is_quiet call ≡ true → (files next : Files) → step_of m call files next → next ≡ files
quiet_only m (vault.ParityLen level) is files next step = step
quiet_only m (vault.ParityRead level at n) is files next step = step
quiet_only m (vault.ParityWrite level at bytes) is files next step = absurd (let clash : false ≡ true = is in cc)
quiet_only m (vault.ParitySetLen level len) is files next step = absurd (let clash : false ≡ true = is in cc)
quiet_only m (vault.ParitySync level) is files next step = step
quiet_only m (vault.ContentSize copy) is files next step = step
quiet_only m (vault.ContentRead copy at n) is files next step = step
quiet_only m (vault.DraftBegin copy) is files next step = absurd (let clash : false ≡ true = is in cc)
quiet_only m (vault.DraftAppend copy bytes) is files next step = absurd (let clash : false ≡ true = is in cc)
quiet_only m (vault.DraftSeal copy) is files next step = absurd (let clash : false ≡ true = is in cc)
quiet_only m (vault.Publish copy) is files next step = absurd (let clash : false ≡ true = is in cc)

-- a copy, by how many drafts there are
pub copy_below : (s : Store) (copy : ℕ) → copy < length s.drafts.items → copy < s.copies
copy_below s copy below = omega (arith, below, drafts_long s)

-- ---- what the record holds

module _ (r : Recorded) where
  pub agrees : IsTrue (not r.past.lost) → held_by (machine_of r) ≡ held r.store
  agrees told = follows r.past.lost r.base r.past.made.items (held r.opened) (held r.store) r.recorded (untold r.past.lost told)

  pub level_within : (level : ℕ) → level < r.store.levels → level < length (machine_of r).levels
  level_within level below =
      let long = levels_stay (opened_by (held r.opened)) (calls_since r.base r.past.made.items) ∙ length-map r.opened.parities.items synced ∙ parities_long r.opened in
      omega (arith, below, long, r.same_levels)

  pub copy_within : (copy : ℕ) → copy < r.store.copies → copy < length (machine_of r).copies
  copy_within copy below =
      let long = copies_stay (opened_by (held r.opened)) (calls_since r.base r.past.made.items) ∙ length-map r.opened.contents.items settled ∙ contents_long r.opened in
      omega (arith, below, long, r.same_copies)

-- ---- one call

-- what was written down of one
counts_noted : (call : VaultCall) (answer : Answer) (lost : Bool) (old new : List VaultDone) → (lost ≡ false → new ≡ old ++ (let d : VaultDone = record { call = call; answer = answer } in d) ∷ []) → (lost ≡ true → new ≡ old)
    → Counts (writes_vault call || false) (noted old) (noted new)
counts_noted call answer lost old new more kept = subst (λ (wrote : Bool). Counts wrote (noted old) (noted new)) (sym (or_none (writes_vault call))) (by lost refl)
  where
    or_none : (b : Bool) → (b || false) ≡ b
    or_none true = refl
    or_none false = refl

    untrue : IsTrue false → ⊥
    untrue told = cc

    by : (b : Bool) → lost ≡ b → Counts (writes_vault call) (noted old) (noted new)
    by true is =
        let same = ap vault_writes (kept is) in
        record { exact = refl; later = omega (arith, same); stays = λ none. same; rose = λ exact wrote. absurd (untrue exact) }
    by false is =
        let one = counts_call old (record { call = call; answer = answer }) in
        subst (λ (calls : List VaultDone). Counts (writes_vault call) (noted old) (noted calls)) (sym (more is))
        (record { exact = refl; later = one.later; stays = one.stays; rose = λ exact wrote. absurd (untrue exact) })

module _ {given : Answer} (faults later : ℕ) (r now : Recorded) (call : VaultCall) (failed : Bool) (goes : GoesBy call given failed r now) where
  abbrev old_view : VaultView
  old_view = view_of (value_of faults r)

  abbrev new_view : VaultView
  new_view = view_of (value_of later now)

  pub still : IsTrue (not now.past.lost) → IsTrue (not r.past.lost)
  still told = goes.calls.told told

  since_now : IsTrue (not now.past.lost) → calls_since now.base now.past.made.items ≡ calls_since r.base r.past.made.items ++ done_so call given failed ∷ []
  since_now told = ap (λ n. calls_since n now.past.made.items) goes.base ∙ since_more r.base r.past.made.items now.past.made.items (done_so call given failed) r.recorded.within (goes.calls.more told)

  -- what is said of the images by one call more is said of those now
  pub by_more : (P : Images → Type 0) → (told : IsTrue (not now.past.lost)) → P (images_of (not now.past.lost) (opened_by (held r.opened)) (calls_since r.base r.past.made.items ++ done_so call given failed ∷ [])) → P new_view.images
  by_more P told p =
      subst (λ (h : Held). P (images_of (not now.past.lost) (opened_by h) (calls_since now.base now.past.made.items))) (sym goes.opened)
      (subst (λ (cs : List VaultDone). P (images_of (not now.past.lost) (opened_by (held r.opened)) cs)) (sym (since_now told)) p)

  remembers : Remembers old_view.images new_view.images
  remembers told = by_more (λ images. (t : ℕ) (files : Files) → t ≤ old_view.images.moment → old_view.images.since t files → images.since t files) told
      (remembers_by_call (opened_by (held r.opened)) (calls_since r.base r.past.made.items) (done_so call given failed) (steady_store r.opened) r.recorded.gives (not r.past.lost) (not now.past.lost) told)

  pub leaves : IsWithin (machine_of r) call → LeavesBy (step_of (machine_of r) call) old_view.images new_view.images
  leaves within =
      let one = (changes_by_call (opened_by (held r.opened)) (calls_since r.base r.past.made.items) (done_so call given failed) (steady_store r.opened) r.recorded.gives (not r.past.lost) (not now.past.lost) faults later within still).leaves in
      record {
        told = still;
        later = λ told. by_more (λ images. old_view.images.moment ≤ images.moment) told (one.later told);
        within = λ told. by_more (λ images. (t : ℕ) (files : Files) → t ≤ old_view.images.moment → images.since t files
            → old_view.images.since t files ⊎ ((before : Files) × old_view.images.since old_view.images.moment before × step_of (machine_of r) call before files)) told (one.within told);
        at_end = λ told. by_more (λ images. (files : Files) → images.since images.moment files
            → (before : Files) × old_view.images.since old_view.images.moment before × step_of (machine_of r) call before files) told (one.at_end told);
      }

  pub is_call_by : {T : Type 0} (answer : Answer) (result : Result T Failed) → answered given failed ≡ answer → is_err result ≡ failed → CountsFaults failed faults later
      → IsCallBy (record { call = call; answer = answer }) result old_view new_view
  is_call_by answer result same is counts = record {
    goes_on = record {
      later = counts.later;
      writes = counts_noted call answer now.past.lost old_view.calls new_view.calls (λ told. goes.calls.more (ap not told) ∙ ap (λ (a : Answer). old_view.calls ++ (let d : VaultDone = record { call = call; answer = a } in d) ∷ []) same) (λ lost. ap vault_calls (goes.kept lost));
      levels = goes.same.levels;
      copies = ap (λ (h : Held). length h.drafts) goes.now ∙ drafts_long_after (held r.store) call failed;
      tells = refl;
      calls = subst (λ (a : Answer). Grows (not r.past.lost) old_view.calls (not now.past.lost) new_view.calls (record { call = call; answer = a } ∷ [])) same goes.calls;
    };
    cause = rose_err result failed (Rose faults later) is counts.cause;
    remembers = remembers;
  }

-- what is kept of a call that gives nothing
plain_end : (failed : Bool) → answered Done failed ≡ plain failed
plain_end true = refl
plain_end false = refl

pub is_call : {T : Type 0} (faults later : ℕ) (r now : Recorded) (call : VaultCall) (failed : Bool) → Goes call failed r now → (result : Result T Failed) → is_err result ≡ failed → CountsFaults failed faults later
    → IsCall call result (view_of (value_of faults r)) (view_of (value_of later now))
is_call faults later r now call failed goes result is counts = is_call_by faults later r now call failed goes (plain (is_err result)) result (plain_end failed ∙ ap plain (sym is)) is counts

-- a call of which reads show nothing
module _ {given : Answer} (faults later : ℕ) (r now : Recorded) (call : VaultCall) (failed : Bool) (goes : GoesBy call given failed r now) (quiet : is_quiet call ≡ true) where
  pub same_held : held now.store ≡ held r.store
  same_held = goes.now ∙ sym (quiet_held (held r.store) call failed quiet)

  pub drafts_stay : DraftsStay (view_of (value_of faults r)) (view_of (value_of later now))
  drafts_stay = record { state = ap (λ (h : Held). h.drafts) same_held; bytes = λ told. ap (λ (h : Held). h.staged) same_held }

  pub quiet_changes : IsWithin (machine_of r) call → ChangesBy Stays (view_of (value_of faults r)) (view_of (value_of later now))
  quiet_changes within = record {
    reads = λ told. ap (λ (h : Held). h.files) same_held;
    leaves = leaves_more (step_of (machine_of r) call) Stays (view_of (value_of faults r)).images (view_of (value_of later now)).images (λ told. quiet_only (machine_of r) call quiet) (leaves faults later r now call failed goes within);
  }

  pub reading : {T : Type 0} (gives : T → Answer) (result : Result T Failed) → IsWithin (machine_of r) call → answered given failed ≡ vault_answer gives result → is_err result ≡ failed → CountsFaults failed faults later
      → IsReading call gives result (view_of (value_of faults r)) (view_of (value_of later now))
  reading gives result within same is counts = record { called = is_call_by faults later r now call failed goes (vault_answer gives result) result same is counts; changes = quiet_changes within; drafts = drafts_stay }

-- a call with this end
pub goes_as : {call : VaultCall} {failed end : Bool} (r now : Recorded) → failed ≡ end → Goes call failed r now → Goes call end r now
goes_as {call} {failed} {end} r now is goes = subst (λ b. Goes call b r now) is goes

module _ (faults later : ℕ) (r now : Recorded) (failed : Bool) where
  abbrev old : VaultView
  old = view_of (value_of faults r)

  abbrev new : VaultView
  new = view_of (value_of later now)

  pub write_changes : (level at : ℕ) (bytes : List ℕ) → Goes (ParityWrite level at bytes) failed r now → level < r.store.levels → ChangesBy (TearsParity level at (length bytes)) old new
  write_changes level at bytes goes below = record {
    reads = λ told. torn_by failed (held r.store) (held now.store) level at bytes goes.now;
    leaves = leaves faults later r now (ParityWrite level at bytes) failed goes (level_within r level below);
  }

  pub write_keeps : (level at : ℕ) (bytes : List ℕ) → Goes (ParityWrite level at bytes) failed r now → DraftsStay old new
  write_keeps level at bytes goes = let both = write_drafts failed (held r.store) (held now.store) level at bytes goes.now in record { state = both.0; bytes = λ told. both.1 }

  pub write_reads : (level at : ℕ) (bytes : List ℕ) → Goes (ParityWrite level at bytes) failed r now → level < r.store.levels → failed ≡ false
      → Reads (λ files. parity_of files level ≡ put (parity_of (held r.store).files level) at bytes) new
  write_reads level at bytes goes below is told =
      ap (λ (h : Held). parity_of h.files level) (goes_as r now is goes).now
      ∙ get_or-set_same (held r.store).files.parities level (put (parity_of (held r.store).files level) at bytes) [] (omega (arith, below, parities_long r.store))

  pub set_len_changes : (level len : ℕ) → Goes (ParitySetLen level len) failed r now → level < r.store.levels → ChangesBy (StretchesParity level len) old new
  set_len_changes level len goes below = record {
    reads = λ told. stretched_by failed (held r.store) (held now.store) level len goes.now;
    leaves = leaves faults later r now (ParitySetLen level len) failed goes (level_within r level below);
  }

  pub set_len_keeps : (level len : ℕ) → Goes (ParitySetLen level len) failed r now → DraftsStay old new
  set_len_keeps level len goes = let both = set_len_drafts failed (held r.store) (held now.store) level len goes.now in record { state = both.0; bytes = λ told. both.1 }

  pub set_len_reads : (level len : ℕ) → Goes (ParitySetLen level len) failed r now → level < r.store.levels → failed ≡ false
      → Reads (λ files. parity_of files level ≡ resized (parity_of (held r.store).files level) len) new
  set_len_reads level len goes below is told =
      ap (λ (h : Held). parity_of h.files level) (goes_as r now is goes).now
      ∙ get_or-set_same (held r.store).files.parities level (resized (parity_of (held r.store).files level) len) [] (omega (arith, below, parities_long r.store))

  -- a sync
  pub synced_holds : (level : ℕ) → Goes (ParitySync level) failed r now → level < r.store.levels → failed ≡ false
      → Holds (λ files. parity_of files level ≡ parity_of (held r.store).files level) new
  synced_holds level goes below is = record {
    reads = λ told. ap (λ (h : Held). parity_of h.files level) goes.now;
    leaves = λ told.
        let known = agrees r (still faults later r now (ParitySync level) failed goes told) in
        by_more faults later r now (ParitySync level) false (goes_as r now is goes) (λ images. (files : Files) → images.since images.moment files → parity_of files level ≡ parity_of (held r.store).files level) told
        (λ files left. (holds_synced (opened_by (held r.opened)) (calls_since r.base r.past.made.items) level (not now.past.lost) later (steady_store r.opened) r.recorded.gives (level_within r level below)).leaves told files left
        ∙ ap (λ (h : Held). parity_of h.files level) known);
  }

  pub begin_changes : (copy : ℕ) → Goes (DraftBegin copy) failed r now → copy < r.store.copies → ChangesBy Stays old new
  begin_changes copy goes below = record { reads = λ told. ap (λ (h : Held). h.files) goes.now; leaves = leaves faults later r now (DraftBegin copy) failed goes (copy_within r copy below) }

  pub append_changes : (copy : ℕ) (bytes : List ℕ) → Goes (DraftAppend copy bytes) failed r now → copy < r.store.copies → ChangesBy Stays old new
  append_changes copy bytes goes below = record { reads = λ told. ap (λ (h : Held). h.files) goes.now; leaves = leaves faults later r now (DraftAppend copy bytes) failed goes (copy_within r copy below) }

  pub seal_changes : (copy : ℕ) → Goes (DraftSeal copy) failed r now → copy < r.store.copies → ChangesBy Stays old new
  seal_changes copy goes below = record { reads = λ told. ap (λ (h : Held). h.files) goes.now; leaves = leaves faults later r now (DraftSeal copy) failed goes (copy_within r copy below) }

  pub publish_changes : (copy : ℕ) → Goes (Publish copy) failed r now → copy < r.store.copies → ChangesBy (MayPublish copy (is_sealed (draft_held (held r.store) copy)) (staged_held (held r.store) copy)) old new
  publish_changes copy goes below = record {
    reads = λ told. published_by failed (held r.store) (held now.store) copy goes.now;
    leaves = leaves_more (step_of (machine_of r) (Publish copy)) (MayPublish copy (is_sealed (draft_held (held r.store) copy)) (staged_held (held r.store) copy)) old.images new.images
        (λ told a b step. subst (λ (h : Held). MayPublish copy (is_sealed (draft_held h copy)) (staged_held h copy) a b) (agrees r told) step)
        (leaves faults later r now (Publish copy) failed goes (copy_within r copy below));
  }

  pub publish_gone : (copy : ℕ) → Goes (Publish copy) failed r now → DraftIs copy Absent [] old new
  publish_gone copy goes = let both = publish_drafts failed (held r.store) (held now.store) copy goes.now in record { state = both.0; bytes = λ told. both.1 }

  pub published_holds : (copy : ℕ) → Goes (Publish copy) failed r now → copy < r.store.copies → failed ≡ false → draft_held (held r.store) copy ≡ Sealed
      → Holds (λ files. content_of files copy ≡ Some (staged_held (held r.store) copy)) new
  published_holds copy goes below is sealed = record {
    reads = λ told.
        ap (λ (h : Held). content_of h.files copy) (goes_as r now is goes).now
        ∙ get_or-set_same (held r.store).files.contents copy (Some (staged_held (held r.store) copy)) None (omega (arith, below, contents_long r.store));
    leaves = λ told.
        let known = agrees r (still faults later r now (Publish copy) failed goes told) in
        by_more faults later r now (Publish copy) false (goes_as r now is goes) (λ images. (files : Files) → images.since images.moment files → content_of files copy ≡ Some (staged_held (held r.store) copy)) told
        (λ files left. (holds_published (opened_by (held r.opened)) (calls_since r.base r.past.made.items) copy (not now.past.lost) later (copy_within r copy below) (ap (λ (h : Held). draft_held h copy) known ∙ sealed)).leaves told files left
        ∙ ap (λ (h : Held). Some (staged_held h copy)) known);
  }

-- the state of a draft after a call
pub draft_now : (faults later : ℕ) (r now : Recorded) (copy : ℕ) (draft : Draft) (bytes : List ℕ) → held now.store ≡ with_draft (held r.store) copy draft bytes → DraftIs copy draft bytes (view_of (value_of faults r)) (view_of (value_of later now))
draft_now faults later r now copy draft bytes is = record { state = ap (λ (h : Held). h.drafts) is; bytes = λ told. ap (λ (h : Held). h.staged) is }

position_or_len-map : {A B : Type 0} (p : B → Bool) (f : A → B) (xs : List A) → position_or_len p (map f xs) ≡ position_or_len (λ x. p (f x)) xs
position_or_len-map p f [] = refl
position_or_len-map p f (x ∷ xs) = ap (λ n. cond (not (p (f x))) (1 + n) 0) (position_or_len-map p f xs)

pub position-map : {A B : Type 0} (p : B → Bool) (f : A → B) (xs : List A) → position p (map f xs) ≡ position (λ x. p (f x)) xs
position-map p f xs =
    let place = position_or_len-map p f xs in
    ap (λ n. cond (nat_lt n (length (map f xs))) (Some n) None) place ∙ ap (λ n. cond (nat_lt (position_or_len (λ x. p (f x)) xs) n) (Some (position_or_len (λ x. p (f x)) xs)) None) (length-map xs f)
