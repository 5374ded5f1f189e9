-- A record goes on to tell how what is held came about.
use Rattle.std.proofs.Common.{◌≡◌, ◌⊎◌, inl, inr, ℕ, ◌≤◌, List, [], ◌∷◌, ◌++◌, length, map, drop, set, Option, None, Some, IfSome, IfNone, Bool, true, false, not, IsTrue, refl, sym, ◌∙◌, ap, subst, arith, length-append}
use Rattle.std.proofs.lemmas.List.{map-set, set-get_or, get_or-map, get_or_past, length-map, drop-append-le, drop_all}
use Rattle.std.proofs.lemmas.List.Elements.{All-append, All-nil, All-cons}
use Rattle.std.proofs.lemmas.Bool.{cases_lt}
use Rattle.disk_model.specs.Answer.{is_failure}
use Rattle.disk_model.specs.Bytes.{put, resized}
use Rattle.disk_model.specs.Cause.{Grows}
use Rattle.disk_model.specs.Files.{Files, parity_of, content_of, with_parity, with_content}
use Rattle.disk_model.specs.Machine.{Machine, Loose, no_file, settled, level_of, copy_of, draft_in, staged_in, files_of, with_level as with_level_of, with_copy as with_copy_of, published, after, replay, GivesBytes, AllGiveBytes}
use Rattle.disk_model.specs.Unsynced.{Unsynced}
use Rattle.disk_model.specs.Vault.{VaultCall, VaultDone, ParityLen, ParityRead, ParityWrite, ParitySetLen, ParitySync, ContentSize, ContentRead, DraftBegin, DraftAppend, DraftSeal, Publish, is_sealed}
use Rattle.disk_model.specs.declared.answer.Answer.{Answer}
use Rattle.disk_model.specs.declared.answer.Answer.TheVariants.{Failed}
use Rattle.disk_model.specs.declared.draft.Draft.TheVariants.{Absent}
use Rattle.disk_model.proofs.ByCallsLemmas.{opened_reads}
use Rattle.disk_model.proofs.MachineLemmas.{replay_push}
use Rattle.disk_memory.specs.Calls.{vault_call, vault_calls, vault_done}
use Rattle.disk_calm.specs.Held.{Held}
use Rattle.disk_memory.specs.Past.{answered, Notes, Loses, Ends}
use Rattle.disk_memory.specs.Recorded.{opened_by, held_by, calls_since, held_after, is_quiet, IsRecorded}
use Rattle.disk_memory.specs.RecordedLaws.{follows, untold}
use Rattle.disk_memory.specs.declared.calls.VaultEntry.{VaultEntry}
use Rattle.disk_memory.specs.declared.past.Made.{Made}
use Rattle.disk_memory.specs.declared.past.Past.{Past}
use Rattle.disk_memory.proofs.PastLemmas.{grows_done, grows_failed}

abbrev pub done_so : VaultCall → Answer → Bool → VaultDone
done_so call given failed = record { call = call; answer = answered given failed }

-- a call that gives this fails where it is said to
failure_of : (given : Answer) → is_failure given ≡ false → (failed : Bool) → is_failure (answered given failed) ≡ failed
failure_of given sound true = refl
failure_of given sound false = sound

-- ---- what reads give after a call

abbrev files_as : Machine → Files → Held
files_as m files = record { files = files; drafts = m.drafts; staged = m.staged }

level_reads : (m : Machine) (level : ℕ) → parity_of (files_of m) level ≡ (level_of m level).read
level_reads m level = elim (cases_lt level (length m.levels)) [
  | inl within ↦ get_or-map (λ (file : Unsynced). file.read) m.levels level no_file [] within
  | inr past ↦
      get_or_past (map (λ (file : Unsynced). file.read) m.levels) level [] (omega (arith, past, length-map m.levels (λ (file : Unsynced). file.read)))
      ∙ ap (λ (file : Unsynced). file.read) (sym (get_or_past m.levels level no_file past))
]

copy_reads : (m : Machine) (copy : ℕ) → content_of (files_of m) copy ≡ (copy_of m copy).read
copy_reads m copy = elim (cases_lt copy (length m.copies)) [
  | inl within ↦ get_or-map (λ (c : Loose). c.read) m.copies copy (settled None) None within
  | inr past ↦
      get_or_past (map (λ (c : Loose). c.read) m.copies) copy None (omega (arith, past, length-map m.copies (λ (c : Loose). c.read)))
      ∙ ap (λ (c : Loose). c.read) (sym (get_or_past m.copies copy (settled None) past))
]

level_set : (m : Machine) (level : ℕ) (file : Unsynced) (bytes : List ℕ) → file.read ≡ bytes → files_of (with_level_of m level file) ≡ with_parity (files_of m) level bytes
level_set m level file bytes is = ap (λ (ps : List (List ℕ)). let f : Files = record { parities = ps; contents = (files_of m).contents } in f)
    (map-set (λ (f : Unsynced). f.read) m.levels level file ∙ ap (set (files_of m).parities level) is)

copy_set : (m : Machine) (copy : ℕ) (loose : Loose) (content : Option (List ℕ)) → loose.read ≡ content → files_of (with_copy_of m copy loose) ≡ with_content (files_of m) copy content
copy_set m copy loose content is = ap (λ (cs : List (Option (List ℕ))). let f : Files = record { parities = (files_of m).parities; contents = cs } in f)
    (map-set (λ (c : Loose). c.read) m.copies copy loose ∙ ap (set (files_of m).contents copy) is)

parity_kept : (files : Files) (level : ℕ) → with_parity files level (parity_of files level) ≡ files
parity_kept files level = ap (λ (ps : List (List ℕ)). let f : Files = record { parities = ps; contents = files.contents } in f) (set-get_or files.parities level [])

content_kept : (files : Files) (copy : ℕ) → with_content files copy (content_of files copy) ≡ files
content_kept files copy = ap (λ (cs : List (Option (List ℕ))). let f : Files = record { parities = files.parities; contents = cs } in f) (set-get_or files.contents copy None)

-- a level of which reads show nothing new
level_same : (m : Machine) (level : ℕ) (file : Unsynced) → file.read ≡ (level_of m level).read → held_by (with_level_of m level file) ≡ held_by m
level_same m level file is = ap (files_as m) (level_set m level file (parity_of (files_of m) level) (is ∙ sym (level_reads m level)) ∙ parity_kept (files_of m) level)

published_new : (seal : Bool) (bytes : List ℕ) (copy : Loose) → (published seal false bytes copy).read ≡ Some bytes
published_new true bytes copy = refl
published_new false bytes copy = refl

published_old : (seal : Bool) (bytes : List ℕ) (copy : Loose) → (published seal true bytes copy).read ≡ copy.read
published_old true bytes copy = refl
published_old false bytes copy = refl

abbrev drafts_as : Machine → ℕ → Files → Held
drafts_as m copy files = record { files = files; drafts = set m.drafts copy Absent; staged = set m.staged copy [] }

pub held_by_after : (m : Machine) (call : VaultCall) (failed : Bool) → held_by (after m call failed) ≡ held_after (held_by m) call failed
held_by_after m (ParityLen level) failed = refl
held_by_after m (ParityRead level at n) failed = refl
held_by_after m (ParityWrite level at bytes) false = ap (files_as m) (level_set m level _ (put (parity_of (files_of m) level) at bytes) (ap (λ file. put file at bytes) (sym (level_reads m level))))
held_by_after m (ParityWrite level at bytes) true = level_same m level _ refl
held_by_after m (ParitySetLen level len) false = ap (files_as m) (level_set m level _ (resized (parity_of (files_of m) level) len) (ap (λ file. resized file len) (sym (level_reads m level))))
held_by_after m (ParitySetLen level len) true = level_same m level _ refl
held_by_after m (ParitySync level) false = level_same m level _ refl
held_by_after m (ParitySync level) true = refl
held_by_after m (ContentSize copy) failed = refl
held_by_after m (ContentRead copy at n) failed = refl
held_by_after m (DraftBegin copy) failed = refl
held_by_after m (DraftAppend copy bytes) failed = refl
held_by_after m (DraftSeal copy) failed = refl
held_by_after m (Publish copy) false =
    ap (drafts_as m copy) (copy_set m copy _ (Some (staged_in m copy)) (published_new (is_sealed (draft_in m copy)) (staged_in m copy) (copy_of m copy)))
held_by_after m (Publish copy) true =
    ap (drafts_as m copy) (copy_set m copy _ (content_of (files_of m) copy) (published_old (is_sealed (draft_in m copy)) (staged_in m copy) (copy_of m copy) ∙ sym (copy_reads m copy)) ∙ content_kept (files_of m) copy)

pub quiet_held : (h : Held) (call : VaultCall) (failed : Bool) → is_quiet call ≡ true → h ≡ held_after h call failed
quiet_held h (ParityLen level) failed is = refl
quiet_held h (ParityRead level at n) failed is = refl
quiet_held h (ParityWrite level at bytes) failed is = absurd (let clash : false ≡ true = is in cc)
quiet_held h (ParitySetLen level len) failed is = absurd (let clash : false ≡ true = is in cc)
quiet_held h (ParitySync level) failed is = refl
quiet_held h (ContentSize copy) failed is = refl
quiet_held h (ContentRead copy at n) failed is = refl
quiet_held h (DraftBegin copy) failed is = absurd (let clash : false ≡ true = is in cc)
quiet_held h (DraftAppend copy bytes) failed is = absurd (let clash : false ≡ true = is in cc)
quiet_held h (DraftSeal copy) failed is = absurd (let clash : false ≡ true = is in cc)
quiet_held h (Publish copy) failed is = absurd (let clash : false ≡ true = is in cc)

pub quiet_gives : (call : VaultCall) → is_quiet call ≡ true → GivesBytes call
quiet_gives (ParityLen level) is = tt
quiet_gives (ParityRead level at n) is = tt
quiet_gives (ParityWrite level at bytes) is = absurd (let clash : false ≡ true = is in cc)
quiet_gives (ParitySetLen level len) is = tt
quiet_gives (ParitySync level) is = tt
quiet_gives (ContentSize copy) is = tt
quiet_gives (ContentRead copy at n) is = tt
quiet_gives (DraftBegin copy) is = tt
quiet_gives (DraftAppend copy bytes) is = absurd (let clash : false ≡ true = is in cc)
quiet_gives (DraftSeal copy) is = tt
quiet_gives (Publish copy) is = tt

-- ---- one call more in the record

clash : {X : Type 0} (b : Bool) → b ≡ true → b ≡ false → X
clash b is not_so = absurd (let no : true ≡ false = sym is ∙ not_so in cc)

-- how one call was written down, from its note to its end
pub record IsWritten (entry : Option VaultEntry) (given : Answer) (done : Bool) (old mid new : Past VaultEntry) : Type 0 where
  pub noted : IfSome entry (λ e. Notes e Failed old mid)
  pub refused : IfNone entry (Loses old mid)
  pub ok : done ≡ true → Ends given mid new
  pub failed : done ≡ false → new ≡ mid

abbrev told_so : VaultCall → Answer → VaultDone
told_so call answer = record { call = call; answer = answer }

pub written_grows : (entry : Option VaultEntry) (call : VaultCall) (given : Answer) (done : Bool) (old mid new : Past VaultEntry) → IsWritten entry given done old mid new → IfSome entry (λ e. vault_call e ≡ call)
    → Grows (not old.lost) (vault_calls old.made.items) (not new.lost) (vault_calls new.made.items) (done_so call given (not done) ∷ [])
written_grows entry call given true old mid new is names = grows_done vault_call told_so entry call old mid new is.noted is.refused (is.ok refl) names
written_grows entry call given false old mid new is names =
    subst (λ (p : Past VaultEntry). Grows (not old.lost) (vault_calls old.made.items) (not p.lost) (vault_calls p.made.items) (told_so call Failed ∷ [])) (sym (is.failed refl))
    (grows_failed vault_call told_so entry call old mid is.noted is.refused names)

mid_kept : (entry : Option VaultEntry) (old mid : Past VaultEntry) → IfSome entry (λ e. Notes e Failed old mid) → IfNone entry (Loses old mid) → mid.lost ≡ true → mid.made.items ≡ old.made.items
mid_kept None old mid noted refused lost = refused.kept
mid_kept (Some e) old mid noted refused lost = noted.kept lost

-- a lost record stays as it was
pub written_kept : (entry : Option VaultEntry) (given : Answer) (done : Bool) (old mid new : Past VaultEntry) → IsWritten entry given done old mid new → new.lost ≡ true → new.made.items ≡ old.made.items
written_kept entry given true old mid new is lost = let ends = is.ok refl in ends.kept lost ∙ mid_kept entry old mid is.noted is.refused (sym ends.lost ∙ lost)
written_kept entry given false old mid new is lost =
    let same = is.failed refl in
    ap (λ (p : Past VaultEntry). p.made.items) same ∙ mid_kept entry old mid is.noted is.refused (sym (ap (λ (p : Past VaultEntry). p.lost) same) ∙ lost)

pub since_more : (base : ℕ) (old new : List (Made VaultEntry)) (call : VaultDone) → base ≤ length old → vault_calls new ≡ vault_calls old ++ call ∷ [] → calls_since base new ≡ calls_since base old ++ call ∷ []
since_more base old new call within more = ap (drop base) more ∙ drop-append-le base (vault_calls old) (call ∷ []) (omega (arith, within, length-map old vault_done))

module _ (call : VaultCall) (given : Answer) (sound : is_failure given ≡ false) (failed : Bool) (base : ℕ) (opened now then : Held) (old new : Past VaultEntry)
    (grows : Grows (not old.lost) (vault_calls old.made.items) (not new.lost) (vault_calls new.made.items) (done_so call given failed ∷ []))
    (kept : new.lost ≡ true → new.made.items ≡ old.made.items)
    (gives : GivesBytes call) (is : IsRecorded old.lost base old.made.items opened now) (after_it : then ≡ held_after now call failed) where
  lost_on : new.lost ≡ true → IsRecorded new.lost base new.made.items opened then
  lost_on lost = record {
    within = subst (λ (es : List (Made VaultEntry)). base ≤ length es) (sym (kept lost)) is.within;
    gives = subst (λ (es : List (Made VaultEntry)). AllGiveBytes (calls_since base es)) (sym (kept lost)) is.gives;
    parities = λ told. clash new.lost lost told;
    contents = λ told. clash new.lost lost told;
    drafts = λ told. clash new.lost lost told;
    staged = λ told. clash new.lost lost told;
  }

  told_on : new.lost ≡ false → IsRecorded new.lost base new.made.items opened then
  told_on told =
      let tells : IsTrue (not new.lost) = ap not told in
      let more = grows.more tells in
      let was = untold old.lost (grows.told tells) in
      let since : calls_since base new.made.items ≡ calls_since base old.made.items ++ done_so call given failed ∷ [] = since_more base old.made.items new.made.items (done_so call given failed) is.within more in
      let machine = replay (opened_by opened) (calls_since base old.made.items) in
      let whole : held_by (replay (opened_by opened) (calls_since base new.made.items)) ≡ then
      = ap (λ (cs : List VaultDone). held_by (replay (opened_by opened) cs)) since
      ∙ ap held_by (replay_push (opened_by opened) (calls_since base old.made.items) (done_so call given failed))
      ∙ ap (λ b. held_by (after machine call b)) (failure_of given sound failed) ∙ held_by_after machine call failed
      ∙ ap (λ (h : Held). held_after h call failed) (follows old.lost base old.made.items opened now is was)
      ∙ sym after_it in
      record {
        within = omega (arith, is.within, ap length more, length-map old.made.items vault_done, length-map new.made.items vault_done, length-append (vault_calls old.made.items) (done_so call given failed ∷ []));
        gives = subst AllGiveBytes (sym since) (All-append (λ (d : VaultDone). GivesBytes d.call) (calls_since base old.made.items) (done_so call given failed ∷ []) is.gives (All-cons (λ (d : VaultDone). GivesBytes d.call) (done_so call given failed) [] gives (All-nil (λ (d : VaultDone). GivesBytes d.call))));
        parities = λ t. ap (λ (h : Held). h.files.parities) whole;
        contents = λ t. ap (λ (h : Held). h.files.contents) whole;
        drafts = λ t. ap (λ (h : Held). h.drafts) whole;
        staged = λ t. ap (λ (h : Held). h.staged) whole;
      }

  pub recorded_on : IsRecorded new.lost base new.made.items opened then
  recorded_on = elim (bools new.lost) [ inl lost ↦ lost_on lost | inr told ↦ told_on told ]
    where
      bools : (b : Bool) → (b ≡ true) ⊎ (b ≡ false)
      bools true = inl refl
      bools false = inr refl

-- nothing was done since it was opened
pub recorded_anew : (lost : Bool) (base : ℕ) (entries : List (Made VaultEntry)) (opened now : Held) → base ≡ length entries → now ≡ opened → IsRecorded lost base entries opened now
recorded_anew lost base entries opened now all same =
    let none : calls_since base entries ≡ [] = drop_all base (vault_calls entries) (omega (arith, all, length-map entries vault_done)) in
    let whole : held_by (replay (opened_by opened) (calls_since base entries)) ≡ now
    = ap (λ (cs : List VaultDone). held_by (replay (opened_by opened) cs)) none
    ∙ ap (λ (f : Files). let h : Held = record { files = f; drafts = opened.drafts; staged = opened.staged } in h) (opened_reads opened.files)
    ∙ sym same in
    record {
      within = omega (arith, all);
      gives = subst AllGiveBytes (sym none) (All-nil (λ (d : VaultDone). GivesBytes d.call));
      parities = λ t. ap (λ (h : Held). h.files.parities) whole;
      contents = λ t. ap (λ (h : Held). h.files.contents) whole;
      drafts = λ t. ap (λ (h : Held). h.drafts) whole;
      staged = λ t. ap (λ (h : Held). h.staged) whole;
    }
