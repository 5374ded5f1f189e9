-- Calls on the parts of one level, one after another.
use Rattle.std.proofs.Common.{◌≡◌, inl, inr, ⊎_elim, ℕ, ◌+◌, ◌<◌, ◌≤◌, List, [], length, take, drop, set, Result, OnErr, IsTrue, refl, sym, ◌∙◌, ap, subst, arith}
use Rattle.std.proofs.lemmas.List.{length-take, length-drop, get_or-take, get_or-drop, take-set-le, drop-set-lt, drop-set-add, get_or-set_same}
use Rattle.std.proofs.Math.Seq.{take-set-lt}
use Rattle.std.proofs.lemmas.Bool.{cases_eq}
use Rattle.disk_model.specs.Bytes.{Torn, Stretched}
use Rattle.disk_model.specs.Cause.{Rose}
use Rattle.disk_model.specs.Files.{Files, parity_of, with_parity, TearsParity, StretchesParity, Stays}
use Rattle.disk_model.specs.Moments.{Images, LeavesBy, Remembers}
use Rattle.disk_model.specs.Vault.{VaultView, VaultCall, VaultDone, IsCall, IsReading, GoesOn, ChangesBy, DraftsStay, Holds, Reads, IsWellFormed}
use Rattle.disk_model.proofs.MomentsLemmas.{leaves_more}
use Rattle.disk_model.proofs.VaultLemmas.{no_calls, one_call, calls_then, changes_start, changes_on, on_any, on_err}
use Rattle.disk_model.specs.declared.answer.Answer.{Answer}
use Rattle.disk_model.specs.declared.fault.Failed.{Failed}
use Rattle.parity_split.specs.Joined.{joined, part_of}
use Rattle.parity_split.specs.Works.{Works, HoldsOf, OnParts, LevelBy, IsWithin, parts_in, SameFrom}
use Rattle.parity_split.specs.declared.parts.Parts.{Parts}

remembers_then : (step : Files → Files → Type 0) (old mid new : Images) → LeavesBy step old mid → Remembers old mid → LeavesBy step mid new → Remembers mid new → Remembers old new
remembers_then step old mid new leaves one leaves_two two told t files le left =
    let mid_told = leaves_two.told told in
    two told t files (let a = leaves.later mid_told in omega arith) (one mid_told t files le left)

pub drafts_then : (old mid new : VaultView) → mid.tells ≡ old.tells → DraftsStay old mid → DraftsStay mid new → DraftsStay old new
drafts_then old mid new tells one two = record { state = two.state ∙ one.state; bytes = λ t. two.bytes (tells ∙ t) ∙ one.bytes t }

pub works_start : (step : Files → Files → Type 0) (v : VaultView) → ((files : Files) → step files files) → Works step v v
works_start step v same = record {
  calls = no_calls v;
  remembers = λ told t files le left. left;
  changes = changes_start step v same;
  drafts = record { state = refl; bytes = λ t. refl };
}

pub works_then : (step : Files → Files → Type 0) (old mid new : VaultView) → ((a b c : Files) → step a b → step b c → step a c) → Works step old mid → Works step mid new → Works step old new
works_then step old mid new trans one two = record {
  calls = calls_then old mid new one.calls two.calls;
  remembers = remembers_then step old.images mid.images new.images one.changes.leaves one.remembers two.changes.leaves two.remembers;
  changes = changes_on step old mid new trans one.calls.goes_on.tells one.changes two.changes;
  drafts = drafts_then old mid new one.calls.goes_on.tells one.drafts two.drafts;
}

-- by a looser step
pub works_more : (step looser : Files → Files → Type 0) (old new : VaultView) → ((a b : Files) → step a b → looser a b) → Works step old new → Works looser old new
works_more step looser old new more works = record {
  calls = works.calls;
  remembers = works.remembers;
  changes = record { reads = λ t. more _ _ (works.changes.reads t); leaves = leaves_more step looser old.images new.images (λ told a b s. more a b s) works.changes.leaves };
  drafts = works.drafts;
}

pub works_by : (step : Files → Files → Type 0) (old new : VaultView) (done : List VaultDone) → GoesOn old new done → Remembers old.images new.images → ChangesBy step old new → DraftsStay old new → Works step old new
works_by step old new done on remembers changes drafts = record { calls = one_call old new done on; remembers = remembers; changes = changes; drafts = drafts }

pub rose_later : (old mid new : VaultView) → old.faults ≤ mid.faults → Rose mid.faults new.faults → Rose old.faults new.faults
rose_later old mid new later rose = omega arith

pub stays_then : (a b c : Files) → Stays a b → Stays b c → Stays a c
stays_then a b c one two = two ∙ one

pub read_works : {T : Type 0} (call : VaultCall) (gives : T → Answer) (result : Result T Failed) (old new : VaultView) → IsReading call gives result old new → Works Stays old new
read_works call gives result old new is = works_by Stays old new _ is.called.goes_on is.called.remembers is.changes is.drafts

pub call_works : (step : Files → Files → Type 0) {T : Type 0} (call : VaultCall) (result : Result T Failed) (old new : VaultView) → IsCall call result old new → ChangesBy step old new → DraftsStay old new → Works step old new
call_works step call result old new is changes drafts = works_by step old new _ is.goes_on is.remembers changes drafts

-- after calls that only read, another
pub reads_then : {T : Type 0} (call : VaultCall) (gives : T → Answer) (result : Result T Failed) (old mid new : VaultView) → Works Stays old mid → IsReading call gives result mid new → Works Stays old new
reads_then call gives result old mid new one is = works_then Stays old mid new stays_then one (read_works call gives result mid new is)

pub syncs_then : {T : Type 0} (call : VaultCall) (result : Result T Failed) (old mid new : VaultView) → Works Stays old mid → IsCall call result mid new → ChangesBy Stays mid new → DraftsStay mid new → Works Stays old new
syncs_then call result old mid new one is changes drafts = works_then Stays old mid new stays_then one (call_works Stays call result mid new is changes drafts)

pub still_within : (p : Parts) (step : Files → Files → Type 0) (old new : VaultView) → Works step old new → IsWithin p old.levels → IsWithin p new.levels
still_within p step old new works within = subst (λ n. IsWithin p n) (sym works.calls.goes_on.levels) within

pub rose_after : {T : Type 0} (result : Result T Failed) (step : Files → Files → Type 0) (old mid new : VaultView) → Works step old mid → OnErr result (Rose mid.faults new.faults) → OnErr result (Rose old.faults new.faults)
rose_after result step old mid new works rose = on_err result (λ r. rose_later old mid new works.calls.goes_on.later r) rose

pub rose_at : {T : Type 0} (result : Result T Failed) (step : Files → Files → Type 0) (old mid new : VaultView) → Works step old mid → Rose mid.faults new.faults → OnErr result (Rose old.faults new.faults)
rose_at result step old mid new works rose = on_any result (rose_later old mid new works.calls.goes_on.later rose)

-- what reads give after calls that only read
pub reads_still : (P : Files → Type 0) (old new : VaultView) → Works Stays old new → Reads P old → Reads P new
reads_still P old new works reads t = let was : IsTrue old.tells = sym works.calls.goes_on.tells ∙ t in subst P (sym (works.changes.reads was)) (reads was)

-- nothing changed, so what held still holds
pub still_holds : (p : Parts) (P : List (List ℕ) → List (List ℕ) → Type 0) (old new : VaultView) → IsWellFormed old → Works Stays old new → HoldsOf p P old → HoldsOf p P new
still_holds p P old new formed works holds = record {
  reads = λ t. let was : IsTrue old.tells = sym works.calls.goes_on.tells ∙ t in subst (λ files. P (parts_in p files) (parts_in p files)) (sym (works.changes.reads was)) (holds.reads was);
  leaves = λ told files left.
      let told_old = works.changes.leaves.told told in
      let came = works.changes.leaves.at_end told files left in
      let was : IsTrue old.tells = formed.tells told_old in
      subst (λ reads. P (parts_in p reads) (parts_in p files)) (sym (works.changes.reads was))
      (subst (λ f. P (parts_in p old.files) (parts_in p f)) (sym came.2) (holds.leaves told_old came.0 came.1));
}

pub holds_more : (p : Parts) (P Q : List (List ℕ) → List (List ℕ) → Type 0) (v : VaultView) → IsWellFormed v → ((r b : List (List ℕ)) → P r r → P r b → Q r b) → HoldsOf p P v → HoldsOf p Q v
holds_more p P Q v formed more holds = record {
  reads = λ t. more _ _ (holds.reads t) (holds.reads t);
  leaves = λ told files left. more _ _ (holds.reads (formed.tells told)) (holds.leaves told files left);
}

module _ (p : Parts) where
  pub part_is : (files : Files) (j : ℕ) → j < p.count → part_of (parts_in p files) j ≡ parity_of files (p.first + j)
  part_is files j low = get_or-take p.count (drop p.first files.parities) j [] low ∙ get_or-drop p.first files.parities j []

  pub in_count : (files : Files) (levels : ℕ) → IsWithin p levels → length files.parities ≡ levels → length (parts_in p files) ≡ p.count
  in_count files levels within long =
      let a = length-take p.count (drop p.first files.parities) in
      let b = length-drop p.first files.parities in
      omega (arith, within.within)

  pub found_len : (part len : ℕ) (old now : Files) → part < p.count → Stays old now → len ≡ length (parity_of now (p.first + part)) → len ≡ length (part_of (parts_in p old) part)
  found_len part len old now low stays is = is ∙ ap (λ f. length (parity_of f (p.first + part))) stays ∙ ap length (sym (part_is old part low))

  pub parts_set : (files : Files) (j : ℕ) (part : List ℕ) → j < p.count → parts_in p (with_parity files (p.first + j) part) ≡ set (parts_in p files) j part
  parts_set files j part low = ap (take p.count) (drop-set-add p.first files.parities j part) ∙ take-set-lt p.count (drop p.first files.parities) j part low

  -- one part went on by a step
  pub on_one : (step : List (List ℕ) → List (List ℕ) → Type 0) (files : Files) (j : ℕ) (part : List ℕ) → j < p.count → step (parts_in p files) (set (parts_in p files) j part) → OnParts p step files (with_parity files (p.first + j) part)
  on_one step files j part low inside = record {
    before = take-set-le p.first files.parities (p.first + j) part (omega arith);
    after = drop-set-lt (p.first + p.count) files.parities (p.first + j) part (omega arith);
    contents = refl;
    inside = subst (λ now. step (parts_in p files) now) (sym (parts_set files j part low)) inside;
  }

  pub level_then : (step : List ℕ → List ℕ → Type 0) → ((x y z : List ℕ) → step x y → step y z → step x z) → (a b c : Files) → LevelBy p step a b → LevelBy p step b c → LevelBy p step a c
  level_then step trans a b c one two = record {
    before = two.before ∙ one.before;
    after = two.after ∙ one.after;
    contents = two.contents ∙ one.contents;
    inside = trans _ _ _ one.inside two.inside;
  }

  pub level_more : (step looser : List ℕ → List ℕ → Type 0) → ((x y : List ℕ) → step x y → looser x y) → (a b : Files) → LevelBy p step a b → LevelBy p looser a b
  level_more step looser more a b one = record { before = one.before; after = one.after; contents = one.contents; inside = more _ _ one.inside }

  pub level_stays : (step : List ℕ → List ℕ → Type 0) → ((x : List ℕ) → step x x) → (a b : Files) → Stays a b → LevelBy p step a b
  level_stays step same a b stays = subst (λ f. LevelBy p step a f) (sym stays) (record { before = refl; after = refl; contents = refl; inside = same _ })

  pub works_level : (step : List ℕ → List ℕ → Type 0) (old new : VaultView) → ((x : List ℕ) → step x x) → Works Stays old new → Works (LevelBy p step) old new
  works_level step old new same works = works_more Stays (LevelBy p step) old new (level_stays step same) works

  pub works_loose : (step looser : List ℕ → List ℕ → Type 0) (old new : VaultView) → ((x y : List ℕ) → step x y → looser x y) → Works (LevelBy p step) old new → Works (LevelBy p looser) old new
  works_loose step looser old new more works = works_more (LevelBy p step) (LevelBy p looser) old new (level_more step looser more) works

  pub level_works_then : (step : List ℕ → List ℕ → Type 0) (old mid new : VaultView) → ((x y z : List ℕ) → step x y → step y z → step x z) → Works (LevelBy p step) old mid → Works (LevelBy p step) mid new → Works (LevelBy p step) old new
  level_works_then step old mid new trans one two = works_then (LevelBy p step) old mid new (level_then step trans) one two

  -- a part went on by a step of its bytes
  pub record OnePart (j : ℕ) (step : List ℕ → List ℕ → Type 0) (old new : Files) : Type 0 where
    pub part : List ℕ
    pub goes : step (part_of (parts_in p old) j) part
    pub rest : new ≡ with_parity old (p.first + j) part

  pub tears_part : (j at n : ℕ) (old new : Files) → j < p.count → TearsParity (p.first + j) at n old new → OnePart j (Torn at n) old new
  tears_part j at n old new low tears = record { part = tears.file; goes = subst (λ x. Torn at n x tears.file) (sym (part_is old j low)) tears.torn; rest = tears.rest }

  pub stretches_part : (j len : ℕ) (old new : Files) → j < p.count → StretchesParity (p.first + j) len old new → OnePart j (Stretched len) old new
  stretches_part j len old new low stretches = record { part = stretches.file; goes = subst (λ x. Stretched len x stretches.file) (sym (part_is old j low)) stretches.stretched; rest = stretches.rest }

  pub set_len_works : (j len : ℕ) {T : Type 0} (call : VaultCall) (result : Result T Failed) (old new : VaultView) → j < p.count → IsCall call result old new → ChangesBy (StretchesParity (p.first + j) len) old new → DraftsStay old new → Works (OnePart j (Stretched len)) old new
  set_len_works j len call result old new low is changes drafts = works_more (StretchesParity (p.first + j) len) (OnePart j (Stretched len)) old new (λ a b s. stretches_part j len a b low s) (call_works _ call result old new is changes drafts)

  pub write_works : (j at n : ℕ) {T : Type 0} (call : VaultCall) (result : Result T Failed) (old new : VaultView) → j < p.count → IsCall call result old new → ChangesBy (TearsParity (p.first + j) at n) old new → DraftsStay old new → Works (OnePart j (Torn at n)) old new
  write_works j at n call result old new low is changes drafts = works_more (TearsParity (p.first + j) at n) (OnePart j (Torn at n)) old new (λ a b s. tears_part j at n a b low s) (call_works _ call result old new is changes drafts)

  -- with what is known of the parts as they read
  pub holds_with : (P Q : List (List ℕ) → List (List ℕ) → Type 0) (R : List (List ℕ) → Type 0) (v : VaultView) → IsWellFormed v → IsWithin p v.levels → Reads (λ files. R (parts_in p files)) v
      → ((reads parts : List (List ℕ)) → length reads ≡ p.count → R reads → P reads reads → P reads parts → Q reads parts) → HoldsOf p P v → HoldsOf p Q v
  holds_with P Q R v formed within known go holds = record {
    reads = λ t. go _ _ (in_count v.files v.levels within (formed.shape t).files.parities) (known t) (holds.reads t) (holds.reads t);
    leaves = λ told files left. let t = formed.tells told in go _ _ (in_count v.files v.levels within (formed.shape t).files.parities) (known t) (holds.reads t) (holds.leaves told files left);
  }

  -- a part was synced
  pub holds_synced : (j : ℕ) (P : List (List ℕ) → List (List ℕ) → Type 0) (old new : VaultView) → j < p.count → IsWellFormed old → Works Stays old new → HoldsOf p P old
      → Holds (λ files. parity_of files (p.first + j) ≡ parity_of old.files (p.first + j)) new → HoldsOf p (λ reads parts. P reads parts × (part_of parts j ≡ part_of reads j)) new
  holds_synced j P old new low formed works holds synced =
      let still = still_holds p P old new formed works holds in
      record {
        reads = λ t. (still.reads t, refl);
        leaves = λ told files left.
            let was : IsTrue old.tells = formed.tells (works.changes.leaves.told told) in
            (still.leaves told files left, part_is files j low ∙ synced.leaves told files left ∙ ap (λ f. parity_of f (p.first + j)) (sym (works.changes.reads was)) ∙ sym (part_is new.files j low));
      }

  -- one more part was synced
  pub synced_more : (from j : ℕ) (old mid new : VaultView) → j < p.count → IsWellFormed mid → Works Stays old mid → Works Stays mid new
      → Holds (λ files. SameFrom from j (parts_in p old.files) (parts_in p files)) mid
      → Holds (λ files. parity_of files (p.first + j) ≡ parity_of mid.files (p.first + j)) new
      → Holds (λ files. SameFrom from (j + 1) (parts_in p old.files) (parts_in p files)) new
  synced_more from j old mid new low formed one two holds synced = record {
    reads = λ t. let was : IsTrue mid.tells = sym two.calls.goes_on.tells ∙ t in step new.files mid.files was (two.changes.reads was) (holds.reads was) (synced.reads t);
    leaves = λ told files left.
        let told_mid = two.changes.leaves.told told in
        let came = two.changes.leaves.at_end told files left in
        step files came.0 (formed.tells told_mid) came.2 (holds.leaves told_mid came.0 came.1) (synced.leaves told files left);
  }
    where
      step : (files before : Files) → IsTrue mid.tells → Stays before files → SameFrom from j (parts_in p old.files) (parts_in p before) → parity_of files (p.first + j) ≡ parity_of mid.files (p.first + j) → SameFrom from (j + 1) (parts_in p old.files) (parts_in p files)
      step files before t stays same is k low_k high_k = ⊎_elim
          (λ e. subst (λ m. part_of (parts_in p files) m ≡ part_of (parts_in p old.files) m) (sym e)
          (part_is files j low ∙ is ∙ ap (λ f. parity_of f (p.first + j)) (one.changes.reads (sym one.calls.goes_on.tells ∙ t)) ∙ sym (part_is old.files j low)))
          (λ ne. ap (λ f. part_of (parts_in p f) k) stays ∙ same k low_k (omega arith))
          (cases_eq k j)

  -- A call on one part: what the bytes of the level go on by in each image, and what holds of the parts afterwards.
  module _ (j : ℕ) (step : List ℕ → List ℕ → Type 0) (P : List (List ℕ) → List (List ℕ) → Type 0) (old new : VaultView) (low : j < p.count) (formed : IsWellFormed old) (within : IsWithin p old.levels)
      (holds : HoldsOf p P old) where
    one_level : (by : List ℕ → List ℕ → Type 0) → ((reads parts : List (List ℕ)) (part : List ℕ) → P reads parts → step (part_of parts j) part → by (joined p.capacity parts) (joined p.capacity (set parts j part)))
        → (a b : Files) → P (parts_in p old.files) (parts_in p a) → OnePart j step a b → LevelBy p by a b
    one_level by go a b held one = subst (λ f. LevelBy p by a f) (sym one.rest)
        (on_one (λ x y. by (joined p.capacity x) (joined p.capacity y)) a j one.part low (go (parts_in p old.files) (parts_in p a) one.part held one.goes))

    pub part_works : (by : List ℕ → List ℕ → Type 0) → ((reads parts : List (List ℕ)) (part : List ℕ) → P reads parts → step (part_of parts j) part → by (joined p.capacity parts) (joined p.capacity (set parts j part)))
        → Works (OnePart j step) old new → Works (LevelBy p by) old new
    part_works by go works = record {
      calls = works.calls;
      remembers = works.remembers;
      changes = record {
        reads = λ t. one_level by go old.files new.files (holds.reads t) (works.changes.reads t);
        leaves = record {
          told = works.changes.leaves.told;
          later = works.changes.leaves.later;
          within = λ told t files le left. ⊎_elim (λ was. inl was) (λ came. inr (came.0, came.1, one_level by go came.0 files (holds.leaves (works.changes.leaves.told told) came.0 came.1) came.2)) (works.changes.leaves.within told t files le left);
          at_end = λ told files left. let came = works.changes.leaves.at_end told files left in (came.0, came.1, one_level by go came.0 files (holds.leaves (works.changes.leaves.told told) came.0 came.1) came.2);
        };
      };
      drafts = works.drafts;
    }

    read_is : (W : List ℕ → Type 0) → IsTrue old.tells → (one : OnePart j step old.files new.files) → W (parity_of new.files (p.first + j)) → W one.part
    read_is W was one w = subst W (ap (λ f. parity_of f (p.first + j)) one.rest ∙ get_or-set_same old.files.parities (p.first + j) one.part [] (omega (arith, within.within, (formed.shape was).files.parities))) w

    pub part_holds_read : (Q : List (List ℕ) → List (List ℕ) → Type 0) (W : List ℕ → Type 0) → Reads (λ files. W (parity_of files (p.first + j))) new
        → ((reads parts : List (List ℕ)) (read part : List ℕ) → P reads reads → P reads parts → step (part_of reads j) read → step (part_of parts j) part → W read → Q (set reads j read) (set parts j part))
        → Works (OnePart j step) old new → HoldsOf p Q new
    part_holds_read Q W written go works = record {
      reads = λ t. let was : IsTrue old.tells = sym works.calls.goes_on.tells ∙ t in
          let one = works.changes.reads was in
          subst (λ x. Q x x) (sym (ap (parts_in p) one.rest ∙ parts_set old.files j one.part low))
          (go (parts_in p old.files) (parts_in p old.files) one.part one.part (holds.reads was) (holds.reads was) one.goes one.goes (read_is W was (works.changes.reads was) (written t)));
      leaves = λ told files left.
          let told_old = works.changes.leaves.told told in
          let was : IsTrue old.tells = formed.tells told_old in
          let one = works.changes.reads was in
          let came = works.changes.leaves.at_end told files left in
          let two = came.2 in
          subst (λ x. Q x (parts_in p files)) (sym (ap (parts_in p) one.rest ∙ parts_set old.files j one.part low))
          (subst (λ y. Q (set (parts_in p old.files) j one.part) y) (sym (ap (parts_in p) two.rest ∙ parts_set came.0 j two.part low))
          (go (parts_in p old.files) (parts_in p came.0) one.part two.part (holds.reads was) (holds.leaves told_old came.0 came.1) one.goes two.goes (read_is W was one (written (works.calls.goes_on.tells ∙ was)))));
    }

    pub part_holds : (Q : List (List ℕ) → List (List ℕ) → Type 0)
        → ((reads parts : List (List ℕ)) (read part : List ℕ) → P reads reads → P reads parts → step (part_of reads j) read → step (part_of parts j) part → Q (set reads j read) (set parts j part))
        → Works (OnePart j step) old new → HoldsOf p Q new
    part_holds Q go works = part_holds_read Q (λ x. Unit {0}) (λ t. tt) (λ reads parts read part a b c d e. go reads parts read part a b c d) works
