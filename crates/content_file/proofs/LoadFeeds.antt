-- A copy is read piece by piece, and a decoder is fed with it.
use Rattle.std.proofs.Common.{◌≡◌, inr, ℕ, ◌+◌, ◌-◌, ◌<◌, ◌≤◌, min, List, [], ◌++◌, length, take, drop, false, IsTrue, Option, None, Some, Result, Ok, Err, refl, sym, ap, subst, ◌∙◌, arith}
use Rattle.std.specs.Prelude.{unwrap_or}
use Rattle.std.proofs.lemmas.List.{length-take, length-drop, take-take, take-append-drop, take-append-le, drop-take}
use Rattle.disk_model.specs.Answer.{is_failure, size_answer}
use Rattle.disk_model.specs.Bytes.{read_from}
use Rattle.disk_model.specs.Files.{Stays, content_of}
use Rattle.disk_model.specs.Vault.{VaultView, VaultCall, ChangesBy, ContentRead, IsReading, copies_of}
use Rattle.disk_model.specs.declared.answer.Answer.{Answer}
use Rattle.disk_model.specs.declared.answer.Answer.TheVariants.{Bytes}
use Rattle.disk_model.specs.declared.fault.Failed.{Failed}
use Rattle.disk_model.proofs.CallsLemmas.{only_none, only_one, only_then}
use Rattle.disk_model.proofs.VaultLemmas.{no_calls, calls_then, one_call, changes_start}
use Rattle.content_file.specs.declared.decoder.Decoder.{Decoder}
use Rattle.file_table.specs.Table.{TableValue}
use Rattle.file_table.specs.Valid.{IsValid}
use Rattle.content_file.specs.declared.fault.DecodeFault.{DecodeFault}
use Rattle.content_file.specs.declared.fault.DecodeFault.TheVariants as faults
use Rattle.content_file.specs.Decoding.{HasFed, IsFaultOf}
use Rattle.content_file.specs.Flaw.{Damage}
use Rattle.content_file.specs.Load.{most_read, IsReadOf, ReadsCopy, IsFedAll, IsFedBy, IsCopyOf, HasDamage, HasFailed, NoneFailed}
use Rattle.content_file.specs.Spelling.{spelling}
use Rattle.content_file.proofs.LoadLemmas.{failed_last, none_failed_then, one_not_failed}
use Rattle.content_file.proofs.LoadLoop.{stays_on, drafts_on, content_then}

-- ---- calls that read one copy

pub reads_none : (copy : ℕ) (v : VaultView) → ReadsCopy copy v v
reads_none copy v = record { calls = no_calls v; made = only_none (IsReadOf copy) v; changes = changes_start Stays v (λ files. refl); drafts = record { state = refl; bytes = λ told. refl } }

pub reads_then : (copy : ℕ) (old mid new : VaultView) → ReadsCopy copy old mid → ReadsCopy copy mid new → ReadsCopy copy old new
reads_then copy old mid new one two =
    let tells : mid.tells ≡ old.tells = one.calls.goes_on.tells in
    record {
      calls = calls_then old mid new one.calls two.calls;
      made = only_then (IsReadOf copy) old mid new one.made two.made;
      changes = stays_on old mid new tells one.changes two.changes;
      drafts = drafts_on old mid new tells one.drafts two.drafts;
    }

pub reads_one : {T : Type 0} (copy : ℕ) (call : VaultCall) (gives : T → Answer) (result : Result T Failed) (old new : VaultView) → IsReadOf copy call → IsReading call gives result old new → ReadsCopy copy old new
reads_one copy call gives result old new is one = record {
  calls = one_call old new _ one.called.goes_on;
  made = only_one (IsReadOf copy) old new call _ is one.called.goes_on;
  changes = one.changes;
  drafts = one.drafts;
}

pub quiet_one : {T : Type 0} (call : VaultCall) (gives : T → Answer) (x : T) (old new : VaultView) → is_failure (gives x) ≡ false → IsReading call gives (Ok x) old new → NoneFailed old new
quiet_one call gives x old new well one = one_not_failed old new call (gives x) well one.called.goes_on

-- a copy's size is no failure
pub size_answered : (size : Option ℕ) → is_failure (size_answer size) ≡ false
size_answered None = refl
size_answered (Some n) = refl

pub fails_last : {T : Type 0} (copy : ℕ) (call : VaultCall) (gives : T → Answer) (failed : Failed) (old mid new : VaultView) → copy < copies_of old → IsReadOf copy call → ReadsCopy copy old mid → IsReading {T = T} call gives (Err failed) mid new
    → HasFailed old new copy
fails_last copy call gives failed old mid new within is one two = failed_last old mid new call copy one.calls two.called.goes_on two.called.cause within is

pub read_piece : (copy at n : ℕ) → n ≤ most_read → IsReadOf copy (ContentRead copy at n)
read_piece copy at n few = inr (at, n, few, refl)

-- a front of the buffer is short enough
pub asked_few : (buffer : List ℕ) (want : ℕ) → length buffer ≡ most_read → length (take want buffer) ≤ most_read
asked_few buffer want room = omega (arith, length-take want buffer, room)

-- ---- the pieces

-- so many bytes of a copy were read, and a decoder was fed them
pub record FeedsCopy (copy size : ℕ) (old now : VaultView) (decoder : Decoder) (at : ℕ) : Type 0 where
  pub reads : ReadsCopy copy old now
  pub none_failed : NoneFailed old now
  pub fed : IsTrue old.tells → (bytes : List ℕ) → content_of old.files copy ≡ Some bytes → length bytes ≡ size → HasFed decoder (take at bytes)

-- the bytes that a read gave of a copy that is told
piece_read : (copy at want : ℕ) (old mid : VaultView) (bytes piece : List ℕ) → ChangesBy Stays old mid → IsTrue old.tells → content_of old.files copy ≡ Some bytes
    → piece ≡ read_from (unwrap_or (content_of mid.files copy) []) at want → piece ≡ take want (drop at bytes)
piece_read copy at want old mid bytes piece changes told held read =
    read ∙ ap (λ (o : Option (List ℕ)). read_from (unwrap_or o []) at want) (content_then old mid copy changes told ∙ held)

whole_piece : (at want : ℕ) (bytes out : List ℕ) (count : ℕ) → at + want ≤ length bytes → count ≤ length out → take count out ≡ take want (drop at bytes) → count ≡ want
whole_piece at want bytes out count within bound e =
    omega (arith, ap length e, length-take count out, length-take want (drop at bytes), length-drop at bytes, within, bound)

-- the next bytes follow the first ones
take-more : (at n : ℕ) (bytes : List ℕ) → take at bytes ++ take n (drop at bytes) ≡ take (at + n) bytes
take-more at n bytes =
    ap (λ (b : List ℕ). take at bytes ++ b) (sym (drop-take at n bytes)) ∙ ap (λ (b : List ℕ). b ++ drop at (take (at + n) bytes)) (sym (take-take at (at + n) bytes (omega arith))) ∙ take-append-drop at (take (at + n) bytes)

-- One more piece: a front of the buffer was asked for, and what came was fed.
pub record FeedsPiece (copy size : ℕ) (old mid new : VaultView) (before after : Decoder) (at want count : ℕ) (buffer out : List ℕ) : Type 0 where
  pub one : FeedsCopy copy size old mid before at
  pub more : at < size
  pub room : length buffer ≡ most_read
  pub want_is : want ≡ min (length buffer) (size - at)
  pub call : IsReading (ContentRead copy at (length (take want buffer))) Bytes (Ok count) mid new
  pub found : IsTrue mid.tells → take count out ≡ read_from (unwrap_or (content_of mid.files copy) []) at (length (take want buffer))
  pub bound : count ≤ length out
  pub feeds : (bytes : List ℕ) → HasFed before bytes → HasFed after (bytes ++ take count (out ++ drop want buffer))

module _ (copy size : ℕ) (old mid new : VaultView) (before after : Decoder) (at want count : ℕ) (buffer out : List ℕ) (piece : FeedsPiece copy size old mid new before after at want count buffer out) where
  abbrev asked : ℕ
  asked = length (take want buffer)

  asked_is : asked ≡ want
  asked_is = omega (arith, length-take want buffer, piece.want_is)

  few : asked ≤ most_read
  few = asked_few buffer want piece.room

  within : at + asked ≤ size
  within = omega (arith, asked_is, piece.want_is, piece.more)

  pub piece_reads : ReadsCopy copy old new
  piece_reads = reads_then copy old mid new piece.one.reads (reads_one copy (ContentRead copy at asked) Bytes (Ok count) mid new (read_piece copy at asked few) piece.call)

  pub piece_quiet : NoneFailed old new
  piece_quiet = none_failed_then old mid new piece.one.none_failed (quiet_one (ContentRead copy at asked) Bytes count mid new refl piece.call)

  found_in : IsTrue old.tells → (bytes : List ℕ) → content_of old.files copy ≡ Some bytes → take count out ≡ take asked (drop at bytes)
  found_in told bytes held =
      let tells : mid.tells ≡ old.tells = piece.one.reads.calls.goes_on.tells in
      piece_read copy at asked old mid bytes (take count out) piece.one.reads.changes told held (piece.found (tells ∙ told))

  came : IsTrue old.tells → (bytes : List ℕ) → content_of old.files copy ≡ Some bytes → take count (out ++ drop want buffer) ≡ take asked (drop at bytes)
  came told bytes held = take-append-le count out (drop want buffer) piece.bound ∙ found_in told bytes held

  pub feeds_more : want ≤ count → FeedsCopy copy size old new after (at + count)
  feeds_more whole =
      let long : (IsTrue old.tells) → (bytes : List ℕ) → content_of old.files copy ≡ Some bytes → length bytes ≡ size → count ≡ asked = λ told bytes held same.
      whole_piece at asked bytes out count (omega (arith, within, same)) piece.bound (found_in told bytes held) in
      record {
        reads = piece_reads;
        none_failed = piece_quiet;
        fed = λ told bytes held same.
            subst (HasFed after) (ap (λ (p : List ℕ). take at bytes ++ p) (came told bytes held ∙ ap (λ (n : ℕ). take n (drop at bytes)) (sym (long told bytes held same))) ∙ take-more at count bytes)
            (piece.feeds (take at bytes) (piece.one.fed told bytes held same));
      }

  -- a vault that tells its bytes gives as many as it has
  pub never_short : count < want → IsTrue old.tells → IsFedAll (content_of old.files copy) size after
  never_short short told bytes held same =
      absurd (omega (arith, short, asked_is, whole_piece at asked bytes out count (omega (arith, within, same)) piece.bound (found_in told bytes held)))

-- ---- what the decoder gives

fed_bytes : (v : VaultView) (copy : ℕ) (held : Option Decoder) (decoder : Decoder) → held ≡ Some decoder → (IsTrue v.tells → IsFedBy held (content_of v.files copy)) → IsTrue v.tells
    → (bytes : List ℕ) × (content_of v.files copy ≡ Some bytes) × HasFed decoder bytes
fed_bytes v copy held decoder is found told = subst (λ (o : Option Decoder). IsFedBy o (content_of v.files copy)) is (found told)

pub gives_table : (v : VaultView) (copy : ℕ) (held : Option Decoder) (decoder : Decoder) (table : TableValue) → held ≡ Some decoder → (IsTrue v.tells → IsFedBy held (content_of v.files copy)) → IsValid table
    → ((fed : List ℕ) → HasFed decoder fed → IsValid table × (fed ≡ spelling table)) → IsCopyOf v copy (Some table)
gives_table v copy held decoder table is found valid answer =
    (valid, λ told. let fed = fed_bytes v copy held decoder is found told in fed.1 ∙ ap (λ (b : List ℕ). Some b) (answer fed.0 fed.2).1)

pub gives_damage : (v : VaultView) (copy : ℕ) (held : Option Decoder) (decoder : Decoder) (refusal : DecodeFault) (flaw : Damage) → held ≡ Some decoder → (IsTrue v.tells → IsFedBy held (content_of v.files copy))
    → refusal ≡ faults.Damaged flaw → ((fed : List ℕ) → HasFed decoder fed → IsFaultOf fed refusal) → IsTrue v.tells → HasDamage v copy flaw
gives_damage v copy held decoder refusal flaw is found same answer told =
    let fed = fed_bytes v copy held decoder is found told in
    record { bytes = fed.0; held = fed.1; flaw = subst (IsFaultOf fed.0) same (answer fed.0 fed.2) }
