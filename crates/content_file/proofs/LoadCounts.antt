-- How often a copy is asked for: its size, and pieces of it.
use Rattle.std.proofs.Common.{◌≡◌, ◌≢◌, inl, inr, ℕ, ◌+◌, ◌-◌, ◌*◌, ◌<◌, ◌≤◌, min, List, [], ◌∷◌, ◌++◌, length, Bool, cond, IsTrue, Option, None, Some, Result, arith, eq-eqb, refl, sym, ◌∙◌, ap, subst, append_assoc, append-nil}
use Rattle.std.specs.Option.{option_map}
use Rattle.std.specs.Prelude.{◌==◌}
use Rattle.std.proofs.lemmas.Bool.Decides.{Decides-eqb, eqb_tells}
use Rattle.std.proofs.lemmas.List.Sums.{sum_by-append}
use Rattle.disk_model.specs.Answer.{vault_answer}
use Rattle.disk_model.specs.Cause.{Grows}
use Rattle.disk_model.specs.Files.{Stays, content_of}
use Rattle.disk_model.specs.Vault.{VaultView, VaultDone, GoesOn, ChangesBy, IsReading, ContentSize, ContentRead}
use Rattle.disk_model.specs.declared.answer.Answer.{Answer}
use Rattle.disk_model.specs.declared.fault.Failed.{Failed}
use Rattle.content_file.specs.Load.{most_read, is_size_of, is_piece_of, sizes_of, pieces_of, AsksNothing, most_pieces, most_pieces_of, ReadsPieces, ReadsCopyInPieces, ReadsInPieces}
use Rattle.content_file.proofs.Fields.{some_is}
use Rattle.content_file.proofs.FieldLemmas.{decides_false}
use Rattle.content_file.proofs.LoadLoop.{content_then}

-- ---- calls in a row

sizes_of-append : (copy : ℕ) (first second : List VaultDone) → sizes_of copy (first ++ second) ≡ sizes_of copy first + sizes_of copy second
sizes_of-append copy first second = sum_by-append (λ (d : VaultDone). cond (is_size_of copy d.call) 1 0) first second

pieces_of-append : (copy : ℕ) (first second : List VaultDone) → pieces_of copy (first ++ second) ≡ pieces_of copy first + pieces_of copy second
pieces_of-append copy first second = sum_by-append (λ (d : VaultDone). cond (is_piece_of copy d.call) 1 0) first second

nothing_then : (copy : ℕ) (first second : List VaultDone) → AsksNothing copy first → AsksNothing copy second → AsksNothing copy (first ++ second)
nothing_then copy first second one two = record {
  size = omega (arith, sizes_of-append copy first second, one.size, two.size);
  pieces = omega (arith, pieces_of-append copy first second, one.pieces, two.pieces);
}

nothing_none : (copy : ℕ) → AsksNothing copy []
nothing_none copy = record { size = refl; pieces = refl }

pub grown_then : (old mid new : VaultView) (first second : List VaultDone) → Grows old.tells_calls old.calls mid.tells_calls mid.calls first → Grows mid.tells_calls mid.calls new.tells_calls new.calls second
    → Grows old.tells_calls old.calls new.tells_calls new.calls (first ++ second)
grown_then old mid new first second one two = record {
  told = λ t. one.told (two.told t);
  more = λ t. two.more t ∙ ap (λ cs. cs ++ second) (one.more (two.told t)) ∙ append_assoc old.calls first second;
}

pub grown_none : (v : VaultView) → Grows v.tells_calls v.calls v.tells_calls v.calls []
grown_none v = record { told = λ t. t; more = λ t. sym (append-nil v.calls) }

-- ---- one copy, piece by piece

-- the call of one piece
abbrev piece : ℕ → ℕ → ℕ → Answer → List VaultDone
piece copy at n answer = record { call = ContentRead copy at n; answer = answer } ∷ []

one_piece : (copy at n : ℕ) (answer : Answer) → pieces_of copy (piece copy at n answer) ≡ 1
one_piece copy at n answer = ap (λ (b : Bool). 0 + cond b 1 0) (eq-eqb copy copy refl)

size_not_asked : (copy k at n : ℕ) (answer : Answer) → sizes_of k (piece copy at n answer) ≡ 0
size_not_asked copy k at n answer = refl

no_piece : (copy k at n : ℕ) (answer : Answer) → k ≢ copy → AsksNothing k (piece copy at n answer)
no_piece copy k at n answer other = record { size = size_not_asked copy k at n answer; pieces = ap (λ (b : Bool). 0 + cond b 1 0) (decides_false (copy == k) (Decides-eqb copy k) (λ same. other (sym same))) }

-- So many bytes of a copy were read, in whole pieces where more is to come.
pub record CountsPieces (copy size : ℕ) (old now : VaultView) (at : ℕ) : Type 0 where
  pub reads : ReadsPieces copy (most_pieces size) old now
  pub whole : at < size → pieces_of copy reads.done * most_read ≤ at

pub counts_none : (copy size : ℕ) (v : VaultView) → CountsPieces copy size v v 0
counts_none copy size v = record { reads = record { done = []; grown = grown_none v; size = refl; few = omega arith; others = λ k other. nothing_none k }; whole = λ more. omega arith }

module _ (copy size : ℕ) (old mid new : VaultView) (at n : ℕ) (answer : Answer) (before : CountsPieces copy size old mid at) (more : at < size) (goes_on : GoesOn mid new (piece copy at n answer)) where
  abbrev calls : List VaultDone
  calls = before.reads.done ++ piece copy at n answer

  counted : pieces_of copy calls ≡ pieces_of copy before.reads.done + 1
  counted = pieces_of-append copy before.reads.done _ ∙ ap (λ (m : ℕ). pieces_of copy before.reads.done + m) (one_piece copy at n answer)

  abbrev with_piece : ReadsPieces copy (most_pieces size) old new
  with_piece = record {
    done = calls;
    grown = grown_then old mid new _ _ before.reads.grown goes_on.calls;
    size = omega (arith, sizes_of-append copy before.reads.done (piece copy at n answer), size_not_asked copy copy at n answer, before.reads.size);
    few = omega (arith, counted, before.whole more, more);
    others = λ k other. nothing_then k before.reads.done _ (before.reads.others k other) (no_piece copy k at n answer other);
  }

  pub piece_more : ReadsPieces copy (most_pieces size) old new
  piece_more = with_piece

  pub counts_more : (want count : ℕ) → want ≡ min most_read (size - at) → want ≤ count → CountsPieces copy size old new (at + count)
  counts_more want count want_is whole = record { reads = with_piece; whole = λ still. omega (arith, counted, before.whole more, want_is, whole, still) }

-- ---- one copy, with its size

-- the call that asks a size
abbrev size_asked : ℕ → Answer → List VaultDone
size_asked copy answer = record { call = ContentSize copy; answer = answer } ∷ []

one_size : (copy : ℕ) (answer : Answer) → sizes_of copy (size_asked copy answer) ≡ 1
one_size copy answer = ap (λ (b : Bool). 0 + cond b 1 0) (eq-eqb copy copy refl)

no_size : (copy k : ℕ) (answer : Answer) → k ≢ copy → AsksNothing k (size_asked copy answer)
no_size copy k answer other = record { size = ap (λ (b : Bool). 0 + cond b 1 0) (decides_false (copy == k) (Decides-eqb copy k) (λ same. other (sym same))); pieces = refl }

-- its size alone was asked
pub size_alone : {T : Type 0} (copy : ℕ) (gives : T → Answer) (result : Result T Failed) (old new : VaultView) → IsReading (ContentSize copy) gives result old new → ReadsCopyInPieces copy old new
size_alone copy gives result old new asked = record {
  done = size_asked copy (vault_answer gives result);
  grown = asked.called.goes_on.calls;
  size = omega (arith, one_size copy (vault_answer gives result));
  few = λ told. omega arith;
  others = λ k other. no_size copy k (vault_answer gives result) other;
}

-- a copy whose size was answered is there
pieces_for : (held : Option (List ℕ)) (size : ℕ) → Some size ≡ option_map length held → most_pieces size ≡ most_pieces_of held
pieces_for None size is = absurd (cc)
pieces_for (Some bytes) size is = ap most_pieces (some_is size (length bytes) is)

-- its size was asked, and then its pieces were read
pub size_then_pieces : {T : Type 0} (copy size : ℕ) (gives : T → Answer) (result : Result T Failed) (found : Option ℕ) (old mid new : VaultView) → IsReading (ContentSize copy) gives result old mid
    → (IsTrue old.tells → found ≡ option_map length (content_of old.files copy)) → found ≡ Some size → ReadsPieces copy (most_pieces size) mid new → ReadsCopyInPieces copy old new
size_then_pieces copy size gives result found old mid new asked told_size some pieces =
    let first : List VaultDone = size_asked copy (vault_answer gives result) in
    record {
      done = first ++ pieces.done;
      grown = grown_then old mid new _ _ asked.called.goes_on.calls pieces.grown;
      size = omega (arith, sizes_of-append copy first pieces.done, one_size copy (vault_answer gives result), pieces.size);
      few = λ told. omega (arith, pieces_of-append copy first pieces.done, pieces.few, pieces_for (content_of old.files copy) size (sym some ∙ told_size told));
      others = λ k other. nothing_then k first pieces.done (no_size copy k (vault_answer gives result) other) (pieces.others k other);
    }

-- ---- the first copies

pub pieces_none : (v : VaultView) → ReadsInPieces 0 v v
pieces_none v = record { done = []; grown = grown_none v; size = λ k. omega arith; few = λ told k. omega arith; others = λ k le. nothing_none k }

-- and one more
module _ (copies : ℕ) (old mid new : VaultView) (one : ReadsInPieces copies old mid) (two : ReadsCopyInPieces copies mid new) where
  size_on : (k : ℕ) → sizes_of k (one.done ++ two.done) ≤ 1
  size_on k = elim (eqb_tells k copies) [
    | inl same ↦ omega (arith, sizes_of-append k one.done two.done, (one.others k (omega (arith, same.1))).size, two.size, ap (λ (c : ℕ). sizes_of c two.done) same.1)
    | inr other ↦ omega (arith, sizes_of-append k one.done two.done, one.size k, (two.others k other.1).size)
  ]

  few_on : mid.tells ≡ old.tells → ChangesBy Stays old mid → IsTrue old.tells → (k : ℕ) → pieces_of k (one.done ++ two.done) ≤ most_pieces_of (content_of old.files k)
  few_on tells stays told k = elim (eqb_tells k copies) [
    | inl same ↦
        let held : content_of mid.files copies ≡ content_of old.files k = ap (λ (c : ℕ). content_of mid.files c) (sym same.1) ∙ content_then old mid k stays told in
        let here : pieces_of copies two.done ≤ most_pieces_of (content_of old.files k) = subst (λ (o : Option (List ℕ)). pieces_of copies two.done ≤ most_pieces_of o) held (two.few (tells ∙ told)) in
        omega (arith, pieces_of-append k one.done two.done, (one.others k (omega (arith, same.1))).pieces, here, ap (λ (c : ℕ). pieces_of c two.done) same.1)
    | inr other ↦ omega (arith, pieces_of-append k one.done two.done, one.few told k, (two.others k other.1).pieces)
  ]

  pub pieces_then : mid.tells ≡ old.tells → ChangesBy Stays old mid → ReadsInPieces (copies + 1) old new
  pieces_then tells stays = record {
    done = one.done ++ two.done;
    grown = grown_then old mid new _ _ one.grown two.grown;
    size = size_on;
    few = few_on tells stays;
    others = λ k le. nothing_then k one.done two.done (one.others k (omega (arith, le))) (two.others k (λ same. omega (arith, same, le)));
  }

-- of more copies
pub pieces_all : (some all : ℕ) (old new : VaultView) → some ≤ all → ReadsInPieces some old new → ReadsInPieces all old new
pieces_all some all old new le reads = record { done = reads.done; grown = reads.grown; size = reads.size; few = reads.few; others = λ k past. reads.others k (omega (arith, le, past)) }
