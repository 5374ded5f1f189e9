-- The pieces of a copy are read in order, up to the first that is short or fails, and what came is fed.
use Rattle.std.proofs.Common.{◌≡◌, inl, inr, ℕ, ◌+◌, ◌-◌, ◌*◌, ◌<◌, ◌≤◌, min, List, [], ◌∷◌, ◌++◌, length, take, drop, map, true, IsTrue, arith, append-nil, length-append, refl, sym, ◌∙◌, ap, ap₂, subst}
use Rattle.std.specs.List.{range_with_len}
use Rattle.std.proofs.lemmas.List.{length-take}
use Rattle.std.proofs.lemmas.List.FromFn.{map-range_with_len_more}
use Rattle.disk_model.specs.Cause.{Grows}
use Rattle.disk_model.specs.Vault.{VaultView, VaultDone, GoesOn, ContentRead, plain_done}
use Rattle.disk_model.specs.declared.answer.Answer.{Answer}
use Rattle.disk_model.specs.declared.answer.Answer.TheVariants.{Bytes}
use Rattle.content_file.specs.Decoding.{HasFed}
use Rattle.content_file.specs.InOrder.{piece_length, piece_call, piece_done, whole_pieces, FeedsToEnd, StopsAtPiece}
use Rattle.content_file.specs.Load.{most_read}
use Rattle.content_file.specs.declared.decoder.Decoder.{Decoder}
use Rattle.content_file.proofs.LoadCounts.{grown_then, grown_none}

-- so many pieces came whole, and a decoder was fed them
pub record FeedsWhole (copy size : ℕ) (old now : VaultView) (decoder : Decoder) (at : ℕ) : Type 0 where
  pub whole : ℕ
  pub begun : whole * most_read < size + most_read
  pub at_is : at ≡ min (whole * most_read) size
  pub bytes : List ℕ
  pub fed : HasFed decoder bytes
  pub long : length bytes ≡ at
  pub grown : Grows old.tells_calls old.calls now.tells_calls now.calls (whole_pieces copy size whole)

pub whole_none : (copy size : ℕ) (v : VaultView) (decoder : Decoder) → HasFed decoder [] → FeedsWhole copy size v v decoder 0
whole_none copy size v decoder fresh = record {
  whole = 0;
  begun = omega arith;
  at_is = omega arith;
  bytes = [];
  fed = fresh;
  long = refl;
  grown = grown_none v;
}

-- the call that was made is the one for the next piece
abbrev read_done : ℕ → ℕ → ℕ → Answer → VaultDone
read_done copy at n answer = record { call = ContentRead copy at n; answer = answer }

abbrev next_done : ℕ → ℕ → ℕ → Answer → VaultDone
next_done copy size whole answer = record { call = piece_call copy size whole; answer = answer }

module _ (copy size : ℕ) (old mid new : VaultView) (before : Decoder) (at asked : ℕ) (answer : Answer) (one : FeedsWhole copy size old mid before at) (more : at < size)
    (asked_is : asked ≡ min most_read (size - at)) (goes_on : GoesOn mid new (read_done copy at asked answer ∷ [])) where
  at_piece : at ≡ one.whole * most_read
  at_piece = omega (arith, one.at_is, more)

  asks_piece : asked ≡ piece_length size one.whole
  asks_piece = omega (arith, asked_is, at_piece)

  call_is : read_done copy at asked answer ≡ next_done copy size one.whole answer
  call_is = ap₂ (λ (a n : ℕ). read_done copy a n answer) at_piece asks_piece

  grown_on : Grows old.tells_calls old.calls new.tells_calls new.calls (whole_pieces copy size one.whole ++ next_done copy size one.whole answer ∷ [])
  grown_on = subst (λ (d : VaultDone). Grows old.tells_calls old.calls new.tells_calls new.calls (whole_pieces copy size one.whole ++ d ∷ [])) call_is
      (grown_then old mid new (whole_pieces copy size one.whole) (read_done copy at asked answer ∷ []) one.grown goes_on.calls)

-- it failed
pub stops_here : (copy size : ℕ) (old mid new : VaultView) (before : Decoder) (at asked : ℕ) → FeedsWhole copy size old mid before at → at < size → asked ≡ min most_read (size - at)
    → GoesOn mid new (plain_done (ContentRead copy at asked) true ∷ []) → StopsAtPiece copy size old new
stops_here copy size old mid new before at asked one more asked_is goes_on = record {
  done = whole_pieces copy size one.whole ++ plain_done (piece_call copy size one.whole) true ∷ [];
  grown = grown_on copy size old mid new before at asked _ one more asked_is goes_on;
  fails = record { whole = one.whole; more = omega (arith, one.at_is, more); calls = refl };
}

-- the bytes that came behind the first ones
abbrev came : ℕ → List ℕ → List ℕ → List ℕ
came count out rest = take count (out ++ rest)

length-came : (count : ℕ) (out rest : List ℕ) → count ≤ length out → length (came count out rest) ≡ count
length-came count out rest bound = omega (arith, bound, length-take count (out ++ rest), length-append out rest)

module _ (copy size : ℕ) (old mid new : VaultView) (before after : Decoder) (at asked count : ℕ) (out rest : List ℕ) (one : FeedsWhole copy size old mid before at) (more : at < size)
    (asked_is : asked ≡ min most_read (size - at)) (bound : count ≤ length out) (goes_on : GoesOn mid new (read_done copy at asked (Bytes count) ∷ []))
    (feeds : (bytes : List ℕ) → HasFed before bytes → HasFed after (bytes ++ came count out rest)) where
  long_on : length (one.bytes ++ came count out rest) ≡ at + count
  long_on = omega (arith, length-append one.bytes (came count out rest), length-came count out rest bound, one.long)

  -- fewer bytes came than were asked for
  pub ends_short : count < asked → FeedsToEnd copy size after old new
  ends_short short = record {
    bytes = one.bytes ++ came count out rest;
    fed = feeds one.bytes one.fed;
    done = whole_pieces copy size one.whole ++ piece_done copy size one.whole count ∷ [];
    grown = grown_on copy size old mid new before at asked (Bytes count) one more asked_is goes_on;
    end = record {
      whole = one.whole;
      last = piece_done copy size one.whole count ∷ [];
      calls = refl;
      end = inr (record {
        got = count;
        piece = refl;
        short = omega (arith, short, asked_is, one.at_is, more);
        all = omega (arith, long_on, one.at_is, more);
      });
    };
  }

  -- all came
  pub whole_more : count ≡ asked → FeedsWhole copy size old new after (at + count)
  whole_more all =
      let count_is : count ≡ piece_length size one.whole = omega (arith, all, asked_is, one.at_is, more) in
      let calls : whole_pieces copy size one.whole ++ piece_done copy size one.whole count ∷ [] ≡ whole_pieces copy size (one.whole + 1) =
      ap (λ (n : ℕ). whole_pieces copy size one.whole ++ piece_done copy size one.whole n ∷ []) count_is
      ∙ sym (map-range_with_len_more (λ (k : ℕ). piece_done copy size k (piece_length size k)) 0 one.whole one.whole (omega arith)) in
      record {
        whole = one.whole + 1;
        begun = omega (arith, one.at_is, more);
        at_is = omega (arith, count_is, one.at_is, more);
        bytes = one.bytes ++ came count out rest;
        fed = feeds one.bytes one.fed;
        long = long_on;
        grown = subst (λ (calls : List VaultDone). Grows old.tells_calls old.calls new.tells_calls new.calls calls) calls
            (grown_on copy size old mid new before at asked (Bytes count) one more asked_is goes_on);
      }

-- the size is reached
pub ends_whole : (copy size : ℕ) (old now : VaultView) (decoder : Decoder) (at : ℕ) → FeedsWhole copy size old now decoder at → size ≤ at → FeedsToEnd copy size decoder old now
ends_whole copy size old now decoder at one reached = record {
  bytes = one.bytes;
  fed = one.fed;
  done = whole_pieces copy size one.whole;
  grown = one.grown;
  end = record {
    whole = one.whole;
    last = [];
    calls = sym (append-nil (whole_pieces copy size one.whole));
    end = inl (record {
      nothing = refl;
      reached = omega (arith, one.at_is, reached);
      begun = one.begun;
      all = omega (arith, one.long, one.at_is, reached);
    });
  };
}
