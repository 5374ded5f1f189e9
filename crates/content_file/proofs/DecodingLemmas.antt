-- What is kept of the bytes that a decoder was fed, and what its answers tell of them.
use Rattle.std.proofs.Common.{◌≡◌, ◌≢◌, ◌⊎◌, inl, inr, ℕ, ◌+◌, ◌-◌, ◌<◌, ◌≤◌, Bool, true, false, List, [], ◌∷◌, ◌++◌, length, get_or, take, drop, Option, Some, None, Result, Ok, Err, refl, sym, ap, subst, ◌∙◌, append_assoc, append-nil, arith, All, IfErr, OnOk}
use Rattle.std.specs.Prelude.{IsSome, bytes_eq, IfOk, nat_eq}
use Rattle.std.proofs.lemmas.Bool.Decides.{Decides-eqb}
use Rattle.std.proofs.lemmas.List.{get_or_default, length-append, length-drop, take_at, drop_at}
use Rattle.std.proofs.lemmas.List.Elements.{All-append}
use Rattle.std.proofs.lemmas.Slice.Eq.{bytes_eq-Decides}
use Rattle.sha2.specs.Sha256.{sha256}
use Rattle.sha2.specs.Hashers.{Holds256}
use Rattle.file_table.specs.Table.{TableValue}
use Rattle.content_file.specs.declared.decoder.Decoder.{Decoder}
use Rattle.content_file.specs.declared.fault.DecodeFault.{DecodeFault}
use Rattle.content_file.specs.declared.fault.DecodeFault.TheVariants as faults
use Rattle.content_file.specs.declared.fault.Refusal.{Refusal}
use Rattle.content_file.specs.declared.fault.Refusal.TheVariants as refusals
use Rattle.content_file.specs.Flaw.{Short, Length, Digest, Extra, Damage, Good, Bad, and_then, found_or, passed_or, damage_of}
use Rattle.content_file.specs.FirstFlaw.{first_flaw, read_content, read_head, read_magic, read_end}
use Rattle.content_file.specs.Giving.{Refuses}
use Rattle.content_file.specs.Reading.{piece_at}
use Rattle.content_file.specs.ReadingOn.{BodyValue, read_body, read_rest}
use Rattle.content_file.specs.Body.{EndsIn, GoesOn, IsAtEnd, table_of}
use Rattle.content_file.specs.Decoding.{IsFaultOf, Decodes, MayGoOn, IsRefused, IsCut, FeedsFront, IsPlace, IsHolding, HasFed, IsKept, told, StopsOn, EndsWith, ReadsFields, ReadsWhole}
use Rattle.content_file.specs.Spelling.{spelling, IsContent}
use Rattle.content_file.proofs.ReadContent.{none_from_content}
use Rattle.content_file.proofs.Fields.{some_is}
use Rattle.content_file.proofs.FlawStays.{flaw_stays}
use Rattle.content_file.proofs.TakenContent.{content_taken, bytes_fit}
use Rattle.content_file.proofs.Fronts.{All-left}
use Rattle.content_file.proofs.StepLemmas.{then_is, then_bad}
use Rattle.content_file.proofs.FieldLemmas.{decides_false}
use Rattle.content_file.proofs.Starts.{head_stop}
use Rattle.content_file.proofs.SameReading.{content_same}

-- ---- a place in the bytes

pub start_stops : (bytes : List ℕ) (refusal : Refusal) → Refuses refusal (read_head bytes) → StopsOn None bytes (Err refusal)
start_stops bytes (refusals.Flawed why field) read = head_stop bytes (refusals.Flawed why field) read
start_stops bytes refusals.Length read = absurd read
start_stops bytes refusals.Memory read = tt

-- ---- no bytes

nothing_read : read_content [] ≡ Bad Short []
unfolding read_content read_head read_magic and_then found_or
nothing_read = refl

pub nothing_may_go_on : MayGoOn []
nothing_may_go_on damage e =
    let here : Damage = record { offset = 0; why = Short } in
    let known : first_flaw [] ≡ Some here = ap (damage_of []) nothing_read in
    sym (ap (λ (d : Damage). d.why) (some_is here damage (sym known ∙ e)))

pub first_holding : (decoder : Decoder) → decoder.body ≡ None → decoder.held.items ≡ [] → decoder.fed ≡ 0 → Holds256 decoder.hasher [] → IsHolding decoder []
first_holding decoder body held count hashed = record {
  read = [];
  parts = sym held;
  hashed = hashed;
  counted = count;
  place = rw body tt;
  goes = λ more. rw (body, held) (content_same more);
}

-- ---- what was read of the bytes held

-- the front of bytes that end with others
front_is : (bytes rest : List ℕ) (ends : EndsIn bytes rest) → (take (length bytes - length rest) bytes ≡ ends.before) × (drop (length bytes - length rest) bytes ≡ rest)
front_is bytes rest ends =
    let count : length bytes - length rest ≡ length ends.before = omega (arith, ap length ends.parts, length-append ends.before rest) in (
      ap (λ (b : List ℕ). take (length bytes - length rest) b) ends.parts ∙ take_at ends.before rest (length bytes - length rest) (sym count),
      ap (λ (b : List ℕ). drop (length bytes - length rest) b) ends.parts ∙ drop_at ends.before rest (length bytes - length rest) (sym count),
    )

pub place_then : (old new : Option BodyValue) (bytes rest : List ℕ) (count : ℕ) → IsPlace old count → (IsSome new → IsSome old ⊎ (length rest + 30 ≤ length bytes)) → IsPlace new (count + (length bytes - length rest))
place_then old None bytes rest count place long = tt
place_then None (Some body) bytes rest count place long = elim (long refl) [ inl some ↦ absurd cc | inr more ↦ omega (arith, more) ]
place_then (Some before) (Some body) bytes rest count place long = omega (arith, place)

-- after a reading, where what was read was hashed and dropped
pub read_on_holding : (old new : Decoder) (fed rest : List ℕ) → IsHolding old fed → GoesOn old.body old.held.items new.body rest → (IsSome new.body → IsSome old.body ⊎ (length rest + 30 ≤ length old.held.items))
    → new.held.items ≡ drop (length old.held.items - length rest) old.held.items
    → ((m : List ℕ) → Holds256 old.hasher m → Holds256 new.hasher (m ++ take (length old.held.items - length rest) old.held.items)) → new.fed ≡ old.fed → IsHolding new fed
read_on_holding old new fed rest is goes long held hashed count =
    let bytes = old.held.items in
    let front = front_is bytes rest goes.ends in
    let before = goes.ends.before in
    let kept : new.held.items ≡ rest = held ∙ front.1 in
    let place = place_then old.body new.body bytes rest (length is.read) is.place long in
    let longer : length is.read + (length bytes - length rest) ≡ length (is.read ++ before) = omega (arith, length-append is.read before, ap length goes.ends.parts, length-append before rest) in
    record {
      read = is.read ++ before;
      parts = is.parts ∙ ap (λ (b : List ℕ). is.read ++ b) goes.ends.parts ∙ sym (append_assoc is.read before rest) ∙ ap (λ (b : List ℕ). (is.read ++ before) ++ b) (sym kept);
      hashed = subst (λ (b : List ℕ). Holds256 new.hasher (is.read ++ b)) front.0 (hashed is.read is.hashed);
      counted = count ∙ is.counted;
      place = subst (IsPlace new.body) longer place;
      goes = λ more. is.goes more ∙ goes.goes (fed ++ more) more ∙ ap (λ (b : List ℕ). read_rest new.body (fed ++ more) (b ++ more)) (sym kept);
    }

-- with no more bytes
pub reads_here : (decoder : Decoder) (fed : List ℕ) → IsHolding decoder fed → read_content fed ≡ read_rest decoder.body fed decoder.held.items
reads_here decoder fed is =
    ap read_content (sym (append-nil fed)) ∙ is.goes []
    ∙ ap (λ (b : List ℕ). read_rest decoder.body b (decoder.held.items ++ [])) (append-nil fed)
    ∙ ap (λ (b : List ℕ). read_rest decoder.body fed b) (append-nil decoder.held.items)

-- ---- refusals

-- the length stands behind 30 bytes
wrong_length : (fed : List ℕ) → 30 ≤ length fed → read_content fed ≡ Bad Length (drop 30 fed) → first_flaw fed ≡ Some (record { offset = 30; why = Length })
wrong_length fed long e =
    let place : length fed - length (drop 30 fed) ≡ 30 = omega (arith, length-drop 30 fed, long) in
    ap (damage_of fed) e ∙ ap (λ (n : ℕ). Some (let d : Damage = record { offset = n; why = Length } in d)) place

place_long : (place : Option BodyValue) (count : ℕ) → IsSome place → IsPlace place count → 30 ≤ count
place_long None count some is = absurd cc
place_long (Some body) count some is = is

pub stops_told : (decoder : Decoder) (fed : List ℕ) (stop : Result Unit Refusal) → IsHolding decoder fed → StopsOn decoder.body decoder.held.items stop → ReadsFields decoder fed (told decoder.fed stop)
stops_told decoder fed (Ok x) is stops = stops
stops_told decoder fed (Err (refusals.Flawed why field)) is stops =
    ap (damage_of fed) (reads_here decoder fed is ∙ stops fed) ∙ ap (λ (n : ℕ). Some (let d : Damage = record { offset = n - length field.now; why = why } in d)) (sym is.counted)
stops_told decoder fed (Err refusals.Length) is stops =
    let long : 30 ≤ length fed = omega (arith, place_long decoder.body (length is.read) stops.0 is.place, ap length is.parts, length-append is.read decoder.held.items) in
    wrong_length fed long (reads_here decoder fed is ∙ stops.1 fed)
stops_told decoder fed (Err refusals.Memory) is stops = tt

pub ends_told : (decoder : Decoder) (fed : List ℕ) (stop : Result Unit Refusal) → IsHolding decoder fed → (body : BodyValue) × (decoder.body ≡ Some body) × IsAtEnd body decoder.held.items
    → EndsWith fed decoder.held.items stop → ReadsWhole decoder fed (told decoder.fed stop)
ends_told decoder fed (Ok x) is here ends =
    let body = here.0 in
    let all : read_content fed ≡ read_body body fed decoder.held.items = reads_here decoder fed is ∙ ap (λ (p : Option BodyValue). read_rest p fed decoder.held.items) here.1 in
    (body, here.1, all ∙ here.2.ends fed ∙ then_is _ _ ends.0 ends.1)
ends_told decoder fed (Err (refusals.Flawed why field)) is here ends =
    let body = here.0 in
    let all : read_content fed ≡ read_body body fed decoder.held.items = reads_here decoder fed is ∙ ap (λ (p : Option BodyValue). read_rest p fed decoder.held.items) here.1 in
    ap (damage_of fed) (all ∙ here.2.ends fed ∙ then_bad _ _ why field.now ends) ∙ ap (λ (n : ℕ). Some (let d : Damage = record { offset = n - length field.now; why = why } in d)) (sym is.counted)
ends_told decoder fed (Err refusals.Length) is here ends = absurd ends
ends_told decoder fed (Err refusals.Memory) is here ends = tt

-- ---- the digest

-- the bytes before the last ones
before_last : (whole before last : List ℕ) → whole ≡ before ++ last → take (length whole - length last) whole ≡ before
before_last whole before last e =
    ap (λ (w : List ℕ). take (length whole - length last) w) e ∙ take_at before last (length whole - length last) (omega (arith, ap length e, length-append before last))

pub digest_cut : (whole last : List ℕ) (refusal : Refusal) → Refuses refusal (found_or Short last (piece_at 32 last)) → EndsWith whole last (Err refusal)
unfolding read_end
digest_cut whole last (refusals.Flawed why field) read = then_bad _ _ why field.now read
digest_cut whole last refusals.Length read = absurd read
digest_cut whole last refusals.Memory read = tt

pub digest_wrong : (whole before last digest rest : List ℕ) → whole ≡ before ++ last → found_or Short last (piece_at 32 last) ≡ Good (digest, rest) → ¬ (digest ≡ sha256 before) → read_end whole last ≡ Bad Digest last
unfolding read_end passed_or and_then
digest_wrong whole before last digest rest parts read other =
    let front = before_last whole before last parts in
    let test : bytes_eq digest (sha256 (take (length whole - length last) whole)) ≡ false =
    differs (bytes_eq digest (sha256 (take (length whole - length last) whole))) refl in
    then_is _ _ (digest, rest) read ∙ rw test refl
  where
    differs : (b : Bool) → bytes_eq digest (sha256 (take (length whole - length last) whole)) ≡ b → b ≡ false
    differs true e = absurd (other ((bytes_eq-Decides digest (sha256 (take (length whole - length last) whole))).0 e ∙ ap sha256 (before_last whole before last parts)))
    differs false e = refl

pub digest_right : (whole before last digest rest : List ℕ) → whole ≡ before ++ last → found_or Short last (piece_at 32 last) ≡ Good (digest, rest) → digest ≡ sha256 before
    → read_end whole last ≡ (passed_or Extra rest (nat_eq (length rest) 0) digest)
unfolding read_end passed_or and_then
digest_right whole before last digest rest parts read same =
    let test = (bytes_eq-Decides digest (sha256 (take (length whole - length last) whole))).1 (same ∙ ap sha256 (sym (before_last whole before last parts))) in
    then_is _ _ (digest, rest) read ∙ rw test refl

pub digest_extra : (whole before last digest rest : List ℕ) → whole ≡ before ++ last → found_or Short last (piece_at 32 last) ≡ Good (digest, rest) → digest ≡ sha256 before → ¬ (length rest ≡ 0)
    → read_end whole last ≡ Bad Extra rest
unfolding passed_or
digest_extra whole before last digest rest parts read same some =
    digest_right whole before last digest rest parts read same ∙ ap (λ (b : Bool). passed_or Extra rest b digest) (decides_false (nat_eq (length rest) 0) (Decides-eqb (length rest) 0) some)

pub digest_ends : (whole before last digest rest : List ℕ) → whole ≡ before ++ last → found_or Short last (piece_at 32 last) ≡ Good (digest, rest) → digest ≡ sha256 before → length rest ≡ 0
    → read_end whole last ≡ Good digest
unfolding passed_or
digest_ends whole before last digest rest parts read same none =
    digest_right whole before last digest rest parts read same ∙ ap (λ (b : Bool). passed_or Extra rest b digest) ((Decides-eqb (length rest) 0).1 none)

-- ---- what is answered

pub may_go_on : (decoder : Decoder) (fed : List ℕ) → ReadsWhole decoder fed (Ok tt) → MayGoOn fed
may_go_on decoder fed reads damage e = let none = ap (damage_of fed) reads.2 in let clash = sym none ∙ e in absurd cc

pub cut_off : (fed : List ℕ) (fault : DecodeFault) → IsFaultOf fed fault → IsCut fault → MayGoOn fed
cut_off fed (faults.Damaged here) known cut damage e = sym (ap (λ (d : Damage). d.why) (some_is here damage (sym known ∙ e))) ∙ cut
cut_off fed faults.Memory known cut damage e = absurd cut

pub bytes_all : (bytes : List ℕ) → ((i : ℕ) → get_or bytes i 0 < 256) → All (λ byte. byte < 256) bytes
bytes_all bytes fit k d lt = rw (get_or_default bytes k d 0 lt) (fit k)

-- a decoder that has not refused
pub holds_of : (decoder : Decoder) (fed : List ℕ) → decoder.fault ≡ None → HasFed decoder fed → IsHolding decoder fed × MayGoOn fed
holds_of decoder fed none has = subst (IsKept decoder fed) none has.kept

pub fed_of : (decoder : Decoder) (fed : List ℕ) → decoder.fault ≡ None → All (λ byte. byte < 256) fed → IsHolding decoder fed → MayGoOn fed → HasFed decoder fed
fed_of decoder fed none bytes holds may = record { bytes = bytes; kept = subst (IsKept decoder fed) (sym none) (holds, may) }

pub bytes_more : (fed more : List ℕ) → All (λ byte. byte < 256) fed → All (λ byte. byte < 256) more → All (λ byte. byte < 256) (fed ++ more)
bytes_more fed more first second = All-append (λ byte. byte < 256) fed more first second

-- a refusal stays one whatever more is fed
pub refused_more : (fed more : List ℕ) (fault : DecodeFault) → All (λ byte. byte < 256) fed → IsRefused fed fault → IsRefused (fed ++ more) fault
refused_more fed more (faults.Damaged damage) bytes is = (flaw_stays fed more damage (bytes_fit fed bytes) is.0 is.1, is.1)
refused_more fed more faults.Memory bytes is = tt

-- among more bytes
pub refused_in : (all fed more : List ℕ) (fault : DecodeFault) → all ≡ fed ++ more → All (λ byte. byte < 256) all → IsRefused fed fault → IsRefused all fault
refused_in all fed more fault parts bytes is =
    subst (λ (b : List ℕ). IsRefused b fault) (sym parts) (refused_more fed more fault (All-left (λ byte. byte < 256) fed more (subst (All (λ byte. byte < 256)) parts bytes)) is)

pub finishes : (r : Result TableValue DecodeFault) (body : BodyValue) (fed : List ℕ) → All (λ byte. byte < 256) fed → read_content fed ≡ Good (table_of body.builder)
    → IfOk r (λ table. table ≡ table_of body.builder) → IfErr r (λ fault. fault ≡ faults.Memory) → Decodes fed r
finishes (Ok table) body fed bytes read ok err = content_taken fed table (bytes_fit fed bytes) (read ∙ ap (λ t. Good t) (sym ok))
finishes (Err fault) body fed bytes read ok err = subst (IsFaultOf fed) (sym err) tt

-- ---- a piece, chunk by chunk

pub front_more : (old mid new : Decoder) (piece rest chunk after : List ℕ) → FeedsFront old piece mid rest → rest ≡ chunk ++ after → ((fed : List ℕ) → HasFed mid fed → HasFed new (fed ++ chunk)) → FeedsFront old piece new after
front_more old mid new piece rest chunk after before next step = record {
  front = before.front ++ chunk;
  parts = before.parts ∙ ap (λ (r : List ℕ). before.front ++ r) next ∙ sym (append_assoc before.front chunk after);
  fed = λ fed has. subst (HasFed new) (append_assoc fed before.front chunk) (step (fed ++ before.front) (before.fed fed has));
}

pub front_all : (old new : Decoder) (piece rest : List ℕ) → FeedsFront old piece new rest → length rest ≡ 0 → (fed : List ℕ) → HasFed old fed → HasFed new (fed ++ piece)
front_all old new piece rest front none fed has = subst (λ (p : List ℕ). HasFed new (fed ++ p)) (sym (whole rest front.parts none)) (front.fed fed has)
  where
    whole : (rest : List ℕ) → piece ≡ front.front ++ rest → length rest ≡ 0 → piece ≡ front.front
    whole [] e none = e ∙ append-nil front.front
    whole (x ∷ rest) e none = absurd (omega (arith, none))

pub front_refused : (old mid : Decoder) (piece rest chunk after : List ℕ) (fault : DecodeFault) → FeedsFront old piece mid rest → rest ≡ chunk ++ after → All (λ byte. byte < 256) piece
    → ((fed : List ℕ) → HasFed mid fed → IsRefused (fed ++ chunk) fault) → (fed : List ℕ) → HasFed old fed → IsRefused (fed ++ piece) fault
front_refused old mid piece rest chunk after fault front next bytes step fed has =
    let here = step (fed ++ front.front) (front.fed fed has) in
    let parts : fed ++ piece ≡ ((fed ++ front.front) ++ chunk) ++ after =
    ap (λ (p : List ℕ). fed ++ p) (front.parts ∙ ap (λ (r : List ℕ). front.front ++ r) next) ∙ sym (append_assoc fed front.front (chunk ++ after)) ∙ sym (append_assoc (fed ++ front.front) chunk after) in
    refused_in (fed ++ piece) ((fed ++ front.front) ++ chunk) after fault parts (bytes_more fed piece has.bytes bytes) here

-- what is held after a reading is what it left
pub held_is : (bytes rest held : List ℕ) → EndsIn bytes rest → held ≡ drop (length bytes - length rest) bytes → held ≡ rest
held_is bytes rest held ends e = e ∙ (front_is bytes rest ends).1

pub on_ok_if : {T E : Type 0} (P Q : Type 0) (r : Result T E) → OnOk r P → (P → Q) → OnOk r Q
on_ok_if P Q (Ok x) known go = go known
on_ok_if P Q (Err e) known go = tt

-- a decoder that has refused
pub refusal_kept : (decoder : Decoder) (fed more : List ℕ) (fault : DecodeFault) → decoder.fault ≡ Some fault → HasFed decoder fed → IsRefused (fed ++ more) fault
refusal_kept decoder fed more fault e has = refused_more fed more fault has.bytes (subst (IsKept decoder fed) e has.kept)

pub fed_refused : (decoder : Decoder) (fed more : List ℕ) (fault : DecodeFault) → decoder.fault ≡ Some fault → All (λ byte. byte < 256) more → HasFed decoder fed → HasFed decoder (fed ++ more)
fed_refused decoder fed more fault e bytes has = record {
  bytes = bytes_more fed more has.bytes bytes;
  kept = subst (IsKept decoder (fed ++ more)) (sym e) (refusal_kept decoder fed more fault e has);
}

-- ---- a whole file

pub refused_fault : (bytes : List ℕ) (fault : DecodeFault) → IsRefused bytes fault → IsFaultOf bytes fault
refused_fault bytes (faults.Damaged damage) is = is.0
refused_fault bytes faults.Memory is = tt

pub decodes_found : (bytes : List ℕ) (r : Result TableValue DecodeFault) → Decodes bytes r → IfOk r (λ table. bytes ≡ spelling table)
decodes_found bytes (Ok table) is = is.1
decodes_found bytes (Err fault) is = tt

pub decodes_flawless : (bytes : List ℕ) (r : Result TableValue DecodeFault) → Decodes bytes r → OnOk r (first_flaw bytes ≡ None)
decodes_flawless bytes (Ok table) is = none_from_content bytes (record { table = table; valid = is.0; spelled = is.1 })
decodes_flawless bytes (Err fault) is = tt

pub decodes_flawed : (bytes : List ℕ) (r : Result TableValue DecodeFault) → Decodes bytes r → IfErr r (IsFaultOf bytes)
decodes_flawed bytes (Ok table) is = tt
decodes_flawed bytes (Err fault) is = is

-- what is refused for damage is no content file
pub fault_damages : (bytes : List ℕ) (fault : DecodeFault) → IsFaultOf bytes fault → fault ≢ faults.Memory → ¬ (IsContent bytes)
fault_damages bytes (faults.Damaged damage) is other content = let clash = sym (none_from_content bytes content) ∙ is in absurd cc
fault_damages bytes faults.Memory is other content = other refl

pub decodes_damaged : (bytes : List ℕ) (r : Result TableValue DecodeFault) → Decodes bytes r → IfErr r (λ fault. fault ≢ faults.Memory → ¬ (IsContent bytes))
decodes_damaged bytes (Ok table) is = tt
decodes_damaged bytes (Err fault) is = fault_damages bytes fault is
