-- Bytes that are put over others, cut or extended: what stays, how many there are, and that they are bytes.
use Rattle.std.proofs.Common.{◌≡◌, inl, inr, ⊎_elim, ℕ, ◌+◌, ◌-◌, ◌<◌, ◌≤◌, List, [], ◌++◌, length, take, drop, replicate, get_or, refl, sym, ◌∙◌, ap, subst, arith, length-append, length-drop}
use Rattle.std.proofs.lemmas.List.{length-take, length-replicate, get_or-take, get_or-drop, get_or_append_left, get_or-append_right, get_or_past, get_or-replicate}
use Rattle.std.proofs.lemmas.List.Elements.{All-append, All-take, All-drop, All-replicate, All-nil}
use Rattle.std.proofs.lemmas.Bool.{cases_lt}
use Rattle.disk_model.specs.Bytes.{AreBytes, put, resized, Torn, Stretched}

-- each place of a list of bytes holds a byte, also past its end
pub byte_at : (bytes : List ℕ) → AreBytes bytes → (i : ℕ) → get_or bytes i 0 < 256
byte_at bytes are i = elim (cases_lt i (length bytes)) [
  | inl within ↦ are i 0 within
  | inr past ↦ subst (λ n. n < 256) (sym (get_or_past bytes i 0 past)) (omega arith)
]

pub no_bytes : AreBytes []
no_bytes = All-nil (λ byte. byte < 256)

pub bytes-append : (first second : List ℕ) → AreBytes first → AreBytes second → AreBytes (first ++ second)
bytes-append first second one two = All-append (λ byte. byte < 256) first second one two

zeros : (n : ℕ) → AreBytes (replicate n 0)
zeros n = All-replicate (λ byte. byte < 256) n 0 (omega arith)

pub bytes-put : (file : List ℕ) (at : ℕ) (bytes : List ℕ) → AreBytes file → AreBytes bytes → AreBytes (put file at bytes)
bytes-put file at bytes one two =
    bytes-append ((take at file ++ replicate (at - length file) 0) ++ bytes) (drop (at + length bytes) file)
    (bytes-append (take at file ++ replicate (at - length file) 0) bytes
    (bytes-append (take at file) (replicate (at - length file) 0) (All-take (λ byte. byte < 256) at file one) (zeros (at - length file))) two)
    (All-drop (λ byte. byte < 256) (at + length bytes) file one)

pub bytes-resized : (file : List ℕ) (len : ℕ) → AreBytes file → AreBytes (resized file len)
bytes-resized file len one = bytes-append (take len file) (replicate (len - length file) 0) (All-take (λ byte. byte < 256) len file one) (zeros (len - length file))

length-front : (file : List ℕ) (at : ℕ) → length (take at file ++ replicate (at - length file) 0) ≡ at
length-front file at =
    let a = length-append (take at file) (replicate (at - length file) 0) in
    let b = length-take at file in
    let c = length-replicate {A = ℕ} (at - length file) 0 in
    omega arith

pub length-put : (file : List ℕ) (at : ℕ) (bytes : List ℕ) → length (put file at bytes) ≡ (at + length bytes) + (length file - (at + length bytes))
length-put file at bytes =
    let front = take at file ++ replicate (at - length file) 0 in
    let n = length bytes in
    let rest = drop (at + n) file in
    let second : length (front ++ bytes) ≡ at + n = length-append front bytes ∙ ap (λ m. m + n) (length-front file at) in
    length-append (front ++ bytes) rest ∙ ap (λ m. m + length rest) second ∙ ap (λ m. at + n + m) (length-drop (at + n) file)

-- a write that was done is one that was cut short at its end
pub torn_by_put : (file : List ℕ) (at : ℕ) (bytes : List ℕ) → Torn at (length bytes) file (put file at bytes)
torn_by_put file at bytes =
    let front = take at file ++ replicate (at - length file) 0 in
    let n = length bytes in
    let rest = drop (at + n) file in
    let first = length-front file at in
    let second : length (front ++ bytes) ≡ at + n = length-append front bytes ∙ ap (λ m. m + n) first in
    let whole = length-put file at bytes in
    record {
      same = λ i within out. ⊎_elim
          (λ below.
          let piece : i < length (take at file) = (let l = length-take at file in omega arith) in
          let to_front : i < length front = omega arith in
          let to_bytes : i < length (front ++ bytes) = omega arith in
          get_or_append_left (front ++ bytes) rest 0 i to_bytes ∙ get_or_append_left front bytes 0 i to_front
          ∙ get_or_append_left (take at file) (replicate (at - length file) 0) 0 i piece ∙ get_or-take at file i 0 below)
          (λ above.
          let back : at + n + (i - (at + n)) ≡ i = omega arith in
          get_or-append_right (front ++ bytes) rest (at + n) i 0 second above ∙ get_or-drop (at + n) file (i - (at + n)) 0 ∙ ap (λ m. get_or file m 0) back)
          out;
      no_shorter = omega arith;
      no_longer = omega arith;
    }

-- between the old end and the place there are zeros
pub put_gap : (file : List ℕ) (at : ℕ) (bytes : List ℕ) (i : ℕ) → length file ≤ i → i < at → get_or (put file at bytes) i 0 ≡ 0
put_gap file at bytes i past low =
    let front = take at file ++ replicate (at - length file) 0 in
    let rest = drop (at + length bytes) file in
    let first = length-front file at in
    let whole : length (take at file) ≡ length file = (let l = length-take at file in omega (arith, past, low)) in
    get_or_append_left (front ++ bytes) rest 0 i (omega (arith, first, low, length-append front bytes)) ∙ get_or_append_left front bytes 0 i (omega (arith, first, low))
    ∙ get_or-append_right (take at file) (replicate (at - length file) 0) (length file) i 0 whole past
    ∙ get_or-replicate (at - length file) (i - length file) 0 0 (omega (arith, past, low))

pub torn_not : (file : List ℕ) (at n : ℕ) → Torn at n file file
torn_not file at n = record { same = λ i within out. refl; no_shorter = omega arith; no_longer = omega arith }

pub length-resized : (file : List ℕ) (len : ℕ) → length (resized file len) ≡ len
length-resized file len =
    let a = length-append (take len file) (replicate (len - length file) 0) in
    let b = length-take len file in
    let c = length-replicate {A = ℕ} (len - length file) 0 in
    omega arith

pub stretched_by_resized : (file : List ℕ) (len : ℕ) → Stretched len file (resized file len)
stretched_by_resized file len =
    let long = length-resized file len in
    record {
      same = λ i within left below.
          let piece : i < length (take len file) = (let l = length-take len file in omega arith) in
          get_or_append_left (take len file) (replicate (len - length file) 0) 0 i piece ∙ get_or-take len file i 0 below;
      no_shorter = omega arith;
      no_longer = omega arith;
    }

pub stretched_not : (file : List ℕ) (len : ℕ) → Stretched len file file
stretched_not file len = record { same = λ i within left below. refl; no_shorter = omega arith; no_longer = omega arith }
