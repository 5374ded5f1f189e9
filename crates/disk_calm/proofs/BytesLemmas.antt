-- Bytes that are put over others, or cut, or extended.
use Rattle.std.proofs.Common.{◌≡◌, inl, inr, ⊎_elim, ℕ, ◌+◌, ◌-◌, ◌<◌, ◌≤◌, List, [], ◌++◌, length, take, drop, replicate, get_or, refl, sym, ◌∙◌, ap, arith, append_assoc, length-append, length-drop}
use Rattle.std.proofs.lemmas.List.{append-nil, length-take, length-replicate, take-append-le, take-replicate, take_all, drop_all, get_or-take, get_or-drop, get_or_append_left, get_or-append_right}
use Rattle.std.proofs.lemmas.List.Elements.{All-append, All-take, All-drop, All-replicate, All-nil, All-from_get_or}
use Rattle.std.proofs.Math.Seq.{take-append-add}
use Rattle.std.proofs.lemmas.Bool.{cases_lt}
use Rattle.disk_model.specs.Bytes.{AreBytes, put, resized, Torn, Stretched}

-- a front of bytes that zeros follow
take-zeros : (file : List ℕ) (at more : ℕ) → at ≤ length file + more → take at (file ++ replicate more 0) ≡ take at file ++ replicate (at - length file) 0
take-zeros file at more within =
    elim (cases_lt (length file) at) [
      | inl past ↦
          let beyond = at - length file in
          let split : at ≡ length file + beyond = omega arith in
          let fits : beyond ≤ more = omega arith in
          let all : take at file ≡ file = take_all at file (omega arith) in
          ap (λ n. take n (file ++ replicate more 0)) split ∙ take-append-add file (replicate more 0) beyond ∙ ap (λ xs. file ++ xs) (take-replicate beyond more 0 fits)
          ∙ ap (λ xs. xs ++ replicate beyond 0) (sym all)
      | inr inside ↦
          let none : at - length file ≡ 0 = omega arith in
          take-append-le at file (replicate more 0) inside ∙ sym (append-nil (take at file)) ∙ ap (λ n. take at file ++ replicate n 0) (sym none)
    ]

-- what stands after a place that the zeros reach
drop-zeros : (file : List ℕ) (end : ℕ) → drop end (file ++ replicate (end - length file) 0) ≡ drop end file
drop-zeros file end =
    elim (cases_lt (length file) end) [
      | inl past ↦
          let long : length (file ++ replicate (end - length file) 0) ≡ length file + (end - length file) = length-append file (replicate (end - length file) 0) ∙ ap (λ n. length file + n) (length-replicate (end - length file) 0) in
          drop_all end (file ++ replicate (end - length file) 0) (omega arith) ∙ sym (drop_all end file (omega arith))
      | inr inside ↦
          let none : end - length file ≡ 0 = omega arith in
          ap (λ n. drop end (file ++ replicate n 0)) none ∙ ap (drop end) (append-nil file)
    ]

-- to write over a file that was extended with zeros is to put
pub put_over_zeros : (file bytes : List ℕ) (at end : ℕ) → end ≡ at + length bytes
    → take at (file ++ replicate (end - length file) 0) ++ (bytes ++ drop end (file ++ replicate (end - length file) 0)) ≡ put file at bytes
put_over_zeros file bytes at end is =
    ap (λ xs. xs ++ (bytes ++ drop end (file ++ replicate (end - length file) 0))) (take-zeros file at (end - length file) (omega arith))
    ∙ ap (λ xs. (take at file ++ replicate (at - length file) 0) ++ (bytes ++ xs)) (drop-zeros file end ∙ ap (λ n. drop n file) is)
    ∙ sym (append_assoc (take at file ++ replicate (at - length file) 0) bytes (drop (at + length bytes) file))

-- a slice of the whole length, as it is given back
pub whole_back : (out items : List ℕ) (n : ℕ) → n ≡ length items → length out ≡ length items → take n (out ++ drop (length out) items) ≡ out
whole_back out items n is long =
    let none : drop (length out) items ≡ [] = drop_all (length out) items (omega arith) in
    ap (λ xs. take n (out ++ xs)) none ∙ ap (take n) (append-nil out) ∙ take_all n out (omega arith)

length-front : (file : List ℕ) (at : ℕ) → length (take at file ++ replicate (at - length file) 0) ≡ at
length-front file at =
    let a = length-append (take at file) (replicate (at - length file) 0) in
    let b = length-take at file in
    let c = length-replicate {A = ℕ} (at - length file) 0 in
    omega arith

pub torn_by_put : (file : List ℕ) (at : ℕ) (bytes : List ℕ) → Torn at (length bytes) file (put file at bytes)
torn_by_put file at bytes =
    let front = take at file ++ replicate (at - length file) 0 in
    let n = length bytes in
    let rest = drop (at + n) file in
    let first = length-front file at in
    let second : length (front ++ bytes) ≡ at + n = length-append front bytes ∙ ap (λ m. m + n) first in
    let last = length-drop (at + n) file in
    let whole : length (put file at bytes) ≡ (at + n) + (length file - (at + n)) = length-append (front ++ bytes) rest ∙ ap (λ m. m + length rest) second ∙ ap (λ m. at + n + m) last in
    record {
      same = λ i within out. ⊎_elim
          (λ below.
          let piece : i < length (take at file) = (let l = length-take at file in omega arith) in
          let to_front : i < length front = omega arith in
          let to_bytes : i < length (front ++ bytes) = omega arith in
          get_or_append_left (front ++ bytes) rest 0 i to_bytes ∙ get_or_append_left front bytes 0 i to_front
          ∙ get_or_append_left (take at file) (replicate (at - length file) 0) 0 i piece ∙ get_or-take at file i 0 below)
          (λ above.
          let back : at + n + (i - (at + n)) ≡ i = omega arith in
          get_or-append_right (front ++ bytes) rest (at + n) i 0 second above ∙ get_or-drop (at + n) file (i - (at + n)) 0 ∙ ap (λ m. get_or file m 0) back)
          out;
      no_shorter = omega arith;
      no_longer = omega arith;
    }

pub torn_not : (file : List ℕ) (at n : ℕ) → Torn at n file file
torn_not file at n = record { same = λ i within out. refl; no_shorter = omega arith; no_longer = omega arith }

pub length-resized : (file : List ℕ) (len : ℕ) → length (resized file len) ≡ len
length-resized file len =
    let a = length-append (take len file) (replicate (len - length file) 0) in
    let b = length-take len file in
    let c = length-replicate {A = ℕ} (len - length file) 0 in
    omega arith

pub stretched_by_resized : (file : List ℕ) (len : ℕ) → Stretched len file (resized file len)
stretched_by_resized file len =
    let long = length-resized file len in
    record {
      same = λ i within left below.
          let piece : i < length (take len file) = (let l = length-take len file in omega arith) in
          get_or_append_left (take len file) (replicate (len - length file) 0) 0 i piece ∙ get_or-take len file i 0 below;
      no_shorter = omega arith;
      no_longer = omega arith;
    }

pub stretched_not : (file : List ℕ) (len : ℕ) → Stretched len file file
stretched_not file len = record { same = λ i within left below. refl; no_shorter = omega arith; no_longer = omega arith }

pub no_bytes : AreBytes []
no_bytes = All-nil (λ byte. byte < 256)

pub bytes-append : (first second : List ℕ) → AreBytes first → AreBytes second → AreBytes (first ++ second)
bytes-append first second one two = All-append (λ byte. byte < 256) first second one two

zeros : (n : ℕ) → AreBytes (replicate n 0)
zeros n = All-replicate (λ byte. byte < 256) n 0 (omega arith)

pub bytes-put : (file : List ℕ) (at : ℕ) (bytes : List ℕ) → AreBytes file → AreBytes bytes → AreBytes (put file at bytes)
bytes-put file at bytes one two =
    bytes-append ((take at file ++ replicate (at - length file) 0) ++ bytes) (drop (at + length bytes) file)
    (bytes-append (take at file ++ replicate (at - length file) 0) bytes
    (bytes-append (take at file) (replicate (at - length file) 0) (All-take (λ byte. byte < 256) at file one) (zeros (at - length file))) two)
    (All-drop (λ byte. byte < 256) (at + length bytes) file one)

pub bytes-resized : (file : List ℕ) (len : ℕ) → AreBytes file → AreBytes (resized file len)
bytes-resized file len one = bytes-append (take len file) (replicate (len - length file) 0) (All-take (λ byte. byte < 256) len file one) (zeros (len - length file))

-- a slice of bytes
pub slice_bytes : (bytes : List ℕ) → ((i : ℕ) → get_or bytes i 0 < 256) → AreBytes bytes
slice_bytes bytes fits = All-from_get_or (λ byte. byte < 256) bytes 0 (λ i below. fits i)

-- what a read gives has as many bytes as it answers
pub count_is : (n count : ℕ) (out bytes : List ℕ) → take n out ≡ bytes → n ≤ length out → count ≡ length bytes → count ≡ n
count_is n count out bytes found bound counted = omega (arith, counted, ap length found, length-take n out, bound)
