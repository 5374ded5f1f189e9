-- A field that is read is spelled so at the front of the bytes, and a field that is spelled there is read again.
use Rattle.std.proofs.Common.{◌≡◌, ℕ, suc, ◌+◌, ◌^◌, ◌<◌, ◌≤◌, Bool, true, false, cond, ltb, List, [], ◌∷◌, ◌++◌, length, get_or, take, drop, Option, Some, None, refl, sym, ap, subst, ◌∙◌, append_assoc, arith, inl, inr}
use Rattle.std.specs.Int.{Width, w16, w32, w64, byte_len, from_le_bytes, to_le_bytes}
use Rattle.std.proofs.lemmas.Bool.{cases_lt, ltb-false, le-ltb}
use Rattle.std.proofs.lemmas.List.{take_at, drop_at, take-append-drop, length-append, length-take, get_or-drop, get_or-take, get_or_past}
use Rattle.std.proofs.lemmas.Nat.{le_bytes_2, le_bytes_4, le_bytes_8, from_le_bytes-to_le_bytes_2, from_le_bytes-to_le_bytes_4, from_le_bytes-to_le_bytes_8}
use Rattle.content_file.specs.Spelling.{short_text, long_text}
use Rattle.content_file.specs.Reading.{◌>>=◌, byte_at, number_at, piece_at, short_text_at, long_text_at}

abbrev pub IsBytes : List ℕ → Type 0
IsBytes bytes = (i : ℕ) → get_or bytes i 0 < 256

pub IsBytes-drop : (n : ℕ) (bytes : List ℕ) → IsBytes bytes → IsBytes (drop n bytes)
IsBytes-drop n bytes h i = rw get_or-drop (h (n + i))

pub IsBytes-take : (n : ℕ) (bytes : List ℕ) → IsBytes bytes → IsBytes (take n bytes)
IsBytes-take n bytes h i =
    elim (cases_lt i n) [
      | inl lt ↦ rw (get_or-take n bytes i 0 lt) (h i)
      | inr le ↦ rw (get_or_past (take n bytes) i 0 (omega (arith, length-take n bytes))) (omega arith)
    ]

pub IsBytes-rest : (byte : ℕ) (bytes : List ℕ) → IsBytes (byte ∷ bytes) → IsBytes bytes
IsBytes-rest byte bytes h i = h (suc i)

-- the value of a step that did not fail
pub bind_some : {A B : Type 0} (read : Option A) (f : A → Option B) (y : B) → (read >>= f) ≡ Some y → (x : A) × (read ≡ Some x) × (f x ≡ Some y)
bind_some (Some x) f y e = (x, refl, e)
bind_some None f y e = absurd cc

-- the same, as a step in a proof
pub from_some : {A B P : Type 0} (read : Option A) (f : A → Option B) (y : B) → (read >>= f) ≡ Some y → ((x : A) → read ≡ Some x → f x ≡ Some y → P) → P
from_some (Some x) f y e go = go x refl e
from_some None f y e go = absurd cc

-- a test that let the value through
pub guard_false : {A : Type 0} (b : Bool) (x y : A) → cond b None (Some x) ≡ Some y → (b ≡ false) × (x ≡ y)
guard_false true x y e = absurd cc
guard_false false x y e = (refl, cc)

pub guard_true : {A : Type 0} (b : Bool) (x y : A) → cond b (Some x) None ≡ Some y → (b ≡ true) × (x ≡ y)
guard_true true x y e = (refl, cc)
guard_true false x y e = absurd cc

abbrev some : {A : Type 0} → A → Option A
some x = Some x

pub some_is : {A : Type 0} (x y : A) → some x ≡ some y → x ≡ y
some_is x y e = cc

-- what a reader took from the front
pub record Takes (bytes text rest : List ℕ) : Type 0 where
  pub parts : bytes ≡ text ++ rest
  pub rest_fits : IsBytes rest

pub takes_then : (a x b y c : List ℕ) → Takes a x b → Takes b y c → Takes a (x ++ y) c
takes_then a x b y c p q = record { parts = p.parts ∙ ap (λ (t : List ℕ). x ++ t) q.parts ∙ sym (append_assoc x y c); rest_fits = q.rest_fits }

-- ---- a byte

pub byte_takes : (bytes : List ℕ) (byte : ℕ) (rest : List ℕ) → IsBytes bytes → byte_at bytes ≡ Some (byte, rest) → Takes bytes (byte ∷ []) rest × (byte < 256)
byte_takes [] byte rest fits e = absurd cc
byte_takes (first ∷ others) byte rest fits e =
    let same = some_is (first, others) (byte, rest) e in
    subst (λ (x : ℕ × List ℕ). Takes (first ∷ others) (x.0 ∷ []) x.1 × (x.0 < 256)) same (record { parts = refl; rest_fits = IsBytes-rest first others fits }, fits 0)

-- ---- numbers

pub record IsWide (w : Width) (limit : ℕ) : Type 0 where
  pub len : (n : ℕ) → length (to_le_bytes w n) ≡ byte_len w
  pub back : (bytes : List ℕ) → length bytes ≡ byte_len w → IsBytes bytes → to_le_bytes w (from_le_bytes w bytes) ≡ bytes
  pub again : (n : ℕ) → n < limit → from_le_bytes w (to_le_bytes w n) ≡ n
  pub below : (bytes : List ℕ) → IsBytes bytes → from_le_bytes w bytes < limit

pub wide16 : IsWide w16 (2 ^ 16)
wide16 = record {
  len = λ n. refl;
  back = λ bytes len fits. le_bytes_2 bytes _ len fits refl;
  again = λ n lt. from_le_bytes-to_le_bytes_2 n lt;
  below = λ bytes fits. omega (arith, fits 0, fits 1);
}

pub wide32 : IsWide w32 (2 ^ 32)
wide32 = record {
  len = λ n. refl;
  back = λ bytes len fits. le_bytes_4 bytes _ len fits refl;
  again = λ n lt. from_le_bytes-to_le_bytes_4 n lt;
  below = λ bytes fits. omega (arith, fits 0, fits 1, fits 2, fits 3);
}

pub wide64 : IsWide w64 (2 ^ 64)
wide64 = record {
  len = λ n. refl;
  back = λ bytes len fits. le_bytes_8 bytes _ len fits refl;
  again = λ n lt. from_le_bytes-to_le_bytes_8 n lt;
  below = λ bytes fits. omega (arith, fits 0, fits 1, fits 2, fits 3, fits 4, fits 5, fits 6, fits 7);
}

pub number_takes : (w : Width) (limit : ℕ) (wide : IsWide w limit) (bytes : List ℕ) (n : ℕ) (rest : List ℕ) → IsBytes bytes → number_at w bytes ≡ Some (n, rest) → Takes bytes (to_le_bytes w n) rest × (n < limit)
number_takes w limit wide bytes n rest fits e =
    let g = guard_false (ltb (length bytes) (byte_len w)) (from_le_bytes w (take (byte_len w) bytes), drop (byte_len w) bytes) (n, rest) e in
    let long : byte_len w ≤ length bytes = ltb-false _ _ g.0 in
    let n-is : from_le_bytes w (take (byte_len w) bytes) ≡ n = ap (λ (p : ℕ × List ℕ). p.0) g.1 in
    let rest-is : drop (byte_len w) bytes ≡ rest = ap (λ (p : ℕ × List ℕ). p.1) g.1 in
    let front : to_le_bytes w n ≡ take (byte_len w) bytes = rw (← n-is) (wide.back (take (byte_len w) bytes) (omega (arith, length-take (byte_len w) bytes)) (IsBytes-take (byte_len w) bytes fits)) in
    (record { parts = rw (front, ← rest-is) (sym (take-append-drop (byte_len w) bytes)); rest_fits = rw (← rest-is) (IsBytes-drop (byte_len w) bytes fits) }, rw (← n-is) (wide.below (take (byte_len w) bytes) (IsBytes-take (byte_len w) bytes fits)))

pub number_again : (w : Width) (limit : ℕ) (wide : IsWide w limit) (n : ℕ) (rest : List ℕ) → n < limit → number_at w (to_le_bytes w n ++ rest) ≡ Some (n, rest)
number_again w limit wide n rest lt =
    let len = wide.len n in
    let long : ltb (length (to_le_bytes w n ++ rest)) (byte_len w) ≡ false = le-ltb _ _ (omega (arith, length-append (to_le_bytes w n) rest)) in
    rw (long, take_at (to_le_bytes w n) rest (byte_len w) len, drop_at (to_le_bytes w n) rest (byte_len w) len, wide.again n lt) refl

-- ---- bytes as they are

pub piece_takes : (n : ℕ) (bytes piece rest : List ℕ) → IsBytes bytes → piece_at n bytes ≡ Some (piece, rest) → Takes bytes piece rest × (length piece ≡ n) × IsBytes piece
piece_takes n bytes piece rest fits e =
    let g = guard_false (ltb (length bytes) n) (take n bytes, drop n bytes) (piece, rest) e in
    let long : n ≤ length bytes = ltb-false _ _ g.0 in
    let first : Takes bytes (take n bytes) (drop n bytes) = record { parts = sym (take-append-drop n bytes); rest_fits = IsBytes-drop n bytes fits } in
    subst (λ (p : List ℕ × List ℕ). Takes bytes p.0 p.1 × (length p.0 ≡ n) × IsBytes p.0) g.1 (first, omega (arith, length-take n bytes), IsBytes-take n bytes fits)

pub piece_again : (n : ℕ) (piece rest : List ℕ) → length piece ≡ n → piece_at n (piece ++ rest) ≡ Some (piece, rest)
piece_again n piece rest len =
    let long : ltb (length (piece ++ rest)) n ≡ false = le-ltb _ _ (omega (arith, length-append piece rest)) in
    rw (long, take_at piece rest n len, drop_at piece rest n len) refl

-- ---- texts

pub short_text_takes : (bytes text rest : List ℕ) → IsBytes bytes → short_text_at bytes ≡ Some (text, rest) → Takes bytes (short_text text) rest × (length text < 256)
unfolding short_text_at
short_text_takes bytes text rest fits e =
    let a = bind_some (byte_at bytes) (λ n. piece_at n.0 n.1) (text, rest) e in
    let t = byte_takes bytes a.0.0 a.0.1 fits a.1 in
    let p = piece_takes a.0.0 a.0.1 text rest t.0.rest_fits a.2 in
    let both = takes_then bytes (a.0.0 ∷ []) a.0.1 text rest t.0 p.0 in
    (subst (λ (k : ℕ). Takes bytes (k ∷ text) rest) (sym p.1) both, omega (arith, t.1, p.1))

pub short_text_again : (text rest : List ℕ) → short_text_at (short_text text ++ rest) ≡ Some (text, rest)
unfolding short_text_at
short_text_again text rest = piece_again (length text) text rest refl

pub long_text_takes : (bytes text rest : List ℕ) → IsBytes bytes → long_text_at bytes ≡ Some (text, rest) → Takes bytes (long_text text) rest × (length text < 2 ^ 16)
unfolding long_text_at
long_text_takes bytes text rest fits e =
    let a = bind_some (number_at w16 bytes) (λ n. piece_at n.0 n.1) (text, rest) e in
    let t = number_takes w16 (2 ^ 16) wide16 bytes a.0.0 a.0.1 fits a.1 in
    let p = piece_takes a.0.0 a.0.1 text rest t.0.rest_fits a.2 in
    let both = takes_then bytes (to_le_bytes w16 a.0.0) a.0.1 text rest t.0 p.0 in
    (subst (λ (k : ℕ). Takes bytes (to_le_bytes w16 k ++ text) rest) (sym p.1) both, omega (arith, t.1, p.1))

pub long_text_again : (text rest : List ℕ) → length text < 2 ^ 16 → long_text_at (long_text text ++ rest) ≡ Some (text, rest)
unfolding long_text_at
long_text_again text rest lt =
    let regrouped : long_text text ++ rest ≡ to_le_bytes w16 (length text) ++ (text ++ rest) = append_assoc (to_le_bytes w16 (length text)) text rest in
    ap long_text_at regrouped ∙ rw (number_again w16 (2 ^ 16) wide16 (length text) (text ++ rest) lt) (piece_again (length text) text rest refl)
