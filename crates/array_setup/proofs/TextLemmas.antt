-- Texts as their characters.
use Rattle.std.proofs.Common.{◌≡◌, ◌≢◌, ℕ, suc, ◌+◌, ◌<◌, List, [], ◌∷◌, ◌++◌, length, get_or, take, drop, ◌≤◌, Bool, true, false, ◌==◌, ◌||◌, Option, None, Some, MatchOption, Bor, encode_utf8, encode_utf8_all, IsUtf8, refl, sym, ap, ◌∙◌, arith, ne_eqb, length-append}
use Rattle.std.proofs.lemmas.Bool.Decides.{nat_tests}
use Rattle.std.proofs.lemmas.List.{append-nil}
use Rattle.std.proofs.lemmas.Str.{chars-nil, chars-append, chars_past_char, encodes-chars, encode_ascii, length-encode, len_utf8_bounds, IsUtf8-take, IsUtf8-drop, IsUtf8-past_char, IsCharBoundary-from_take, IsCharBoundary-before_ascii, IsCharBoundary-after_ascii}
use Rattle.std.proofs.Math.Seq.{take-append_seam, drop-append_seam, drop-append-add, get_or-append_seam}
use Rattle.std.proofs.lemmas.Str.Pattern.{IsSplitOnceResult, split_parts}
use Rattle.std.specs.Str.{chars}
use Rattle.array_setup.proofs.BoolLemmas.{first_false, rest_false}
use Rattle.array_setup.specs.Glob.{is_empty}
use Rattle.array_setup.specs.Pattern.{has_byte}
use Rattle.array_setup.specs.Walk.{IsCut, IsFirstOf, IsLastOf}

-- ---- bytes that are not there

pub has_byte-reads : (byte : ℕ) (text : List ℕ) → ((i : ℕ) → i < length text → get_or text i 0 ≢ byte) → has_byte byte text ≡ false
has_byte-reads byte [] none = refl
has_byte-reads byte (b ∷ text) none =
    rw (ne_eqb b byte (none 0 (omega arith)), has_byte-reads byte text (λ i below. none (suc i) (omega (arith, below)))) refl

pub has_byte-append : (byte : ℕ) (a b : List ℕ) → has_byte byte (a ++ b) ≡ has_byte byte a || has_byte byte b
has_byte-append byte [] b = refl
has_byte-append byte (x ∷ a) b = rw (has_byte-append byte a b) (or_assoc (x == byte) (has_byte byte a) (has_byte byte b))
  where
    or_assoc : (a b c : Bool) → a || (b || c) ≡ (a || b) || c
    or_assoc true b c = refl
    or_assoc false b c = refl

has_byte-encodes : (byte : ℕ) (cs : List ℕ) → byte < 128 → has_byte byte (encode_utf8_all cs) ≡ false → has_byte byte cs ≡ false
has_byte-encodes byte [] small none = refl
has_byte-encodes byte (c ∷ cs) small none =
    let both : has_byte byte (encode_utf8 c) || has_byte byte (encode_utf8_all cs) ≡ false = sym (has_byte-append byte (encode_utf8 c) (encode_utf8_all cs)) ∙ none in
    let later : has_byte byte cs ≡ false = has_byte-encodes byte cs small (rest_false _ _ both) in
    cases (c == byte) refl (first_false _ _ both) later
  where
    cases : (b : Bool) → c == byte ≡ b → has_byte byte (encode_utf8 c) ≡ false → has_byte byte cs ≡ false → (c == byte) || has_byte byte cs ≡ false
    cases true is here later =
        let same : c ≡ byte = grind (arith, nat_tests) in
        let one : encode_utf8 c ≡ c ∷ [] = encode_ascii c (omega arith) in
        let there : has_byte byte (encode_utf8 c) ≡ true = rw (one, is) refl in
        absurd (cc)
    cases false is here later = rw (is, later) refl

-- an ASCII byte that isn't in a text is none of its characters
pub has_byte-chars : (byte : ℕ) (text : List ℕ) → IsUtf8 text → byte < 128 → has_byte byte text ≡ false → has_byte byte (chars text) ≡ false
has_byte-chars byte text utf8 small none = has_byte-encodes byte (chars text) small (rw (encodes-chars text utf8) none)

-- ---- a text cut at a byte

pub cut_parts : (byte : ℕ) (text before after : List ℕ) → IsUtf8 text → byte < 128 → text ≡ before ++ byte ∷ after → IsUtf8 before × IsUtf8 after
cut_parts byte text before after utf8 small spelled =
    let within : length before < length text = omega (arith, ap length spelled, length-append before (byte ∷ after)) in
    let here : get_or text (length before) 0 ≡ byte = rw spelled (get_or-append_seam before byte after 0) in
    let taken : take (length before) text ≡ before = rw spelled (take-append_seam before (byte ∷ after)) in
    let dropped : drop (length before + 1) text ≡ after = rw spelled (drop-append-add before (byte ∷ after) 1) in (
      rw taken at (IsUtf8-take text (length before) utf8 (IsCharBoundary-before_ascii text (length before) within (omega (arith, here, small)))),
      rw dropped at (IsUtf8-drop text (length before + 1) utf8 (IsCharBoundary-after_ascii text (length before) utf8 within (omega (arith, here, small)))),
    )

pub cut_result : (byte : ℕ) (text : List ℕ) (r : Option (Bor (List ℕ) × Bor (List ℕ))) → IsSplitOnceResult byte text r → byte < 128 → IsUtf8 text
    → MatchOption r (has_byte byte text ≡ false) (λ parts. IsCut byte text parts.0.now parts.1.now)
cut_result byte text None split small utf8 = has_byte-reads byte text (split_parts byte text None split small)
cut_result byte text (Some parts) split small utf8 =
    let found = split_parts byte text (Some parts) split small in
    let texts = cut_parts byte text parts.0.now parts.1.now utf8 small found.0 in
    record { front = texts.0; back = texts.1; spelled = found.0; first = has_byte-reads byte parts.0.now found.1 }

pub chars-slash : (rest : List ℕ) → chars (47 ∷ rest) ≡ 47 ∷ chars rest
unfolding chars
chars-slash [] = refl
chars-slash (b ∷ rest) = refl

chars-star : (rest : List ℕ) → chars (42 ∷ rest) ≡ 42 ∷ chars rest
unfolding chars
chars-star [] = refl
chars-star (b ∷ rest) = refl

pub chars-cut_slash : (text before after : List ℕ) → IsCut 47 text before after → chars text ≡ chars before ++ 47 ∷ chars after
chars-cut_slash text before after cut = rw (cut.spelled, chars-append before (47 ∷ after) cut.front, chars-slash) refl

pub chars-cut_star : (text before after : List ℕ) → IsCut 42 text before after → chars text ≡ chars before ++ 42 ∷ chars after
chars-cut_star text before after cut = rw (cut.spelled, chars-append before (42 ∷ after) cut.front, chars-star) refl

-- ---- the first and the last character

pub no_chars : (text : List ℕ) → length text ≡ 0 → chars text ≡ []
no_chars [] none = chars-nil
no_chars (b ∷ text) none = absurd (omega arith)

pub first_of : (text rest : List ℕ) (c : ℕ) → IsUtf8 text → text ≡ encode_utf8 c ++ rest → IsFirstOf text c rest
first_of text rest c utf8 spelled =
    let lengths : length text ≡ length (encode_utf8 c) + length rest = ap length spelled ∙ length-append (encode_utf8 c) rest in
    record {
      text = IsUtf8-past_char text rest c utf8 spelled;
      chars = chars_past_char text rest c utf8 spelled;
      shorter = omega (arith, lengths, length-encode c, (len_utf8_bounds c).0);
    }

-- what follows a text at the front of a text is a text
IsUtf8-after : (text before after : List ℕ) → IsUtf8 text → IsUtf8 before → text ≡ before ++ after → IsUtf8 after
IsUtf8-after text before after utf8 front spelled =
    let taken : take (length before) text ≡ before = rw spelled (take-append_seam before after) in
    let within : length before ≤ length text = omega (arith, ap length spelled, length-append before after) in
    let seam = IsCharBoundary-from_take text (length before) utf8 within (rw taken front) in
    rw (ap (drop (length before)) spelled ∙ drop-append_seam before after) at (IsUtf8-drop text (length before) utf8 seam)

pub last_of : (text before : List ℕ) (c : ℕ) → IsUtf8 text → IsUtf8 before → text ≡ before ++ encode_utf8 c → IsLastOf text before c
last_of text before c utf8 front spelled =
    let last = IsUtf8-after text before (encode_utf8 c) utf8 front spelled in
    let alone : chars (encode_utf8 c) ≡ c ∷ [] = chars_past_char (encode_utf8 c) [] c last (sym (append-nil (encode_utf8 c))) ∙ ap (λ cs. c ∷ cs) chars-nil in
    let lengths : length text ≡ length before + length (encode_utf8 c) = ap length spelled ∙ length-append before (encode_utf8 c) in
    record {
      text = front;
      chars = rw (spelled, chars-append before (encode_utf8 c) front, alone) refl;
      shorter = omega (arith, lengths, length-encode c, (len_utf8_bounds c).0);
    }

-- an empty text is one without characters
pub no_bytes : (text : List ℕ) → IsUtf8 text → length text == 0 ≡ is_empty (chars text)
no_bytes [] utf8 = rw chars-nil refl
no_bytes (b ∷ text) utf8 = some (chars (b ∷ text)) (encodes-chars (b ∷ text) utf8)
  where
    some : (cs : List ℕ) → encode_utf8_all cs ≡ b ∷ text → length (b ∷ text) == 0 ≡ is_empty cs
    some [] wrong = absurd (cc)
    some (c ∷ cs) spelled = grind (arith, nat_tests)
