-- The digits of the hexadecimal table are ASCII, so the text is UTF-8.
use Rattle.std.proofs.Common.{◌≡◌, ◌<◌, List, [], ◌∷◌, ℕ, true, nat_lt, refl, arith}
use Rattle.std.specs.List.{list_all}
use Rattle.std.specs.Str.{IsAscii, IsUtf8}
use Rattle.std.proofs.lemmas.Bool.{and_parts}
use Rattle.std.proofs.lemmas.Str.{IsUtf8-from_ascii}
use Rattle.std.proofs.lemmas.Str.Ascii.{IsAscii-nil, IsAscii-cons}
use Rattle.hex.specs.Hex.{encode_lower, lower_digits}
use Rattle.hex.proofs.HexLemmas.{IsAscii-encode_with}
use Rattle.block_hash.proofs.Digest16Display.fmt.Goals as goal

-- bytes that each pass the test are ASCII
IsAscii-from_test : (bytes : List ℕ) → list_all (λ b. nat_lt b 128) bytes ≡ true → IsAscii bytes
IsAscii-from_test [] h = IsAscii-nil
IsAscii-from_test (b ∷ rest) h =
    let parts = and_parts (nat_lt b 128) (list_all (λ x. nat_lt x 128) rest) h in
    let below : b < 128 = let test = parts.0 in grind arith in
    IsAscii-cons b rest below (IsAscii-from_test rest parts.1)

-- text that equals a hexadecimal text is UTF-8
IsUtf8-encode_lower : (text bytes : List ℕ) → text ≡ encode_lower bytes → IsUtf8 text
IsUtf8-encode_lower text bytes e =
    let ascii = IsAscii-encode_with lower_digits bytes (IsAscii-from_test lower_digits refl) in
    rw e (IsUtf8-from_ascii (encode_lower bytes) ascii)

pub unreachable-requires-in_default-from_utf8 : goal.unreachable-requires-in_default-from_utf8
unreachable-requires-in_default-from_utf8 g c =
    c.in_default-from_utf8.ensures.cases.0 (IsUtf8-encode_lower _ _ c.in-Ok.ensures.written)
