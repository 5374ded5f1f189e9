-- What `parse` gives for a text of digits alone.
use Rattle.std.proofs.Common.{◌≡◌, ℕ, ◌<◌, ◌≤◌, ◌^◌, List, [], ◌∷◌, length, true, ◌&&◌, Result, Ok, Err, refl, ap, arith}
use Rattle.std.proofs.lemmas.Bool.Decides.{nat_tests}
use Rattle.std.proofs.lemmas.Str.Parse.{IsNumeralModel, numerals_by_value, tells_all_ascii_digits, parse_digits, digits_value_short}
use Rattle.std.specs.Char.{is_ascii_digit}
use Rattle.std.specs.List.{list_all}
use Rattle.std.specs.Result.{OkIff, result_ok}
use Rattle.std.specs.Str.{all_ascii_digits}
use Rattle.std.specs.Str.Parse.{digits_value, ParsesUnsigned}
use Rattle.snap_config.specs.Number.{number_of}

digits_same : (text : List ℕ) → all_ascii_digits text ≡ list_all is_ascii_digit text
digits_same [] = refl
digits_same (b ∷ rest) = ap (λ all. is_ascii_digit b && all) (digits_same rest)

own : IsNumeralModel (λ ds. all_ascii_digits ds ≡ true) (digits_value 10)
own = numerals_by_value (λ ds. all_ascii_digits ds ≡ true) tells_all_ascii_digits

of_result : (text : List ℕ) {E : Type 0} (r : Result ℕ E) → list_all is_ascii_digit text ≡ true → length text ≤ 9 → digits_value 10 text < 10 ^ 9
    → OkIff r ((0 < length text) × (digits_value 10 text < 2 ^ 32)) (digits_value 10 text) → result_ok r ≡ number_of text
of_result text (Ok n) all short small parsed = let is = parsed.1 in let some = parsed.0.0 in grind (arith, nat_tests)
of_result text (Err e) all short small parsed = grind (arith, nat_tests)

pub parsed_digits : (text : List ℕ) {E : Type 0} (r : Result ℕ E) → ParsesUnsigned 32 10 text r → list_all is_ascii_digit text ≡ true → length text ≤ 9
    → result_ok r ≡ number_of text
parsed_digits text r parses all short =
    let digits : all_ascii_digits text ≡ true = rw digits_same all in
    of_result text r all short (digits_value_short own text 9 digits short) (parse_digits own 32 text r parses digits)
