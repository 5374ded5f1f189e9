-- The name of a file of the array is a valid path.
use Rattle.std.proofs.Common.{◌≡◌, ℕ, zero, suc, ◌/◌, ◌<◌, ◌≤◌, ◌==◌, List, [], ◌∷◌, length, slice_index, Bool, true, false, All, IsUtf8, if◌then◌else◌, refl, sym, ap, ◌∙◌, subst, arith}
use Rattle.std.proofs.lemmas.Bool.Decides.{Decides-eqb}
use Rattle.std.proofs.lemmas.List.Elements.{All-cons, All-contains, All-nil}
use Rattle.std.proofs.lemmas.Str.{IsUtf8-from_ascii}
use Rattle.std.specs.List.{AllByRecursion}
use Rattle.disk_model.specs.Path.{IsComponent, IsValidPath, components, with_front}
use Rattle.snap_exercise.specs.Generated.{digit, path_of}

-- an ASCII byte behind the slash
abbrev pub IsPlain : ℕ → Type 0
IsPlain byte = (48 ≤ byte) × (byte < 128)

plain_digit : (k : ℕ) → IsPlain (digit k)
plain_digit k = (omega arith, omega arith)

pub plain_name : (file : ℕ) → All IsPlain (path_of file)
plain_name file =
    let a = digit (file / 1000) in
    let b = digit (file / 100) in
    let c = digit (file / 10) in
    let d = digit file in
    All-cons IsPlain 102 (a ∷ b ∷ c ∷ d ∷ []) (omega arith, omega arith)
    (All-cons IsPlain a (b ∷ c ∷ d ∷ []) (plain_digit (file / 1000)) (All-cons IsPlain b (c ∷ d ∷ []) (plain_digit (file / 100)) (All-cons IsPlain c (d ∷ []) (plain_digit (file / 10)) (All-cons IsPlain d [] (plain_digit file) (All-nil IsPlain)))))

ascii_of : (bytes : List ℕ) → All IsPlain bytes → (i : ℕ) → slice_index bytes i < 128
ascii_of [] plain i = omega arith
ascii_of (byte ∷ bytes) plain zero = (plain 0 byte (omega arith)).1
ascii_of (byte ∷ bytes) plain (suc i) = ascii_of bytes (λ k d below. plain (suc k) d (omega (arith, below))) i

not_true : (b : Bool) → (b ≡ true → ⊥) → b ≡ false
not_true true wrong = absurd (wrong refl)
not_true false wrong = refl

pub one_part : (bytes : List ℕ) → All IsPlain bytes → components bytes ≡ bytes ∷ []
one_part [] plain = refl
one_part (byte ∷ bytes) plain =
    let here = (plain 0 byte (omega arith)).0 in
    let other : (byte == 47) ≡ false = not_true (byte == 47) (λ yes. let is = (Decides-eqb byte 47).0 yes in omega (arith, is, here)) in
    ap (λ (t : Bool). if t then [] ∷ components bytes else with_front byte (components bytes)) other
    ∙ ap (with_front byte) (one_part bytes (λ k d below. plain (suc k) d (omega (arith, below))))

pub valid_name : (file : ℕ) → IsValidPath (path_of file)
valid_name file = record {
  utf8 = IsUtf8-from_ascii (path_of file) (ascii_of (path_of file) (plain_name file));
  short = omega arith;
  no_zero = λ there. let plain = All-contains IsPlain (path_of file) 0 (plain_name file) there in omega (arith, plain.0);
  components = subst (AllByRecursion IsComponent) (sym (one_part (path_of file) (plain_name file))) (whole, tt);
}
  where
    whole : IsComponent (path_of file)
    whole = record {
      some = λ same. let long = ap length same in omega (arith, long);
      not_dot = λ same. let long = ap length same in omega (arith, long);
      not_dots = λ same. let long = ap length same in omega (arith, long);
    }

-- so is it with its digits
pub utf8_name : (file a b c d : ℕ) → a ≡ digit (file / 1000) → b ≡ digit (file / 100) → c ≡ digit (file / 10) → d ≡ digit file → IsUtf8 (102 ∷ a ∷ b ∷ c ∷ d ∷ [])
utf8_name file a b c d p q r s = subst IsUtf8 (sym (λ i. 102 ∷ p i ∷ q i ∷ r i ∷ s i ∷ [])) (valid_name file).utf8
