-- The name of a lost file is a valid path, in the directories of its own path.
use Rattle.std.proofs.Common.{◌≡◌, ◌≢◌, inl, inr, ⊎_elim, ℕ, ◌+◌, ◌-◌, ◌<◌, ◌==◌, List, [], ◌∷◌, ◌++◌, length, take, drop, get_or, Bool, true, false, not, cond, refl, sym, ◌∙◌, ap, subst, arith, length-append, append_assoc}
use Rattle.std.specs.Prelude.{nat_lt, IsAscii}
use Rattle.std.specs.List.{AllByRecursion, Contains, list_all}
use Rattle.std.proofs.lemmas.Bool.{cases_lt, eqb-false, ltb-true}
use Rattle.std.proofs.lemmas.Bool.Decides.{Decides-eqb}
use Rattle.std.proofs.lemmas.List.{get_or_at, get_or-append_right, get_or_default, take-append-le, take-append-drop, take_at}
use Rattle.std.proofs.lemmas.List.Elements.{Contains-append_cases}
use Rattle.std.proofs.lemmas.List.Sums.{AllPass-from_list_all}
use Rattle.std.proofs.lemmas.Slice.Eq.{starts_is}
use Rattle.std.proofs.lemmas.Str.{IsUtf8-append, IsUtf8-from_ascii}
use Rattle.std.proofs.lemmas.Str.Ascii.{IsAscii-from_all}
use Rattle.disk_model.specs.Path.{components, with_front, IsComponent, IsValidPath, IsRecordPath, lost_suffix}
use Rattle.disk_model.specs.Tree.{path_of, is_directory_of}

-- ---- its parts

-- parts, the last of which ends as the name of a lost file does
abbrev lost_parts : List (List ℕ) → List (List ℕ)
lost_parts [] = lost_suffix ∷ []
lost_parts (part ∷ []) = (part ++ lost_suffix) ∷ []
lost_parts (part ∷ other ∷ parts) = part ∷ lost_parts (other ∷ parts)

-- parts with one more byte in front, which is a slash or not
abbrev with_byte : Bool → ℕ → List (List ℕ) → List (List ℕ)
with_byte slash byte parts = cond slash ([] ∷ parts) (with_front byte parts)

with_byte_some : (slash : Bool) (byte : ℕ) (parts : List (List ℕ)) → with_byte slash byte parts ≢ []
with_byte_some true byte parts none = cc
with_byte_some false byte [] none = cc
with_byte_some false byte (part ∷ parts) none = cc

some_part : (bytes : List ℕ) → components bytes ≢ []
some_part [] none = cc
some_part (byte ∷ bytes) none = with_byte_some (byte == 47) byte (components bytes) none

with_byte_lost : (slash : Bool) (byte : ℕ) (parts : List (List ℕ)) → parts ≢ [] → with_byte slash byte (lost_parts parts) ≡ lost_parts (with_byte slash byte parts)
with_byte_lost true byte [] some = absurd (some refl)
with_byte_lost true byte (part ∷ parts) some = refl
with_byte_lost false byte [] some = refl
with_byte_lost false byte (part ∷ []) some = refl
with_byte_lost false byte (part ∷ other ∷ parts) some = refl

components-lost : (bytes : List ℕ) → components (bytes ++ lost_suffix) ≡ lost_parts (components bytes)
components-lost [] = refl
components-lost (byte ∷ bytes) = ap (with_byte (byte == 47) byte) (components-lost bytes) ∙ with_byte_lost (byte == 47) byte (components bytes) (some_part bytes)

longer : (part other : List ℕ) → length other < 14 → part ++ lost_suffix ≢ other
longer part other short same =
    let long : length (part ++ lost_suffix) ≡ length part + 14 = length-append part lost_suffix in
    let as_long : length (part ++ lost_suffix) ≡ length other = ap length same in
    absurd (omega arith)

lost_component : (part : List ℕ) → IsComponent (part ++ lost_suffix)
lost_component part = record {
  some = longer part [] (omega arith);
  not_dot = longer part (46 ∷ []) (omega arith);
  not_dots = longer part (46 ∷ 46 ∷ []) (omega arith);
}

all_lost : (parts : List (List ℕ)) → AllByRecursion IsComponent parts → AllByRecursion IsComponent (lost_parts parts)
all_lost [] all = (lost_component [], tt)
all_lost (part ∷ []) all = (lost_component part, tt)
all_lost (part ∷ other ∷ parts) all = (all.0, all_lost (other ∷ parts) all.1)

-- ---- its bytes

-- its ending is ASCII, without a zero or a slash
not_false : (b : Bool) → not b ≡ true → b ≡ false
not_false true is = absurd (cc)
not_false false is = refl

ending_by : (test : ℕ → Bool) → list_all test lost_suffix ≡ true → (i : ℕ) → i < 14 → test (get_or lost_suffix i 0) ≡ true
ending_by test all i within = AllPass-from_list_all test lost_suffix all i 0 within

suffix_ascii : (i : ℕ) → i < 14 → get_or lost_suffix i 0 < 128
suffix_ascii i within = ltb-true (get_or lost_suffix i 0) 128 (ending_by (λ (byte : ℕ). nat_lt byte 128) refl i within)

suffix_some : (i : ℕ) → i < 14 → get_or lost_suffix i 0 ≢ 0
suffix_some i within = eqb-false (get_or lost_suffix i 0) 0 (not_false (get_or lost_suffix i 0 == 0) (ending_by (λ (byte : ℕ). not (byte == 0)) refl i within))

suffix_no_slash : (i : ℕ) → i < 14 → get_or lost_suffix i 0 ≢ 47
suffix_no_slash i within = eqb-false (get_or lost_suffix i 0) 47 (not_false (get_or lost_suffix i 0 == 47) (ending_by (λ (byte : ℕ). not (byte == 47)) refl i within))

ascii_suffix : IsAscii lost_suffix
ascii_suffix = IsAscii-from_all lost_suffix (λ i d within. subst (λ (b : ℕ). b < 128) (get_or_default lost_suffix i 0 d within) (suffix_ascii i within))

no_zero_suffix : ¬ (Contains lost_suffix 0)
no_zero_suffix there = suffix_some there.0 there.1 there.2

-- the name of the lost file of a record path is a valid path
pub lost_name_valid : (path : List ℕ) → IsRecordPath path → IsValidPath (path_of path true)
lost_name_valid path is = record {
  utf8 = IsUtf8-append path lost_suffix is.valid.utf8 (IsUtf8-from_ascii lost_suffix ascii_suffix);
  short = (let long : length (path ++ lost_suffix) ≡ length path + 14 = length-append path lost_suffix in omega (arith, is.short));
  no_zero = λ there. ⊎_elim is.valid.no_zero no_zero_suffix (Contains-append_cases path lost_suffix 0 there);
  components = subst (AllByRecursion IsComponent) (sym (components-lost path)) (all_lost (components path) is.valid.components);
}

-- ---- its directories

-- a directory of it is one of the path, as the ending has no slash
pub lost_directory : (directory path : List ℕ) → is_directory_of directory (path_of path true) ≡ true → is_directory_of directory path ≡ true
lost_directory directory path is =
    let n = length (directory ++ 47 ∷ []) in
    let long : n ≡ length directory + 1 = length-append directory (47 ∷ []) in
    let rest = drop n (path ++ lost_suffix) in
    let split : path ++ lost_suffix ≡ (directory ++ 47 ∷ []) ++ rest
    = (starts_is Decides-eqb (path ++ lost_suffix) (directory ++ 47 ∷ []) (is_directory_of directory (path ++ lost_suffix)) refl).0 is in
    elim (cases_lt (length directory) (length path)) [
      | inl within ↦
          let front : take n path ≡ directory ++ 47 ∷ [] = sym (take-append-le n path lost_suffix (omega (arith, within, long))) ∙ ap (take n) split ∙ take_at (directory ++ 47 ∷ []) rest n refl in
          (starts_is Decides-eqb path (directory ++ 47 ∷ []) (is_directory_of directory path) refl).1 (drop n path)
          (sym (take-append-drop n path) ∙ ap (λ (bytes : List ℕ). bytes ++ drop n path) front)
      | inr past ↦
          let k = length directory - length path in
          let in_ending : get_or (path ++ lost_suffix) (length directory) 0 ≡ get_or lost_suffix k 0 = get_or-append_right path lost_suffix (length path) (length directory) 0 refl past in
          let slash : get_or (path ++ lost_suffix) (length directory) 0 ≡ 47
          = ap (λ (bytes : List ℕ). get_or bytes (length directory) 0) (split ∙ append_assoc directory (47 ∷ []) rest) ∙ get_or_at directory 47 rest 0 (length directory) refl in
          let whole : length (path ++ lost_suffix) ≡ length path + 14 = length-append path lost_suffix in
          let parts : length ((directory ++ 47 ∷ []) ++ rest) ≡ n + length rest = length-append (directory ++ 47 ∷ []) rest in
          absurd (suffix_no_slash k (omega (arith, long, ap length split, whole, parts, past)) (sym in_ending ∙ slash))
    ]
