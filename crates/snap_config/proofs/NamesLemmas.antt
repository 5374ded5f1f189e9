-- Names of disks, files and folders.
use Rattle.std.proofs.Common.{◌≡◌, ◌≢◌, ℕ, zero, suc, ◌-◌, ◌<◌, ◌≤◌, List, [], ◌∷◌, ◌++◌, length, get_or, take, Bool, true, false, ◌==◌, ◌||◌, nat_le, bytes_eq, codes, Contains, IsTrue, ◌↔◌, IsUtf8, Decides, refl, sym, ap, ◌∙◌, arith, length-append, append_assoc}
use Rattle.std.proofs.lemmas.Bool.Decides.{nat_tests, Decides-and, Decides-like}
use Rattle.std.proofs.lemmas.Slice.Eq.{bytes_eq-Decides}
use Rattle.std.proofs.Math.Seq.{take-append_seam}
use Rattle.std.specs.List.{list_all}
use Rattle.disk_model.specs.Name.{IsName, is_name_byte, level_names}
use Rattle.array_setup.proofs.BoolLemmas.{first_false, rest_false, same_tests, not_Decides}
use Rattle.array_setup.proofs.MatchingLemmas.{ends-slash, ends_front}
use Rattle.array_setup.specs.Keeps.{has_name}
use Rattle.snap_config.specs.Names.{is_disk_name, single_slashes, file_name, without_end_slash, part_of}
use Rattle.array_setup.specs.Pattern.{has_byte, ends_with_slash}
use Rattle.array_setup.specs.Walk.{IsCut}

-- ---- names of disks

among_some : (names : List (List ℕ)) (name : List ℕ) → has_name names name ≡ true → Contains names name
among_some [] name is = absurd (cc)
among_some (own ∷ names) name is = cases (bytes_eq own name) refl is (among_some names name)
  where
    cases : (b : Bool) → bytes_eq own name ≡ b → b || has_name names name ≡ true → (has_name names name ≡ true → Contains names name) → Contains (own ∷ names) name
    cases true here is' later = (0, omega arith, (bytes_eq-Decides own name).0 here)
    cases false here is' later = let found = later is' in (suc found.0, omega (arith, found.1), found.2)

among_all : (names : List (List ℕ)) (name : List ℕ) (k : ℕ) → k < length names → get_or names k name ≡ name → has_name names name ≡ true
among_all [] name k below is = absurd (omega (arith, below))
among_all (own ∷ names) name zero below is = let here : bytes_eq own name ≡ true = (bytes_eq-Decides own name).1 is in rw here refl
among_all (own ∷ names) name (suc k) below is =
    let later : has_name names name ≡ true = among_all names name k (omega (arith, below)) is in
    cases (bytes_eq own name) later
  where
    cases : (b : Bool) → has_name names name ≡ true → b || has_name names name ≡ true
    cases true later = refl
    cases false later = later

level_Decides : (name : List ℕ) → Decides (has_name level_names name) (Contains level_names name)
level_Decides name = (among_some level_names name, λ has. among_all level_names name has.0 has.1 has.2)

pub name_Decides : (name : List ℕ) → Decides (is_disk_name name) (IsName name)
name_Decides name =
    let least : Decides (nat_le 1 (length name)) (1 ≤ length name) = ((λ e. grind (arith, nat_tests)), λ h. grind (arith, nat_tests)) in
    let most : Decides (nat_le (length name) 64) (length name ≤ 64) = ((λ e. grind (arith, nat_tests)), λ h. grind (arith, nat_tests)) in
    let bytes : Decides (list_all is_name_byte name) (IsTrue (list_all is_name_byte name)) = ((λ e. e), λ h. h) in
    Decides-like (is_disk_name name)
    (λ h. record { some = h.0.0.0; short = h.0.0.1; bytes = h.0.1; no_level = h.1 })
    (λ is. (((is.some, is.short), is.bytes), is.no_level))
    (Decides-and _ _ (Decides-and _ _ (Decides-and _ _ least most) bytes) (not_Decides _ (level_Decides name)))

pub disk_name : (name : List ℕ) (r : Bool) → (IsTrue r ↔ IsName name) → r ≡ is_disk_name name
disk_name name r is = same_tests r (is_disk_name name) is (name_Decides name) (λ h. h) (λ h. h)

-- ---- slashes at the end of a folder's name

pub end-here : (name front : List ℕ) → name ≡ front ++ 47 ∷ [] → bytes_eq name (codes "/") ≡ false → front ≡ without_end_slash name
end-here name front spelled more =
    let taken : take (length name - 1) name ≡ front =
    ap (λ n. take n name) (omega (arith, ap length spelled, length-append front (47 ∷ []))) ∙ ap (take (length front)) spelled ∙ take-append_seam front (47 ∷ []) in
    sym (rw (ap ends_with_slash spelled ∙ ends-slash front, more, taken) refl)

pub end-none : (name : List ℕ) → ((front : List ℕ) → name ≢ front ++ 47 ∷ []) → name ≡ without_end_slash name
end-none name none = sym (rw (cases (ends_with_slash name) refl) refl)
  where
    cases : (ends : Bool) → ends_with_slash name ≡ ends → ends ≡ false
    cases true is = let found = ends_front name is in absurd (none found.0 found.1)
    cases false is = refl

-- ---- runs of slashes

single-alone : (follows : Bool) (text : List ℕ) → has_byte 47 text ≡ false → single_slashes follows text ≡ text
single-alone follows [] none = refl
single-alone follows (b ∷ text) none =
    rw (first_false (b == 47) (has_byte 47 text) none, single-alone false text (rest_false (b == 47) (has_byte 47 text) none)) refl

single-part : (follows : Bool) (part after : List ℕ) → has_byte 47 part ≡ false → single_slashes follows (part ++ 47 ∷ after) ≡ part_of follows part ++ single_slashes true after
single-part true [] after none = refl
single-part false [] after none = refl
single-part follows (b ∷ part) after none =
    rw (first_false (b == 47) (has_byte 47 part) none, single-part false part after (rest_false (b == 47) (has_byte 47 part) none)) (cases follows)
  where
    cases : (follows : Bool) → b ∷ ((part ++ 47 ∷ []) ++ single_slashes true after) ≡ part_of follows (b ∷ part) ++ single_slashes true after
    cases true = refl
    cases false = refl

-- what is made so far, before what is left
pub record IsMade (text made rest : List ℕ) (follows : Bool) : Type 0 where
  pub rest_text : IsUtf8 rest
  pub same : file_name text ≡ made ++ single_slashes follows rest

pub made-next : (text made rest part after new : List ℕ) (follows : Bool) → IsMade text made rest follows → IsCut 47 rest part after → new ≡ made ++ part_of follows part
    → IsMade text new after true
made-next text made rest part after new follows is cut pushed =
    record {
      rest_text = cut.back;
      same = is.same ∙ ap (λ r. made ++ r) (ap (single_slashes follows) cut.spelled ∙ single-part follows part after cut.first)
          ∙ sym (append_assoc made (part_of follows part) (single_slashes true after)) ∙ ap (λ m. m ++ single_slashes true after) (sym pushed);
    }

pub made-done : (text made rest : List ℕ) (follows : Bool) → IsMade text made rest follows → has_byte 47 rest ≡ false → made ++ rest ≡ file_name text
made-done text made rest follows is none = sym (is.same ∙ ap (λ r. made ++ r) (single-alone follows rest none))
