-- What the tests of fields tell: each is true exactly where what it tests for holds.
use Rattle.std.proofs.Common.{◌≡◌, ◌⊎◌, inl, inr, ℕ, ◌≤◌, Bool, true, false, not, ◌||◌, leb, eqb, List, [], ◌∷◌, ◌++◌, length, refl, sym, ◌∙◌, append_assoc, arith, All, IsTrue}
use Rattle.std.specs.Prelude.{Decides, Contains, Any, IsSome, is_some, nat_eq, codes, bytes_eq, IsUtf8}
use Rattle.std.specs.List.{list_all, list_any, AllByRecursion, starts_with, ends_with}
use Rattle.std.specs.Ordering.{nat_cmp, is_lt}
use Rattle.std.specs.declared.cmp.Ordering.{Ordering}
use Rattle.std.specs.declared.cmp.Ordering.TheVariants.{Less, Equal, Greater}
use Rattle.std.specs.Str.{is_utf8}
use Rattle.std.specs.Cmp.Lexicographic.{slice_cmp}
use Rattle.std.proofs.lemmas.Bool.{le-leb, leb-true}
use Rattle.std.proofs.lemmas.Bool.Decides.{Decides-and, Decides-or, Decides-not, Decides-like, Decides-by_and, Decides-eqb}
use Rattle.std.proofs.lemmas.List.{get_or_default}
use Rattle.std.proofs.lemmas.List.Elements.{All-from_recursion, recursion_from_All}
use Rattle.std.proofs.lemmas.List.Folds.{Any-from_list_any, list_any-from_Any}
use Rattle.std.proofs.lemmas.Slice.Eq.{bytes_eq-Decides, starts_is, ends_is}
use Rattle.std.proofs.lemmas.Str.{IsUtf8-from_is_utf8, is_utf8-from_IsUtf8}
use Rattle.disk_model.specs.Path.{IsRecordPath, IsComponent, IsDirectoryOf, EndsWith, lost_suffix, components}
use Rattle.file_table.specs.declared.block.Block.{Block}
use Rattle.file_table.specs.Table.{Record, Column, positions_of, blocks_of}
use Rattle.file_table.specs.Valid.{IsHashedAt}
use Rattle.disk_model.specs.Name.{IsName, is_name_byte, level_names}
use Rattle.file_table.specs.Building.{last_record, IsGreatest, IsNested}
use Rattle.content_file.specs.Tests.{is_name, is_named, is_part, is_record_path, is_greatest, is_nested, is_used, is_hashed}
use Rattle.content_file.proofs.Columns.{column_of}

pub leb_Decides : (a b : ℕ) → Decides (leb a b) (a ≤ b)
leb_Decides a b = (leb-true a b, le-leb a b)

-- a test of some element, and of all
pub any_Decides : {X : Type 0} (p : X → Bool) (P : X → Type 0) → ((x : X) → Decides (p x) (P x)) → (xs : List X) → Decides (list_any p xs) (Any P xs)
any_Decides p P each xs = (
  λ e. let h = Any-from_list_any p xs e in (h.0, h.1, h.2, h.3, (each h.1).0 h.4),
  λ h. list_any-from_Any p xs (h.0, h.1, h.2, h.3, (each h.1).1 h.4),
)

pub all_Decides : {X : Type 0} (p : X → Bool) (P : X → Type 0) → ((x : X) → Decides (p x) (P x)) → (xs : List X) → Decides (list_all p xs) (All P xs)
all_Decides p P each xs = Decides-by_and p P (list_all p) each refl (λ _ _. refl) xs

-- a test that finds one element
contains_Decides : {X : Type 0} (p : X → Bool) (x : X) → ((y : X) → Decides (p y) (y ≡ x)) → (xs : List X) → Decides (list_any p xs) (Contains xs x)
contains_Decides p x each xs =
    Decides-like (list_any p xs)
    (λ h. (h.0, h.2, get_or_default xs h.0 x h.1 h.2 ∙ h.3 ∙ h.4))
    (λ h. (h.0, x, h.1, h.2, refl))
    (any_Decides p (λ y. y ≡ x) each xs)

-- ---- names

pub is_name-Decides : (name : List ℕ) → Decides (is_name name) (IsName name)
is_name-Decides name =
    let level : Decides (list_any (bytes_eq name) level_names) (Contains level_names name) =
    contains_Decides (bytes_eq name) name (λ y. Decides-like (bytes_eq name y) sym sym (bytes_eq-Decides name y)) level_names in
    let bytes : Decides (list_all is_name_byte name) (IsTrue (list_all is_name_byte name)) = (λ e. e, λ e. e) in
    Decides-like (is_name name)
    (λ h. record { some = h.0.0.0; short = h.0.0.1; bytes = h.0.1; no_level = h.1 })
    (λ is. (((is.some, is.short), is.bytes), is.no_level))
    (Decides-and _ _ (Decides-and _ _ (Decides-and _ _ (leb_Decides 1 (length name)) (leb_Decides (length name) 64)) bytes) (Decides-not _ level))

pub is_named-Decides : (columns : List Column) (name : List ℕ) → Decides (is_named columns name) (Any (λ (column : Column). column.name ≡ name) columns)
is_named-Decides columns name = any_Decides _ (λ (column : Column). column.name ≡ name) (λ column. bytes_eq-Decides column.name name) columns

-- ---- paths

is_part-Decides : (part : List ℕ) → Decides (is_part part) (IsComponent part × ¬ (EndsWith lost_suffix part))
is_part-Decides part =
    let end = ends_is Decides-eqb part lost_suffix (ends_with nat_eq part lost_suffix) refl in
    let lost : Decides (ends_with nat_eq part lost_suffix) (EndsWith lost_suffix part) = (λ e. (_, end.0 e), λ h. end.1 h.0 h.1) in
    Decides-like (is_part part)
    (λ h. (record { some = h.0.0.0; not_dot = h.0.0.1; not_dots = h.0.1 }, h.1))
    (λ h. (((h.0.some, h.0.not_dot), h.0.not_dots), h.1))
    (Decides-and _ _ (Decides-and _ _ (Decides-and _ _ (Decides-not _ (bytes_eq-Decides part [])) (Decides-not _ (bytes_eq-Decides part (codes ".")))) (Decides-not _ (bytes_eq-Decides part (codes "..")))) (Decides-not _ lost))

-- all parts have both of two properties
both : {X : Type 0} (P Q : X → Type 0) (xs : List X) → AllByRecursion P xs → AllByRecursion Q xs → AllByRecursion (λ x. P x × Q x) xs
both P Q [] p q = tt
both P Q (x ∷ xs) p q = ((p.0, q.0), both P Q xs p.1 q.1)

one_of_both : {X : Type 0} (P Q : X → Type 0) (xs : List X) → AllByRecursion (λ x. P x × Q x) xs → AllByRecursion P xs
one_of_both P Q [] h = tt
one_of_both P Q (x ∷ xs) h = (h.0.0, one_of_both P Q xs h.1)

other_of_both : {X : Type 0} (P Q : X → Type 0) (xs : List X) → AllByRecursion (λ x. P x × Q x) xs → AllByRecursion Q xs
other_of_both P Q [] h = tt
other_of_both P Q (x ∷ xs) h = (h.0.1, other_of_both P Q xs h.1)

abbrev IsNotLost : List ℕ → Type 0
IsNotLost part = ¬ (EndsWith lost_suffix part)

pub is_record_path-Decides : (path : List ℕ) → Decides (is_record_path path) (IsRecordPath path)
is_record_path-Decides path =
    let parts = components path in
    let each : Decides (list_all is_part parts) (All (λ part. IsComponent part × IsNotLost part) parts) = all_Decides is_part (λ part. IsComponent part × IsNotLost part) is_part-Decides parts in
    let zero_byte : Decides (list_any (λ byte. eqb byte 0) path) (Contains path 0) = contains_Decides (λ byte. eqb byte 0) 0 (λ byte. Decides-eqb byte 0) path in
    let utf8 : Decides (is_utf8 path) (IsUtf8 path) = (IsUtf8-from_is_utf8 path, is_utf8-from_IsUtf8 path) in
    Decides-like (is_record_path path)
    (λ h.
    let all = recursion_from_All (λ part. IsComponent part × IsNotLost part) parts h.1 in
    record {
      valid = record { utf8 = h.0.0.0; short = omega (arith, h.0.0.1); no_zero = h.0.1; components = one_of_both IsComponent IsNotLost parts all };
      short = h.0.0.1;
      not_lost = other_of_both IsComponent IsNotLost parts all;
    })
    (λ is. (((is.valid.utf8, is.short), is.valid.no_zero), All-from_recursion (λ part. IsComponent part × IsNotLost part) parts (both IsComponent IsNotLost parts is.valid.components is.not_lost)))
    (Decides-and _ _ (Decides-and _ _ (Decides-and _ _ utf8 (leb_Decides (length path) 4082)) (Decides-not _ zero_byte)) each)

lt_Decides : (o : Ordering) → Decides (is_lt o) (o ≡ Less)
lt_Decides Less = (λ _. refl, λ _. refl)
lt_Decides Equal = (λ e. absurd cc, λ e. absurd cc)
lt_Decides Greater = (λ e. absurd cc, λ e. absurd cc)

pub is_greatest-Decides : (name : List ℕ) (records : List Record) (path : List ℕ) → Decides (is_greatest records path) (IsGreatest (column_of name records) path)
is_greatest-Decides name records path =
    let less = lt_Decides (slice_cmp nat_cmp (last_record records).path path) in
    Decides-like (is_greatest records path)
    (λ h some. elim h [ inl none ↦ absurd (omega (arith, none)) | inr is ↦ is ])
    (λ is. either records is)
    (Decides-or _ _ (Decides-eqb (length records) 0) less)
  where
    either : (records : List Record) → IsGreatest (column_of name records) path → (length records ≡ 0) ⊎ (slice_cmp nat_cmp (last_record records).path path ≡ Less)
    either [] is = inl refl
    either (r ∷ records) is = inr (is (omega arith))

pub is_nested-Decides : (name : List ℕ) (records : List Record) (path : List ℕ) → Decides (is_nested records path) (IsNested (column_of name records) path)
is_nested-Decides name records path = any_Decides (λ (kept : Record). starts_with nat_eq path (kept.path ++ 47 ∷ [])) (λ (kept : Record). IsDirectoryOf kept.path path) one records
  where
    one : (kept : Record) → Decides (starts_with nat_eq path (kept.path ++ 47 ∷ [])) (IsDirectoryOf kept.path path)
    one kept =
        let front = starts_is Decides-eqb path (kept.path ++ 47 ∷ []) (starts_with nat_eq path (kept.path ++ 47 ∷ [])) refl in (
          λ e. (_, front.0 e ∙ append_assoc kept.path (47 ∷ []) _),
          λ h. front.1 h.0 (h.1 ∙ sym (append_assoc kept.path (47 ∷ []) h.0)),
        )

-- ---- blocks

pub is_used-Decides : (blocks : List Block) (position : ℕ) → Decides (is_used blocks position) (Contains (positions_of blocks) position)
is_used-Decides blocks position = contains_Decides (λ used. eqb used position) position (λ used. Decides-eqb used position) (positions_of blocks)

pub is_hashed-Decides : (columns : List Column) (stripe : ℕ) → Decides (is_hashed columns stripe) (IsHashedAt columns stripe)
is_hashed-Decides columns stripe = all_Decides (λ (block : Block). not (eqb block.position stripe) || is_some block.hash) (λ (block : Block). block.position ≡ stripe → IsSome block.hash) one (blocks_of columns)
  where
    implies : (b c : Bool) (P Q : Type 0) → Decides b P → Decides c Q → Decides (not b || c) (P → Q)
    implies true c P Q p q = (λ e _. q.0 e, λ h. q.1 (h (p.0 refl)))
    implies false c P Q p q = (λ _ is. absurd (no P p is), λ _. refl)
      where
        no : (P : Type 0) → Decides false P → P → ⊥
        no P p is = let e : false ≡ true = p.1 is in cc

    one : (block : Block) → Decides (not (eqb block.position stripe) || is_some block.hash) (block.position ≡ stripe → IsSome block.hash)
    one block = implies (eqb block.position stripe) (is_some block.hash) (block.position ≡ stripe) (IsSome block.hash) (Decides-eqb block.position stripe) (λ e. e, λ e. e)
