-- A valid table has one spelling, which is no table's but its own, and no spelling begins another.
use Rattle.std.proofs.Common.{◌≡◌, ℕ, List, [], ◌++◌, length, sym, ap, subst, ◌∙◌, append_assoc}
use Rattle.std.specs.List.{flat_map, AllByRecursion}
use Rattle.std.proofs.lemmas.List.{append-nil, append_cancel_left}
use Rattle.std.proofs.lemmas.List.Elements.{recursion_from_All}
use Rattle.sha2.specs.Sha256.{sha256}
use Rattle.file_table.specs.declared.shape.Shape.{Shape}
use Rattle.file_table.specs.declared.info.Info.{Info}
use Rattle.file_table.specs.Table.{Column, TableValue}
use Rattle.file_table.specs.Valid.{IsValid, IsInfo}
use Rattle.content_file.specs.declared.head.Head.{Head}
use Rattle.content_file.specs.Head.{head_bytes, head_at, IsHead}
use Rattle.content_file.specs.Spelling.{column_bytes, info_bytes, body, spelling}
use Rattle.content_file.proofs.Fitting.{columns_fit}
use Rattle.content_file.proofs.Apart.{FitsColumn, apart_from_again, many_apart, column_apart, info_apart}
use Rattle.content_file.proofs.Whole.{head_of_table, head_again, body-parts}
use Rattle.content_file.proofs.Whole.{is_head}

table_is : (a b : TableValue) → a.shape ≡ b.shape → a.columns ≡ b.columns → a.infos ≡ b.infos → a ≡ b
table_is a b s c i =
    let e : ◌≡◌ {A = Shape × List Column × List Info} (a.shape, a.columns, a.infos) (b.shape, b.columns, b.infos) = cc in
    ap (λ (t : Shape × List Column × List Info). record { shape = t.0; columns = t.1; infos = t.2 }) e

pub body_apart : (a b : TableValue) (x y : List ℕ) → IsValid a → IsValid b → body a ++ x ≡ body b ++ y → (a ≡ b) × (x ≡ y)
body_apart a b x y valid_a valid_b e =
    let columns = λ (t : TableValue). flat_map column_bytes t.columns in
    let infos = λ (t : TableValue). flat_map info_bytes t.infos in
    let head = apart_from_again IsHead head_bytes head_at head_again (head_of_table a) (head_of_table b) (columns a ++ (infos a ++ x)) (columns b ++ (infos b ++ y)) (is_head a valid_a) (is_head b valid_b)
    (sym (body-parts a x) ∙ e ∙ body-parts b y) in
    let shape : a.shape ≡ b.shape = ap (λ (h : Head). h.shape) head.0 in
    let size = a.shape.block_size in
    let fits_a = columns_fit (length a.infos) size [] a.columns valid_a.short valid_a.columns valid_a.whole in
    let fits_b = columns_fit (length b.infos) b.shape.block_size [] b.columns valid_b.short valid_b.columns valid_b.whole in
    let fits_so = subst (λ (s : Shape). AllByRecursion (FitsColumn s.block_size) b.columns) (sym shape) fits_b in
    let second = many_apart (FitsColumn size) column_bytes (column_apart size) a.columns b.columns (infos a ++ x) (infos b ++ y) fits_a fits_so (ap (λ (h : Head). h.columns) head.0) head.1 in
    let third = many_apart IsInfo info_bytes info_apart a.infos b.infos x y (recursion_from_All IsInfo a.infos valid_a.infos.each) (recursion_from_All IsInfo b.infos valid_b.infos.each) (ap (λ (h : Head). h.length) head.0) second.1 in
    (table_is a b shape second.0 third.0, third.1)

pub spelling_apart : (a b : TableValue) (x y : List ℕ) → IsValid a → IsValid b → spelling a ++ x ≡ spelling b ++ y → (a ≡ b) × (x ≡ y)
spelling_apart a b x y valid_a valid_b e =
    let same = body_apart a b (sha256 (body a) ++ x) (sha256 (body b) ++ y) valid_a valid_b (sym (append_assoc (body a) (sha256 (body a)) x) ∙ e ∙ append_assoc (body b) (sha256 (body b)) y) in
    let digest : sha256 (body b) ++ x ≡ sha256 (body b) ++ y = ap (λ (t : TableValue). sha256 (body t) ++ x) (sym same.0) ∙ same.1 in
    (same.0, append_cancel_left (sha256 (body b)) x y digest)

pub no_front : (a b : TableValue) (x : List ℕ) → IsValid a → IsValid b → spelling b ≡ spelling a ++ x → (a ≡ b) × (x ≡ [])
no_front a b x valid_a valid_b e = spelling_apart a b x [] valid_a valid_b (sym e ∙ sym (append-nil (spelling b)))

pub one_spelled : (a b : TableValue) → IsValid a → IsValid b → spelling a ≡ spelling b → a ≡ b
one_spelled a b valid_a valid_b e = (spelling_apart a b [] [] valid_a valid_b (ap (λ (s : List ℕ). s ++ []) e)).0
