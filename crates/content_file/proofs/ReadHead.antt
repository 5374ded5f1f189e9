-- What stands before the columns is read again from its spelling, without a flaw.
use Rattle.std.proofs.Common.{◌≡◌, ℕ, ◌*◌, ◌/◌, ◌^◌, ◌<◌, ◌≤◌, List, [], ◌∷◌, ◌++◌, Option, Some, refl, ap, ◌∙◌, append_assoc, arith}
use Rattle.std.specs.Prelude.{codes}
use Rattle.std.specs.Int.{w32, to_le_bytes}
use Rattle.block_hash.specs.declared.Kind.{Kind}
use Rattle.block_hash.specs.declared.Kind.TheVariants.{Md5, Sha256}
use Rattle.file_table.specs.declared.shape.Shape.{Shape}
use Rattle.file_table.specs.Valid.{IsShape}
use Rattle.content_file.specs.declared.head.Head.{Head}
use Rattle.content_file.specs.Head.{head_bytes, IsHead}
use Rattle.content_file.specs.Spelling.{magic, shape_bytes, kind_code}
use Rattle.content_file.specs.Reading.{kind_of}
use Rattle.content_file.specs.Flaw.{Good}
use Rattle.content_file.specs.FirstFlaw.{read_magic, read_from_one, read_kind, read_shape, read_length, read_head}
use Rattle.content_file.proofs.Fields.{wide32, number_again, piece_again}
use Rattle.content_file.proofs.Heads.{from_one_again}
use Rattle.content_file.proofs.Whole.{regroup_head}
use Rattle.content_file.proofs.TestsLemmas.{leb_Decides}
use Rattle.content_file.proofs.FlawLemmas.{then_good, found_good, passed_good}

magic_reads : (rest : List ℕ) → read_magic (magic ++ rest) ≡ Good rest
unfolding read_magic
magic_reads rest =
    then_good _ _ _ _ (found_good _ _ _ _ (piece_again 7 (codes "SNAPRCF") (1 ∷ rest) refl))
    (then_good _ _ _ _ (passed_good _ _ _ _ refl) (then_good _ _ _ _ (found_good _ _ _ (1, rest) refl) (passed_good _ _ _ _ refl)))

from_one_reads : (most : ℕ) (bytes : List ℕ) (number : Option (ℕ × List ℕ)) (n : ℕ) (rest : List ℕ) → number ≡ Some (n, rest) → 1 ≤ n → n ≤ most → read_from_one most bytes number ≡ Good (n, rest)
unfolding read_from_one
from_one_reads most bytes number n rest e some le = then_good _ _ _ _ (found_good _ _ _ _ e) (found_good _ _ _ _ (from_one_again most n rest some le))

kind_reads : (kind : Kind) (rest : List ℕ) → read_kind (kind_code kind ∷ rest) ≡ Good (kind, rest)
unfolding read_kind
kind_reads kind rest = then_good _ _ _ _ (found_good _ _ _ (kind_code kind, rest) refl) (then_good _ _ _ _ (found_good _ _ _ _ (is kind)) refl)
  where
    is : (kind : Kind) → kind_of (kind_code kind) ≡ Some kind
    is Md5 = refl
    is Sha256 = refl

shape_reads : (shape : Shape) (rest : List ℕ) → IsShape shape → read_shape (shape_bytes shape ++ rest) ≡ Good (shape, rest)
unfolding read_shape
shape_reads shape rest fits =
    let kibibytes = shape.block_size / 1024 in
    let size = fits.block_size in
    let some : 1 ≤ kibibytes = omega (arith, size.least) in
    let most : kibibytes ≤ 4096 = omega (arith, size.most) in
    let small : kibibytes < 2 ^ 32 = omega (arith, most) in
    let back : kibibytes * 1024 ≡ shape.block_size = omega (arith, size.kibibytes) in
    let after_kind = shape.seed ++ rest in
    let after_levels = kind_code shape.kind ∷ after_kind in
    let after_size = shape.levels ∷ after_levels in
    let regrouped : shape_bytes shape ++ rest ≡ to_le_bytes w32 kibibytes ++ after_size = append_assoc (to_le_bytes w32 kibibytes) (shape.levels ∷ kind_code shape.kind ∷ shape.seed) rest in
    ap read_shape regrouped
    ∙ then_good _ _ (kibibytes, after_size) _ (from_one_reads 4096 _ _ kibibytes after_size (number_again w32 (2 ^ 32) wide32 kibibytes after_size small) some most)
    (then_good _ _ (shape.levels, after_levels) _ (from_one_reads 6 _ _ shape.levels after_levels refl fits.levels.least fits.levels.most)
    (then_good _ _ (shape.kind, after_kind) _ (kind_reads shape.kind after_kind)
    (then_good _ _ (shape.seed, rest) _ (found_good _ _ _ _ (piece_again 16 shape.seed rest fits.seed.sixteen))
    (ap (λ (n : ℕ). Good (record { block_size = n; levels = shape.levels; kind = shape.kind; seed = shape.seed }, rest)) back))))

length_reads : (n : ℕ) (rest : List ℕ) → n ≤ 67108864 → read_length (to_le_bytes w32 n ++ rest) ≡ Good (n, rest)
unfolding read_length
length_reads n rest le =
    let small : n < 2 ^ 32 = omega arith in
    then_good _ _ (n, rest) _ (found_good _ _ _ _ (number_again w32 (2 ^ 32) wide32 n rest small)) (passed_good _ _ _ _ ((leb_Decides n 67108864).1 le))

pub head_reads : (head : Head) (rest : List ℕ) → IsHead head → read_head (head_bytes head ++ rest) ≡ Good (head, rest)
unfolding read_head
head_reads head rest is =
    let after_length = head.columns ∷ rest in
    let after_shape = to_le_bytes w32 head.length ++ after_length in
    let after_magic = shape_bytes head.shape ++ after_shape in
    ap read_head (regroup_head magic (shape_bytes head.shape) (to_le_bytes w32 head.length) (head.columns ∷ []) rest)
    ∙ then_good _ _ after_magic _ (magic_reads after_magic)
    (then_good _ _ (head.shape, after_shape) _ (shape_reads head.shape after_shape is.shape)
    (then_good _ _ (head.length, after_length) _ (length_reads head.length after_length is.short)
    (then_good _ _ (head.columns, rest) _ (from_one_reads 251 _ _ head.columns rest refl is.some_column is.few_columns) refl)))
