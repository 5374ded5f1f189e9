-- What stands before the columns, as it is read without a flaw.
use Rattle.std.proofs.Common.{◌≡◌, ℕ, List, Some, refl, ap}
use Rattle.std.specs.Int.{w32}
use Rattle.block_hash.specs.declared.Kind.{Kind}
use Rattle.file_table.specs.declared.shape.Shape.{Shape}
use Rattle.content_file.specs.declared.head.Head.{Head}
use Rattle.content_file.specs.Head.{head_at}
use Rattle.content_file.specs.Reading.{byte_at, number_at, kibibytes_at, levels_at, kind_at, shape_at, length_at, count_at, magic_at}
use Rattle.content_file.specs.Flaw.{Good}
use Rattle.content_file.specs.FirstFlaw.{read_magic, read_from_one, read_kind, read_shape, read_length, read_head}
use Rattle.std.proofs.lemmas.Bool.{le-ltb}
use Rattle.content_file.proofs.TestsLemmas.{leb_Decides}
use Rattle.content_file.proofs.FlawLemmas.{good_is, good_then, found_is, passed_is}

magic_found : (bytes rest : List ℕ) → read_magic bytes ≡ Good rest → magic_at bytes ≡ Some rest
unfolding read_magic magic_at
magic_found bytes rest e =
    good_then _ _ _ e (λ text e0 r0. good_then _ _ _ r0 (λ known e1 r1. good_then _ _ _ r1 (λ version e2 r2.
    let t = passed_is _ _ _ _ _ e1 in
    let v = passed_is _ _ _ _ _ r2 in
    rw (found_is _ _ _ _ e0, t.0, t.1, found_is _ _ _ _ e2, v.0, v.1) refl)))

kibibytes_found : (bytes : List ℕ) (x : ℕ × List ℕ) → read_from_one 4096 bytes (number_at w32 bytes) ≡ Good x → kibibytes_at bytes ≡ Some x
unfolding read_from_one kibibytes_at
kibibytes_found bytes x e = good_then _ _ _ e (λ field e0 r0. rw (found_is _ _ _ _ e0) (found_is _ _ _ _ r0))

levels_found : (bytes : List ℕ) (x : ℕ × List ℕ) → read_from_one 6 bytes (byte_at bytes) ≡ Good x → levels_at bytes ≡ Some x
unfolding read_from_one levels_at
levels_found bytes x e = good_then _ _ _ e (λ field e0 r0. rw (found_is _ _ _ _ e0) (found_is _ _ _ _ r0))

count_found : (bytes : List ℕ) (x : ℕ × List ℕ) → read_from_one 251 bytes (byte_at bytes) ≡ Good x → count_at bytes ≡ Some x
unfolding read_from_one count_at
count_found bytes x e = good_then _ _ _ e (λ field e0 r0. rw (found_is _ _ _ _ e0) (found_is _ _ _ _ r0))

kind_found : (bytes : List ℕ) (x : Kind × List ℕ) → read_kind bytes ≡ Good x → kind_at bytes ≡ Some x
unfolding read_kind kind_at
kind_found bytes x e = good_then _ _ _ e (λ code e0 r0. good_then _ _ _ r0 (λ kind e1 r1.
    rw (found_is _ _ _ _ e0, found_is _ _ _ _ e1) (ap (λ z. Some z) (good_is _ _ r1))))

shape_found : (bytes : List ℕ) (x : Shape × List ℕ) → read_shape bytes ≡ Good x → shape_at bytes ≡ Some x
unfolding read_shape shape_at
shape_found bytes x e =
    good_then _ _ _ e (λ size e0 r0. good_then _ _ _ r0 (λ levels e1 r1. good_then _ _ _ r1 (λ kind e2 r2. good_then _ _ _ r2 (λ seed e3 r3.
    rw (kibibytes_found _ _ e0, levels_found _ _ e1, kind_found _ _ e2, found_is _ _ _ _ e3) (ap (λ z. Some z) (good_is _ _ r3))))))

length_found : (bytes : List ℕ) (x : ℕ × List ℕ) → read_length bytes ≡ Good x → length_at bytes ≡ Some x
unfolding read_length length_at
length_found bytes x e = good_then _ _ _ e (λ size e0 r0.
    let p = passed_is _ _ _ _ _ r0 in
    rw (found_is _ _ _ _ e0, le-ltb 67108864 size.0 ((leb_Decides size.0 67108864).0 p.0), p.1) refl)

pub head_found : (bytes : List ℕ) (x : Head × List ℕ) → read_head bytes ≡ Good x → head_at bytes ≡ Some x
unfolding read_head head_at
head_found bytes x e =
    good_then _ _ _ e (λ rest e0 r0. good_then _ _ _ r0 (λ shape e1 r1. good_then _ _ _ r1 (λ size e2 r2. good_then _ _ _ r2 (λ count e3 r3.
    rw (magic_found _ _ e0, shape_found _ _ e1, length_found _ _ e2, count_found _ _ e3) (ap (λ z. Some z) (good_is _ _ r3))))))
