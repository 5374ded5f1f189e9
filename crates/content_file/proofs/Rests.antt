-- What is left of bytes when a field was read: some bytes less.
use Rattle.std.proofs.Common.{◌≡◌, ℕ, suc, zero, ◌<◌, ◌≤◌, List, [], ◌∷◌, ◌++◌, length, take, drop, ltb, Some, refl, sym, ap, subst, ◌∙◌, append_assoc, arith}
use Rattle.std.specs.Int.{Width, w16, w32, w64, byte_len, from_le_bytes}
use Rattle.std.proofs.lemmas.Bool.{ltb-false}
use Rattle.std.proofs.lemmas.List.{length-append, take-append-drop, length-take}
use Rattle.file_table.specs.Table.{Record, Column}
use Rattle.file_table.specs.declared.block.Block.{Block}
use Rattle.file_table.specs.declared.info.Info.{Info}
use Rattle.content_file.specs.Reading.{byte_at, number_at, piece_at, short_text_at, long_text_at}
use Rattle.content_file.specs.Flaw.{Good}
use Rattle.content_file.specs.FirstFlaw.{read_name, read_count, read_path, read_size, read_stamp, read_hash, read_block, read_info}
use Rattle.content_file.specs.ReadingOn.{read_file}
use Rattle.content_file.specs.Body.{EndsIn}
use Rattle.content_file.proofs.Fields.{bind_some, guard_false, some_is}
use Rattle.content_file.proofs.FlawLemmas.{good_is, good_then, not_bad, found_is, passed_is}

-- bytes end with these, and have some before
pub record RestOf (bytes rest : List ℕ) : Type 0 where
  pub before : List ℕ
  pub some : 0 < length before
  pub parts : bytes ≡ before ++ rest

pub ends_of : (bytes rest : List ℕ) → RestOf bytes rest → EndsIn bytes rest
ends_of bytes rest r = record { before = r.before; parts = r.parts }

pub shorter : (bytes rest : List ℕ) → RestOf bytes rest → length rest < length bytes
shorter bytes rest r = omega (arith, r.some, ap length r.parts, length-append r.before rest)

pub ends_then : (a b c : List ℕ) → EndsIn a b → EndsIn b c → EndsIn a c
ends_then a b c first second = record {
  before = first.before ++ second.before;
  parts = first.parts ∙ ap (λ (r : List ℕ). first.before ++ r) second.parts ∙ sym (append_assoc first.before second.before c);
}

pub rest_then : (a b c : List ℕ) → RestOf a b → EndsIn b c → RestOf a c
unfolding ends_then ends_of
rest_then a b c first second = record {
  before = first.before ++ second.before;
  some = omega (arith, first.some, length-append first.before second.before);
  parts = (ends_then a b c (ends_of a b first) second).parts;
}

byte_rest : (bytes : List ℕ) (x : ℕ × List ℕ) → byte_at bytes ≡ Some x → RestOf bytes x.1
byte_rest [] x e = absurd cc
byte_rest (byte ∷ rest) x e = subst (λ (p : ℕ × List ℕ). RestOf (byte ∷ rest) p.1) (some_is (byte, rest) x e) (record { before = byte ∷ []; some = omega arith; parts = refl })

dropped : (n : ℕ) (bytes : List ℕ) → 0 < n → n ≤ length bytes → RestOf bytes (drop n bytes)
dropped n bytes some le = record { before = take n bytes; some = omega (arith, length-take n bytes); parts = sym (take-append-drop n bytes) }

number_rest : (w : Width) (bytes : List ℕ) (x : ℕ × List ℕ) → 0 < byte_len w → number_at w bytes ≡ Some x → RestOf bytes x.1
number_rest w bytes x some e =
    let g = guard_false (ltb (length bytes) (byte_len w)) (from_le_bytes w (take (byte_len w) bytes), drop (byte_len w) bytes) x e in
    subst (λ (p : ℕ × List ℕ). RestOf bytes p.1) g.1 (dropped (byte_len w) bytes some (ltb-false _ _ g.0))

piece_ends : (n : ℕ) (bytes : List ℕ) (x : List ℕ × List ℕ) → piece_at n bytes ≡ Some x → EndsIn bytes x.1
piece_ends n bytes x e =
    let g = guard_false (ltb (length bytes) n) (take n bytes, drop n bytes) x e in
    subst (λ (p : List ℕ × List ℕ). EndsIn bytes p.1) g.1 (record { before = take n bytes; parts = sym (take-append-drop n bytes) })

short_text_rest : (bytes : List ℕ) (x : List ℕ × List ℕ) → short_text_at bytes ≡ Some x → RestOf bytes x.1
unfolding short_text_at
short_text_rest bytes x e =
    let a = bind_some (byte_at bytes) (λ n. piece_at n.0 n.1) x e in
    rest_then bytes a.0.1 x.1 (byte_rest bytes a.0 a.1) (piece_ends a.0.0 a.0.1 x a.2)

long_text_rest : (bytes : List ℕ) (x : List ℕ × List ℕ) → long_text_at bytes ≡ Some x → RestOf bytes x.1
unfolding long_text_at
long_text_rest bytes x e =
    let a = bind_some (number_at w16 bytes) (λ n. piece_at n.0 n.1) x e in
    rest_then bytes a.0.1 x.1 (number_rest w16 bytes a.0 (omega arith) a.1) (piece_ends a.0.0 a.0.1 x a.2)

pub name_rest : (columns : List Column) (bytes : List ℕ) (x : List ℕ × List ℕ) → read_name columns bytes ≡ Good x → RestOf bytes x.1
unfolding read_name
name_rest columns bytes x e =
    good_then _ _ _ e (λ name e0 r0.
    subst (λ (p : List ℕ × List ℕ). RestOf bytes p.1) (passed_is _ _ _ _ _ r0).1 (short_text_rest bytes name (found_is _ _ _ _ e0)))

pub count_rest : (columns : List Column) (bytes : List ℕ) (x : ℕ × List ℕ) → read_count columns bytes ≡ Good x → RestOf bytes x.1
unfolding read_count
count_rest columns bytes x e =
    good_then _ _ _ e (λ count e0 r0.
    subst (λ (p : ℕ × List ℕ). RestOf bytes p.1) (passed_is _ _ _ _ _ r0).1 (number_rest w32 bytes count (omega arith) (found_is _ _ _ _ e0)))

path_rest : (records : List Record) (bytes : List ℕ) (x : List ℕ × List ℕ) → read_path records bytes ≡ Good x → RestOf bytes x.1
unfolding read_path
path_rest records bytes x e =
    good_then _ _ _ e (λ path e0 r0. good_then _ _ _ r0 (λ allowed e1 r1. good_then _ _ _ r1 (λ greater e2 r2.
    subst (λ (p : List ℕ × List ℕ). RestOf bytes p.1) (passed_is _ _ _ _ _ r2).1 (long_text_rest bytes path (found_is _ _ _ _ e0)))))

size_rest : (block_size : ℕ) (records : List Record) (bytes : List ℕ) (x : ℕ × List ℕ) → read_size block_size records bytes ≡ Good x → RestOf bytes x.1
unfolding read_size
size_rest block_size records bytes x e =
    good_then _ _ _ e (λ size e0 r0.
    subst (λ (p : ℕ × List ℕ). RestOf bytes p.1) (passed_is _ _ _ _ _ r0).1 (number_rest w64 bytes size (omega arith) (found_is _ _ _ _ e0)))

stamp_rest : (bytes : List ℕ) (x : _ × List ℕ) → read_stamp bytes ≡ Good x → RestOf bytes x.1
unfolding read_stamp
stamp_rest bytes x e =
    good_then _ _ _ e (λ seconds e0 r0. good_then _ _ _ r0 (λ nanos e1 r1.
    let first = number_rest w64 bytes seconds (omega arith) (found_is _ _ _ _ e0) in
    let second = number_rest w32 seconds.1 nanos (omega arith) (found_is _ _ _ _ e1) in
    subst (λ p. RestOf bytes p.1) (passed_is _ _ _ _ _ r1).1 (rest_then bytes seconds.1 nanos.1 first (ends_of seconds.1 nanos.1 second))))

pub file_rest : (block_size : ℕ) (columns : List Column) (bytes : List ℕ) (x : _ × List ℕ) → read_file block_size columns bytes ≡ Good x → RestOf bytes x.1
unfolding read_file
file_rest block_size columns bytes x e =
    good_then _ _ _ e (λ path e0 r0. good_then _ _ _ r0 (λ size e1 r1. good_then _ _ _ r1 (λ stamp e2 r2.
    let first = path_rest _ bytes path e0 in
    let second = ends_of _ _ (size_rest _ _ path.1 size e1) in
    let third = ends_of _ _ (stamp_rest size.1 stamp e2) in
    subst (λ p. RestOf bytes p.1) (good_is _ _ r2) (rest_then bytes path.1 stamp.1 first (ends_then path.1 size.1 stamp.1 second third)))))

hash_ends : (bytes : List ℕ) (x : _ × List ℕ) → read_hash bytes ≡ Good x → EndsIn bytes x.1
unfolding read_hash
hash_ends [] x e = not_bad _ _ _ e
hash_ends (zero ∷ rest) x e = subst (λ p. EndsIn (0 ∷ rest) p.1) (good_is _ _ e) (record { before = 0 ∷ []; parts = refl })
hash_ends (suc zero ∷ rest) x e = good_then _ _ _ e (λ digest e0 r0.
    let ends = piece_ends 16 rest digest (found_is _ _ _ _ e0) in
    subst (λ p. EndsIn (1 ∷ rest) p.1) (good_is _ _ r0) (record { before = 1 ∷ ends.before; parts = ap (λ (r : List ℕ). 1 ∷ r) ends.parts }))
hash_ends (suc (suc flag) ∷ rest) x e = not_bad _ _ _ e

pub block_rest : (the_length : ℕ) (blocks : List Block) (bytes : List ℕ) (x : Block × List ℕ) → read_block the_length blocks bytes ≡ Good x → RestOf bytes x.1
unfolding read_block
block_rest the_length blocks bytes x e =
    good_then _ _ _ e (λ position e0 r0. good_then _ _ _ r0 (λ free e1 r1. good_then _ _ _ r1 (λ hash e2 r2.
    let first = subst (λ (p : ℕ × List ℕ). RestOf bytes p.1) (passed_is _ _ _ _ _ e1).1 (number_rest w32 bytes position (omega arith) (found_is _ _ _ _ e0)) in
    subst (λ (p : Block × List ℕ). RestOf bytes p.1) (good_is _ _ r2) (rest_then bytes free.1 hash.1 first (hash_ends free.1 hash e2)))))

pub info_rest : (columns : List Column) (infos : List Info) (bytes : List ℕ) (x : Info × List ℕ) → read_info columns infos bytes ≡ Good x → RestOf bytes x.1
unfolding read_info
info_rest columns infos bytes x e =
    good_then _ _ _ e (λ flags e0 r0. good_then _ _ _ r0 (λ unchecked e1 r1. good_then _ _ _ r1 (λ check e2 r2. good_then _ _ _ r2 (λ last e3 r3.
    let first = subst (RestOf bytes) (passed_is _ _ _ _ _ e2).1 (byte_rest bytes flags (found_is _ _ _ _ e0)) in
    let second = ends_of _ _ (number_rest w64 check last (omega arith) (found_is _ _ _ _ e3)) in
    subst (λ (p : Info × List ℕ). RestOf bytes p.1) (passed_is _ _ _ _ _ r3).1 (rest_then bytes check last.1 first second)))))
