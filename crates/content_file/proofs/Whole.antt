-- A whole content file, from the magic to the digest.
use Rattle.std.proofs.Common.{◌≡◌, ℕ, ◌-◌, cond, eqb, List, [], ◌∷◌, ◌++◌, length, take, Option, Some, None, refl, sym, ap, subst, ◌∙◌, append_assoc, arith}
use Rattle.std.specs.Prelude.{codes}
use Rattle.std.specs.Str.{bytes_eq}
use Rattle.std.specs.List.{flat_map}
use Rattle.std.specs.Int.{w32, to_le_bytes}
use Rattle.std.proofs.lemmas.Bool.{eqb-true}
use Rattle.std.proofs.lemmas.List.{length-append, take_at}
use Rattle.std.proofs.lemmas.Slice.Eq.{bytes_eq-Decides}
use Rattle.sha2.specs.Sha256.{sha256}
use Rattle.file_table.specs.declared.shape.Shape.{Shape}
use Rattle.file_table.specs.Table.{TableValue}
use Rattle.file_table.specs.Valid.{IsValid}
use Rattle.content_file.specs.Spelling.{magic, shape_bytes, column_bytes, info_bytes, body, spelling}
use Rattle.content_file.specs.declared.head.Head.{Head}
use Rattle.content_file.specs.Head.{head_bytes, head_at, IsHead}
use Rattle.content_file.specs.Reading.{◌>>=◌, byte_at, piece_at, magic_at, shape_at, length_at, count_at}
use Rattle.content_file.proofs.Fields.{IsBytes, from_some, some_is, guard_true, Takes, takes_then, byte_takes, piece_takes, piece_again}
use Rattle.content_file.proofs.Heads.{shape_takes, shape_again, length_takes, length_again, count_takes, count_again}

abbrev head_of : Shape → ℕ → ℕ → Head
head_of shape size count = record { shape = shape; length = size; columns = count }

pub regroup_head : (a b c d rest : List ℕ) → (((a ++ b) ++ c) ++ d) ++ rest ≡ a ++ (b ++ (c ++ (d ++ rest)))
regroup_head a b c d rest = simp append_assoc

regroup_body : (a b c d rest : List ℕ) → ((a ++ (b ++ c)) ++ d) ++ rest ≡ (a ++ b) ++ (c ++ (d ++ rest))
regroup_body a b c d rest = simp append_assoc

-- ---- the magic

pub magic_takes : (bytes rest : List ℕ) → IsBytes bytes → magic_at bytes ≡ Some rest → Takes bytes magic rest
unfolding magic_at
magic_takes bytes rest fits e =
    from_some (piece_at 7 bytes) (λ text. cond (bytes_eq text.0 (codes "SNAPRCF")) (Some text) None >>= λ known. byte_at known.1 >>= λ version. cond (eqb version.0 1) (Some version.1) None) rest e (λ text read0 rest0.
    from_some (cond (bytes_eq text.0 (codes "SNAPRCF")) (Some text) None) (λ known. byte_at known.1 >>= λ version. cond (eqb version.0 1) (Some version.1) None) rest rest0 (λ known read1 rest1.
    from_some (byte_at known.1) (λ version. cond (eqb version.0 1) (Some version.1) None) rest rest1 (λ version read2 rest2.
    let g = guard_true (bytes_eq text.0 (codes "SNAPRCF")) text known read1 in
    let h = guard_true (eqb version.0 1) version.1 rest rest2 in
    let text-is : known.0 ≡ codes "SNAPRCF" = ap (λ (p : List ℕ × List ℕ). p.0) (sym g.1) ∙ (bytes_eq-Decides text.0 (codes "SNAPRCF")).0 g.0 in
    let t0 = piece_takes 7 bytes known.0 known.1 fits (read0 ∙ ap (λ (p : List ℕ × List ℕ). Some p) g.1) in
    let t1 = byte_takes known.1 version.0 version.1 t0.0.rest_fits read2 in
    let all = takes_then bytes known.0 known.1 (version.0 ∷ []) version.1 t0.0 t1.0 in
    let named : Takes bytes (codes "SNAPRCF" ++ 1 ∷ []) version.1 = subst (λ (p : List ℕ × ℕ). Takes bytes (p.0 ++ p.1 ∷ []) version.1) (let e : (known.0, version.0) ≡ (codes "SNAPRCF", 1) = pair_is _ _ _ _ text-is (eqb-true version.0 1 h.0) in e) all in
    subst (λ (r : List ℕ). Takes bytes magic r) h.1 named)))
  where
    pair_is : (a b : List ℕ) (m n : ℕ) → a ≡ b → m ≡ n → ◌≡◌ {A = List ℕ × ℕ} (a, m) (b, n)
    pair_is a b m n p q = cc

pub magic_again : (rest : List ℕ) → magic_at (magic ++ rest) ≡ Some rest
unfolding magic_at
magic_again rest = ap (λ (read : Option (List ℕ × List ℕ)). read >>= after_text) (piece_again 7 (codes "SNAPRCF") (1 ∷ rest) refl)
  where
    after_text : List ℕ × List ℕ → Option (List ℕ)
    after_text text = cond (bytes_eq text.0 (codes "SNAPRCF")) (Some text) None >>= λ known. byte_at known.1 >>= λ version. cond (eqb version.0 1) (Some version.1) None

-- ---- the head

pub head_takes : (bytes : List ℕ) (x : Head × List ℕ) → IsBytes bytes → head_at bytes ≡ Some x → Takes bytes (head_bytes x.0) x.1 × IsHead x.0
unfolding head_at
head_takes bytes x fits e =
    from_some (magic_at bytes) (λ rest. shape_at rest >>= λ shape. length_at shape.1 >>= λ size. count_at size.1 >>= λ count. Some (head_of shape.0 size.0 count.0, count.1)) x e (λ rest read0 e0.
    from_some (shape_at rest) (λ shape. length_at shape.1 >>= λ size. count_at size.1 >>= λ count. Some (head_of shape.0 size.0 count.0, count.1)) x e0 (λ shape read1 e1.
    from_some (length_at shape.1) (λ size. count_at size.1 >>= λ count. Some (head_of shape.0 size.0 count.0, count.1)) x e1 (λ size read2 e2.
    from_some (count_at size.1) (λ count. Some (head_of shape.0 size.0 count.0, count.1)) x e2 (λ count read3 made.
    let t0 = magic_takes bytes rest fits read0 in
    let t1 = shape_takes rest shape t0.rest_fits read1 in
    let t2 = length_takes shape.1 size t1.0.rest_fits read2 in
    let t3 = count_takes size.1 count t2.0.rest_fits read3 in
    let all : Takes bytes (head_bytes (head_of shape.0 size.0 count.0)) count.1 =
    takes_then bytes ((magic ++ shape_bytes shape.0) ++ to_le_bytes w32 size.0) size.1 (count.0 ∷ []) count.1
    (takes_then bytes (magic ++ shape_bytes shape.0) shape.1 (to_le_bytes w32 size.0) size.1
    (takes_then bytes magic rest (shape_bytes shape.0) shape.1 t0 t1.0) t2.0) t3.0 in
    let is_head : IsHead (head_of shape.0 size.0 count.0) = record { shape = t1.1; short = t2.1; some_column = t3.1; few_columns = t3.2 } in
    subst (λ (y : Head × List ℕ). Takes bytes (head_bytes y.0) y.1 × IsHead y.0) (some_is (head_of shape.0 size.0 count.0, count.1) x made) (all, is_head)))))

pub head_again : (head : Head) (rest : List ℕ) → IsHead head → head_at (head_bytes head ++ rest) ≡ Some (head, rest)
unfolding head_at
head_again head rest is_head =
    let last = head.columns ∷ rest in
    let regrouped : head_bytes head ++ rest ≡ magic ++ (shape_bytes head.shape ++ (to_le_bytes w32 head.length ++ last)) = regroup_head magic (shape_bytes head.shape) (to_le_bytes w32 head.length) (head.columns ∷ []) rest in
    ap head_at regrouped
    ∙ rw (magic_again (shape_bytes head.shape ++ (to_le_bytes w32 head.length ++ last)), shape_again head.shape (to_le_bytes w32 head.length ++ last) is_head.shape, length_again head.length last is_head.short, count_again head.columns rest is_head.some_column is_head.few_columns) refl

-- ---- from the first field to the last

abbrev pub head_of_table : TableValue → Head
head_of_table table = record { shape = table.shape; length = length table.infos; columns = length table.columns }

pub body-parts : (table : TableValue) (rest : List ℕ) → body table ++ rest ≡ head_bytes (head_of_table table) ++ (flat_map column_bytes table.columns ++ (flat_map info_bytes table.infos ++ rest))
body-parts table rest =
    regroup_body (magic ++ shape_bytes table.shape ++ to_le_bytes w32 (length table.infos)) (length table.columns ∷ []) (flat_map column_bytes table.columns) (flat_map info_bytes table.infos) rest

-- the head of a valid table may stand before its columns
pub is_head : (table : TableValue) → IsValid table → IsHead (head_of_table table)
is_head table valid = record { shape = valid.shape; short = valid.short; some_column = valid.some_column; few_columns = valid.columns.few }

-- the body, and the digest behind it
pub whole_read : (bytes last : List ℕ) (table : TableValue) → bytes ≡ body table ++ last → last ≡ sha256 (take (length bytes - length last) bytes) → bytes ≡ spelling table
whole_read bytes last table parts digest =
    let n : length (body table) ≡ length bytes - length last = omega (arith, ap length parts, length-append (body table) last) in
    let front : take (length bytes - length last) bytes ≡ body table = ap (take (length bytes - length last)) parts ∙ take_at (body table) last (length bytes - length last) n in
    parts ∙ ap (λ (r : List ℕ). body table ++ r) (digest ∙ ap sha256 front)
