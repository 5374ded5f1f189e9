-- What the information on a stripe and the shape are read as, and that they are read again.
use Rattle.std.proofs.Common.{◌≡◌, ℕ, ◌*◌, ◌/◌, ◌^◌, ◌<◌, ◌≤◌, Bool, true, false, cond, ltb, eqb, ◌||◌, List, [], ◌∷◌, ◌++◌, length, Some, None, refl, sym, ap, subst, ◌∙◌, append_assoc, arith, inl, inr, ◌⊎◌}
use Rattle.std.specs.Int.{w32, w64, to_le_bytes}
use Rattle.std.proofs.lemmas.Bool.{ltb-false, le-ltb, eqb-true, eqb-false}
use Rattle.std.proofs.lemmas.List.{get_or_default}
use Rattle.block_hash.specs.declared.Kind.{Kind}
use Rattle.block_hash.specs.declared.Kind.TheVariants.{Md5, Sha256}
use Rattle.file_table.specs.declared.shape.Shape.{Shape}
use Rattle.file_table.specs.declared.info.Info.{Info}
use Rattle.file_table.specs.declared.info.Mark.{Mark}
use Rattle.file_table.specs.declared.info.Mark.TheVariants.{Pending, Synced}
use Rattle.file_table.specs.Valid.{IsShape, IsInfo, IsState, HasNoHistory}
use Rattle.content_file.specs.Spelling.{shape_bytes, info_bytes, flags, kind_code}
use Rattle.content_file.specs.Reading.{◌>>=◌, byte_at, number_at, piece_at, info_of, info_at, from_one, kibibytes_at, levels_at, kind_of, kind_at, shape_at, length_at, count_at}
use Rattle.content_file.proofs.Fields.{IsBytes, from_some, guard_false, some_is, Takes, takes_then, byte_takes, wide32, wide64, number_takes, number_again, piece_takes, piece_again}

-- a choice whose answer is known
pub chosen : {A : Type 0} (b : Bool) (x y z : A) → cond b x y ≡ z → ((b ≡ true) × (x ≡ z)) ⊎ ((b ≡ false) × (y ≡ z))
chosen true x y z e = inl (refl, e)
chosen false x y z e = inr (refl, e)

-- ---- the information on a stripe

pub info_is : (code last : ℕ) (info : Info) → info_of code last ≡ Some info → (flags info ≡ code) × (info.last ≡ last)
info_is code last info e =
    elim (chosen (eqb code 0) _ _ _ e) [
      | inl p ↦ subst (λ (i : Info). (flags i ≡ code) × (i.last ≡ last)) (some_is _ info p.1) (sym (eqb-true code 0 p.0), refl)
      | inr p ↦ elim (chosen (eqb code 1) _ _ _ p.1) [
        | inl q ↦ subst (λ (i : Info). (flags i ≡ code) × (i.last ≡ last)) (some_is _ info q.1) (sym (eqb-true code 1 q.0), refl)
        | inr q ↦ elim (chosen (eqb code 3) _ _ _ q.1) [
          | inl r ↦ subst (λ (i : Info). (flags i ≡ code) × (i.last ≡ last)) (some_is _ info r.1) (sym (eqb-true code 3 r.0), refl)
          | inr r ↦ elim (chosen (eqb code 5) _ _ _ r.1) [
            | inl s ↦ subst (λ (i : Info). (flags i ≡ code) × (i.last ≡ last)) (some_is _ info s.1) (sym (eqb-true code 5 s.0), refl)
            | inr s ↦ elim (chosen (eqb code 7) _ _ _ s.1) [
              | inl t ↦ subst (λ (i : Info). (flags i ≡ code) × (i.last ≡ last)) (some_is _ info t.1) (sym (eqb-true code 7 t.0), refl)
              | inr t ↦ absurd cc
            ]
          ]
        ]
      ]
    ]

pub info_again_of : (mark : Mark) (last : ℕ) (bad fresh : Bool) → IsState (record { mark = mark; last = last; bad = bad; fresh = fresh })
    → info_of (flags (record { mark = mark; last = last; bad = bad; fresh = fresh })) last ≡ Some (record { mark = mark; last = last; bad = bad; fresh = fresh })
info_again_of Pending last bad fresh state =
    let none : HasNoHistory (record { mark = Pending; last = last; bad = bad; fresh = fresh }) = state refl in
    ap (λ (p : Bool × Bool). Some (record { mark = Pending; last = last; bad = p.0; fresh = p.1 })) (let e : (false, false) ≡ (bad, fresh) = cc in e)
info_again_of Synced last true true state = refl
info_again_of Synced last true false state = refl
info_again_of Synced last false true state = refl
info_again_of Synced last false false state = refl

pub info_again : (info : Info) (rest : List ℕ) → IsInfo info → info_at (info_bytes info ++ rest) ≡ Some (info, rest)
unfolding info_at
info_again info rest fits =
    rw (number_again w64 (2 ^ 64) wide64 info.last rest fits.last, info_again_of info.mark info.last info.bad info.fresh fits.state) refl

-- ---- the shape

or_false : (a b : Bool) → (a || b) ≡ false → (a ≡ false) × (b ≡ false)
or_false true b e = absurd cc
or_false false b e = (refl, e)

false_or : (a b : Bool) → a ≡ false → b ≡ false → (a || b) ≡ false
false_or true b e f = absurd cc
false_or false b e f = f

not_eqb : (n m : ℕ) (b : Bool) → eqb n m ≡ b → (n ≡ m → ⊥) → b ≡ false
not_eqb n m true e ne = absurd (ne (eqb-true n m e))
not_eqb n m false e ne = refl

-- a field that is a number from 1 to the most
from_one_is : (most : ℕ) (field known : ℕ × List ℕ) → from_one most field ≡ Some known → (1 ≤ field.0) × (field.0 ≤ most) × (field ≡ known)
from_one_is most field known e =
    let g = guard_false (eqb field.0 0 || ltb most field.0) field known e in
    let o = or_false (eqb field.0 0) (ltb most field.0) g.0 in
    (omega (arith, eqb-false field.0 0 o.0), ltb-false most field.0 o.1, g.1)

pub from_one_again : (most n : ℕ) (rest : List ℕ) → 1 ≤ n → n ≤ most → from_one most (n, rest) ≡ Some (n, rest)
from_one_again most n rest some le =
    let not_zero : n ≡ 0 → ⊥ = λ e. omega arith in
    let passes : (eqb n 0 || ltb most n) ≡ false = false_or (eqb n 0) (ltb most n) (not_eqb n 0 (eqb n 0) refl not_zero) (le-ltb most n le) in
    rw passes refl

abbrev TakesNumber : (ℕ → List ℕ) → ℕ → List ℕ → ℕ × List ℕ → Type 0
TakesNumber spelled most bytes x = Takes bytes (spelled x.0) x.1 × (1 ≤ x.0) × (x.0 ≤ most)

kibibytes_takes : (bytes : List ℕ) (x : ℕ × List ℕ) → IsBytes bytes → kibibytes_at bytes ≡ Some x → TakesNumber (to_le_bytes w32) 4096 bytes x
unfolding kibibytes_at
kibibytes_takes bytes x fits e = from_some (number_at w32 bytes) (λ size. from_one 4096 size) x e (λ n read rest.
    let t = number_takes w32 (2 ^ 32) wide32 bytes n.0 n.1 fits read in
    let f = from_one_is 4096 n x rest in
    subst (TakesNumber (to_le_bytes w32) 4096 bytes) f.2 (t.0, f.0, f.1))

levels_takes : (bytes : List ℕ) (x : ℕ × List ℕ) → IsBytes bytes → levels_at bytes ≡ Some x → TakesNumber (λ n. n ∷ []) 6 bytes x
unfolding levels_at
levels_takes bytes x fits e = from_some (byte_at bytes) (λ levels. from_one 6 levels) x e (λ n read rest.
    let t = byte_takes bytes n.0 n.1 fits read in
    let f = from_one_is 6 n x rest in
    subst (TakesNumber (λ n. n ∷ []) 6 bytes) f.2 (t.0, f.0, f.1))

pub count_takes : (bytes : List ℕ) (x : ℕ × List ℕ) → IsBytes bytes → count_at bytes ≡ Some x → TakesNumber (λ n. n ∷ []) 251 bytes x
unfolding count_at
count_takes bytes x fits e = from_some (byte_at bytes) (λ count. from_one 251 count) x e (λ n read rest.
    let t = byte_takes bytes n.0 n.1 fits read in
    let f = from_one_is 251 n x rest in
    subst (TakesNumber (λ n. n ∷ []) 251 bytes) f.2 (t.0, f.0, f.1))

pub length_takes : (bytes : List ℕ) (x : ℕ × List ℕ) → IsBytes bytes → length_at bytes ≡ Some x → Takes bytes (to_le_bytes w32 x.0) x.1 × (x.0 ≤ 67108864)
unfolding length_at
length_takes bytes x fits e = from_some (number_at w32 bytes) (λ size. cond (ltb 67108864 size.0) None (Some size)) x e (λ n read rest.
    let t = number_takes w32 (2 ^ 32) wide32 bytes n.0 n.1 fits read in
    let g = guard_false (ltb 67108864 n.0) n x rest in
    subst (λ (y : ℕ × List ℕ). Takes bytes (to_le_bytes w32 y.0) y.1 × (y.0 ≤ 67108864)) g.1 (t.0, ltb-false 67108864 n.0 g.0))

kind_is : (code : ℕ) (kind : Kind) → kind_of code ≡ Some kind → kind_code kind ≡ code
kind_is code kind e =
    elim (chosen (eqb code 1) _ _ _ e) [
      | inl p ↦ subst (λ (k : Kind). kind_code k ≡ code) (some_is _ kind p.1) (sym (eqb-true code 1 p.0))
      | inr p ↦ elim (chosen (eqb code 2) _ _ _ p.1) [
        | inl q ↦ subst (λ (k : Kind). kind_code k ≡ code) (some_is _ kind q.1) (sym (eqb-true code 2 q.0))
        | inr q ↦ absurd cc
      ]
    ]

kind_takes : (bytes : List ℕ) (x : Kind × List ℕ) → IsBytes bytes → kind_at bytes ≡ Some x → Takes bytes (kind_code x.0 ∷ []) x.1
unfolding kind_at
kind_takes bytes x fits e = from_some (byte_at bytes) (λ code. kind_of code.0 >>= λ kind. Some (kind, code.1)) x e (λ n read rest.
    from_some (kind_of n.0) (λ kind. Some (kind, n.1)) x rest (λ kind is made.
    let t = byte_takes bytes n.0 n.1 fits read in
    let here : Takes bytes (kind_code kind ∷ []) n.1 = subst (λ (k : ℕ). Takes bytes (k ∷ []) n.1) (sym (kind_is n.0 kind is)) t.0 in
    subst (λ (y : Kind × List ℕ). Takes bytes (kind_code y.0 ∷ []) y.1) (some_is (kind, n.1) x made) here))

abbrev shape_of : ℕ → ℕ → Kind → List ℕ → Shape
shape_of kibibytes levels kind seed = record { block_size = kibibytes * 1024; levels = levels; kind = kind; seed = seed }

shape_is : (kibibytes levels : ℕ) (kind : Kind) (seed : List ℕ) → 1 ≤ kibibytes → kibibytes ≤ 4096 → 1 ≤ levels → levels ≤ 6 → length seed ≡ 16 → IsBytes seed → IsShape (shape_of kibibytes levels kind seed)
shape_is kibibytes levels kind seed size_some size_most levels_some levels_most len bytes = record {
  block_size = record { least = omega arith; most = omega arith; kibibytes = omega arith };
  levels = record { least = levels_some; most = levels_most };
  seed = record { sixteen = len; in_range = λ k d lt. rw (get_or_default seed k d 0 lt) (bytes k) };
}

pub shape_takes : (bytes : List ℕ) (x : Shape × List ℕ) → IsBytes bytes → shape_at bytes ≡ Some x → Takes bytes (shape_bytes x.0) x.1 × IsShape x.0
unfolding shape_at
shape_takes bytes x fits e =
    from_some (kibibytes_at bytes) (λ size. levels_at size.1 >>= λ levels. kind_at levels.1 >>= λ kind. piece_at 16 kind.1 >>= λ seed. Some (shape_of size.0 levels.0 kind.0 seed.0, seed.1)) x e (λ size read0 rest0.
    from_some (levels_at size.1) (λ levels. kind_at levels.1 >>= λ kind. piece_at 16 kind.1 >>= λ seed. Some (shape_of size.0 levels.0 kind.0 seed.0, seed.1)) x rest0 (λ levels read1 rest1.
    from_some (kind_at levels.1) (λ kind. piece_at 16 kind.1 >>= λ seed. Some (shape_of size.0 levels.0 kind.0 seed.0, seed.1)) x rest1 (λ kind read2 rest2.
    from_some (piece_at 16 kind.1) (λ seed. Some (shape_of size.0 levels.0 kind.0 seed.0, seed.1)) x rest2 (λ seed read3 made.
    let t0 = kibibytes_takes bytes size fits read0 in
    let t1 = levels_takes size.1 levels t0.0.rest_fits read1 in
    let t2 = kind_takes levels.1 kind t1.0.rest_fits read2 in
    let t3 = piece_takes 16 kind.1 seed.0 seed.1 t2.rest_fits read3 in
    let all : Takes bytes (to_le_bytes w32 size.0 ++ (levels.0 ∷ kind_code kind.0 ∷ seed.0)) seed.1 =
    takes_then bytes (to_le_bytes w32 size.0) size.1 (levels.0 ∷ kind_code kind.0 ∷ seed.0) seed.1 t0.0
    (takes_then size.1 (levels.0 ∷ []) levels.1 (kind_code kind.0 ∷ seed.0) seed.1 t1.0
    (takes_then levels.1 (kind_code kind.0 ∷ []) kind.1 seed.0 seed.1 t2 t3.0)) in
    let back : size.0 * 1024 / 1024 ≡ size.0 = omega arith in
    let here : Takes bytes (shape_bytes (shape_of size.0 levels.0 kind.0 seed.0)) seed.1 = subst (λ (n : ℕ). Takes bytes (to_le_bytes w32 n ++ (levels.0 ∷ kind_code kind.0 ∷ seed.0)) seed.1) (sym back) all in
    subst (λ (y : Shape × List ℕ). Takes bytes (shape_bytes y.0) y.1 × IsShape y.0) (some_is (shape_of size.0 levels.0 kind.0 seed.0, seed.1) x made)
    (here, shape_is size.0 levels.0 kind.0 seed.0 t0.1 t0.2 t1.1 t1.2 t3.1 t3.2)))))

-- ---- what is spelled is read again

kibibytes_again : (n : ℕ) (rest : List ℕ) → 1 ≤ n → n ≤ 4096 → kibibytes_at (to_le_bytes w32 n ++ rest) ≡ Some (n, rest)
unfolding kibibytes_at
kibibytes_again n rest some le =
    let small : n < 2 ^ 32 = omega arith in
    rw (number_again w32 (2 ^ 32) wide32 n rest small) (from_one_again 4096 n rest some le)

levels_again : (n : ℕ) (rest : List ℕ) → 1 ≤ n → n ≤ 6 → levels_at (n ∷ rest) ≡ Some (n, rest)
unfolding levels_at
levels_again n rest some le = from_one_again 6 n rest some le

pub count_again : (n : ℕ) (rest : List ℕ) → 1 ≤ n → n ≤ 251 → count_at (n ∷ rest) ≡ Some (n, rest)
unfolding count_at
count_again n rest some le = from_one_again 251 n rest some le

pub length_again : (n : ℕ) (rest : List ℕ) → n ≤ 67108864 → length_at (to_le_bytes w32 n ++ rest) ≡ Some (n, rest)
unfolding length_at
length_again n rest le =
    let small : n < 2 ^ 32 = omega arith in
    rw (number_again w32 (2 ^ 32) wide32 n rest small, le-ltb 67108864 n le) refl

kind_again : (kind : Kind) (rest : List ℕ) → kind_at (kind_code kind ∷ rest) ≡ Some (kind, rest)
unfolding kind_at
kind_again Md5 rest = refl
kind_again Sha256 rest = refl

pub shape_again : (shape : Shape) (rest : List ℕ) → IsShape shape → shape_at (shape_bytes shape ++ rest) ≡ Some (shape, rest)
unfolding shape_at
shape_again shape rest fits =
    let kibibytes = shape.block_size / 1024 in
    let size = fits.block_size in
    let some : 1 ≤ kibibytes = omega (arith, size.least) in
    let most : kibibytes ≤ 4096 = omega (arith, size.most) in
    let back : kibibytes * 1024 ≡ shape.block_size = omega (arith, size.kibibytes) in
    let tail = shape.levels ∷ kind_code shape.kind ∷ shape.seed in
    let regrouped : shape_bytes shape ++ rest ≡ to_le_bytes w32 kibibytes ++ (shape.levels ∷ (kind_code shape.kind ∷ (shape.seed ++ rest))) = append_assoc (to_le_bytes w32 kibibytes) tail rest in
    ap shape_at regrouped
    ∙ rw (kibibytes_again kibibytes (shape.levels ∷ (kind_code shape.kind ∷ (shape.seed ++ rest))) some most, levels_again shape.levels (kind_code shape.kind ∷ (shape.seed ++ rest)) fits.levels.least fits.levels.most, kind_again shape.kind (shape.seed ++ rest), piece_again 16 shape.seed rest fits.seed.sixteen)
    (ap (λ (n : ℕ). Some (record { block_size = n; levels = shape.levels; kind = shape.kind; seed = shape.seed }, rest)) back)
