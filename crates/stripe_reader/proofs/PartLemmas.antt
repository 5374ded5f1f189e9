-- The chunks of a slice that is cut where its last chunk begins.
use Rattle.std.proofs.Common.{◌≡◌, ℕ, ◌+◌, ◌-◌, ◌*◌, ◌/◌, ◌%◌, ◌<◌, ◌≤◌, ◌⊎◌, inl, inr, List, ◌++◌, length, take, drop, get_or, refl, sym, subst, ap, ◌∙◌, arith}
use Rattle.std.proofs.lemmas.Bool.{cases_lt}
use Rattle.std.proofs.lemmas.List.{take_all, take-append-le, drop-append-le, drop_at, length-append, length-drop, length-take, get_or-take, get_or-drop}
use Rattle.std.proofs.lemmas.Nat.{div-add-mod', mod-mul-add, mod_below}
use Rattle.std.specs.Fork.{slice_chunk, IsChunk, ChangesChunks, IsInChunk}
use native.Mathlib.Nat.{add-mul, one-mul, zero-mul, mul-le-mul_right}
use mathlib.Core.Logic.{⊎_elim}
use denote.Ref.{MutBor}
use denote.Param.Members.{Shared}

-- a chunk of a number below another ends where that one begins, or before
pub ends_before : (n q size : ℕ) → n < q → n * size + size ≤ q * size
ends_before n q size lt =
    let next : n + 1 ≤ q = omega arith in
    omega (arith, mul-le-mul_right size next, add-mul n 1 size, one-mul size)

pub starts_before : (n q size : ℕ) → n * size < q * size → n < q
starts_before n q size lt = ⊎_elim (λ less. less) (λ more. omega (arith, mul-le-mul_right size more)) (cases_lt n q)

-- where the last chunk begins
pub record IsLastStart (size len start : ℕ) : Type 0 where
  pub some : 0 < start
  pub within : start < len
  pub short : len ≤ start + size

pub last_start : (size len : ℕ) → 0 < size → size < len → IsLastStart size len ((len - 1) / size * size)
last_start size len some more =
    let whole : (len - 1) / size * size + (len - 1) % size ≡ len - 1 = div-add-mod' (len - 1) size in
    let rest : (len - 1) % size < size = mod_below (len - 1) size some in
    record { some = omega arith; within = omega arith; short = omega arith }

-- the only chunk
pub only_chunk : {X : Type 0} (size : ℕ) (xs : List X) → length xs ≤ size → slice_chunk xs size 0 ≡ xs
only_chunk size xs short = ap (λ k. take size (drop k xs)) (zero-mul size) ∙ take_all size xs short

pub is_first : (n size len : ℕ) → n * size < len → len ≤ size → n ≡ 0
is_first n size len lt short = ⊎_elim (λ less. omega arith) (λ more. omega (arith, mul-le-mul_right size more, one-mul size)) (cases_lt n 1)

module _ {X : Type 0} (size q : ℕ) (xs ys : List X) (cut : length xs ≡ q * size) (short : length ys ≤ size) where
  pub front_chunk : (n : ℕ) → n < q → slice_chunk (xs ++ ys) size n ≡ slice_chunk xs size n
  front_chunk n lt =
      let room : n * size + size ≤ length xs = omega (arith, ends_before n q size lt) in
      ap (take size) (drop-append-le (n * size) xs ys (omega arith)) ∙ take-append-le size (drop (n * size) xs) ys (omega (arith, length-drop (n * size) xs))

  pub last_chunk : slice_chunk (xs ++ ys) size q ≡ ys
  last_chunk = ap (take size) (drop_at xs ys (q * size) cut) ∙ take_all size ys short

  pub in_front_or_last : (n : ℕ) → n * size < length (xs ++ ys) → (n < q) ⊎ (n ≡ q)
  in_front_or_last n lt =
      ⊎_elim inl (λ more. ⊎_elim (λ beyond. absurd (omega (arith, lt, ends_before q n size beyond, length-append xs ys))) (λ no_more. inr (omega arith)) (cases_lt q n)) (cases_lt n q)

-- what holds of the chunks in front, and of the last one, holds of each
module _ {X : Type 0} (R : ℕ → List X → List X → Type 0) (size q : ℕ) (xs ys xs' ys' : List X) (some : 0 < size)
    (cut : length xs ≡ q * size) (short : length ys ≤ size) (front : length xs' ≡ length xs) (last : length ys' ≡ length ys) where
  pub by_both : ((n : ℕ) → n * size < length xs → R (n * size) (slice_chunk xs size n) (slice_chunk xs' size n)) → R (q * size) ys ys'
      → (n : ℕ) → n * size < length (xs ++ ys) → R (n * size) (slice_chunk (xs ++ ys) size n) (slice_chunk (xs' ++ ys') size n)
  by_both fronts one n lt =
      let cut' : length xs' ≡ q * size = front ∙ cut in
      let short' : length ys' ≤ size = omega arith in
      ⊎_elim
      (λ before. subst (λ zs. R (n * size) zs (slice_chunk (xs' ++ ys') size n)) (sym (front_chunk size q xs ys cut short n before))
      (subst (R (n * size) (slice_chunk xs size n)) (sym (front_chunk size q xs' ys' cut' short' n before))
      (fronts n (omega (arith, ends_before n q size before)))))
      (λ at. subst (λ m. R (m * size) (slice_chunk (xs ++ ys) size m) (slice_chunk (xs' ++ ys') size m)) (sym at)
      (subst (λ zs. R (q * size) zs (slice_chunk (xs' ++ ys') size q)) (sym (last_chunk size q xs ys cut short))
      (subst (R (q * size) ys) (sym (last_chunk size q xs' ys' cut' short')) one)))
      (in_front_or_last size q xs ys cut short n lt)

pub is_chunk : {X : Type 0} (xs : List X) (size n : ℕ) → 0 < size → n * size < length xs → IsChunk xs size (n * size) (slice_chunk xs size n)
is_chunk xs size n some lt =
    let front = length-take size (drop (n * size) xs) in
    let rest = length-drop (n * size) xs in
    record {
      value = refl;
      start_is_multiple = subst (λ k. k % size ≡ 0) {x = n * size + 0} (omega arith) (mod-mul-add n size 0 some);
      len = omega arith;
      full_size = λ even.
          let q = length xs / size in
          let whole : q * size ≡ length xs = omega (arith, div-add-mod' (length xs) size) in
          omega (arith, ends_before n q size (starts_before n q size (omega arith)));
      nonempty = omega arith;
      at_most_size = omega arith;
      in_bounds = omega arith;
      elements = λ k d within. get_or-take size (drop (n * size) xs) k d (omega arith) ∙ get_or-drop (n * size) xs k d;
    }

module _ {F X : Type 0} (g : Shared F (ℕ × (MutBor (List X) × Unit {0})) (Unit {0} × (MutBor (List X) × Unit {0}))) (f : F) where
  -- the chunk that an element lies in
  pub in_chunk : (size : ℕ) (xs ys : List X) → 0 < size → ChangesChunks g f size xs ys → (i : ℕ) (d : X) → i < length xs → IsInChunk g f size xs ys i d
  in_chunk size xs ys some each i d lt =
      let n = i / size in
      let k = i % size in
      let at : n * size + k ≡ i = div-add-mod' i size in
      let within : k < size = mod_below i size some in
      let there : n * size < length xs = omega arith in
      let one = each n there in
      let front = length-take size (drop (n * size) xs) in
      let rest = length-drop (n * size) xs in
      let read : (zs : List X) → get_or (slice_chunk zs size n) k d ≡ get_or zs i d = λ zs.
      get_or-take size (drop (n * size) zs) k d within ∙ get_or-drop (n * size) zs k d ∙ ap (λ j. get_or zs j d) at in
      record {
        start = n * size;
        offset = k;
        start_plus_offset = at;
        argument = one.argument;
        argument_is = subst (IsChunk xs size (n * size)) (sym one.argument_is) (is_chunk xs size n some there);
        offset_in_chunk = omega (arith, ap length one.argument_is);
        old_element = ap (λ zs. get_or zs k d) one.argument_is ∙ read xs;
        after_call = one.after_call;
        call = one.call;
        new_element = ap (λ zs. get_or zs k d) one.left ∙ read ys;
      }
