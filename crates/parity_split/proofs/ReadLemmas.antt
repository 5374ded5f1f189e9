-- Bytes of a level, read part by part.
use Rattle.std.proofs.Common.{◌≡◌, ⊎_elim, ℕ, ◌+◌, ◌*◌, ◌-◌, ◌<◌, ◌≤◌, min, max, List, [], ◌∷◌, ◌++◌, length, take, drop, get_or, Result, Ok, Err, IfOk, refl, sym, ◌∙◌, ap, subst, arith, length-drop}
use Rattle.std.proofs.lemmas.List.{length-take, get_or-take, get_or-drop, get_or_append_left, get_or-append_right, ext_get_or, drop_more}
use Rattle.std.proofs.lemmas.Bool.{cases_lt}
use borrow.Rule.Slice.PartMut.{put_mid}
use Rattle.disk_model.specs.Bytes.{read_from}
use Rattle.disk_model.specs.Files.{Files, parity_of}
use Rattle.parity_split.specs.Joined.{joined, part_of}
use Rattle.parity_split.specs.Parts.{IsEnd}
use Rattle.parity_split.specs.Values.{PieceIsThere, IsThere}
use Rattle.parity_split.specs.Works.{parts_in}
use Rattle.parity_split.specs.declared.parts.Parts.{Parts}
use Rattle.parity_split.proofs.JoinedLemmas.{front, length-front, joined_at, joined_open, joined_full}

pub if_ok : {T E : Type 0} (P Q : T → Type 0) (result : Result T E) → ((x : T) → P x → Q x) → IfOk result P → IfOk result Q
if_ok P Q (Ok x) go is = go x is
if_ok P Q (Err e) go is = tt

pub if_both : {T E : Type 0} (P Q S : T → Type 0) (result : Result T E) → ((x : T) → P x → Q x → S x) → IfOk result P → IfOk result Q → IfOk result S
if_both P Q S (Ok x) go one two = go x one two
if_both P Q S (Err e) go one two = tt

-- what a part gave
pub piece_there : (at to start from got : ℕ) (part sub out : List ℕ) → from ≡ max at start → from < to → to ≤ start + length part → got ≤ length sub → length sub ≡ to - from
    → take got sub ≡ take (to - from) (drop (from - start) part) → ((k : ℕ) → k < length sub → get_or out (from - at + k) 0 ≡ get_or sub k 0) → PieceIsThere at to start part (from - at + got) out
piece_there at to start from got part sub out is_from some room bound long gave same =
    let a = length-take got sub in
    let b = length-take (to - from) (drop (from - start) part) in
    let d = length-drop (from - start) part in
    let e : length (take got sub) ≡ length (take (to - from) (drop (from - start) part)) = ap length gave in
    let all : got ≡ to - from = omega arith in
    record {
      all = omega arith;
      values = λ k low high.
          let j = at + k - from in
          let is : from - at + j ≡ k = omega arith in
          let within : j < length sub = omega arith in
          ap (λ i. get_or out i 0) (sym is) ∙ same j within ∙ sym (get_or-take got sub j 0 (omega arith)) ∙ ap (λ x. get_or x j 0) gave
          ∙ get_or-take (to - from) (drop (from - start) part) j 0 (omega arith) ∙ get_or-drop (from - start) part j 0 ∙ ap (λ i. get_or part i 0) (omega arith);
    }

-- a range that ends before a part
pub no_piece_there : (at to start : ℕ) (part out : List ℕ) → to ≤ max at start → PieceIsThere at to start part (to - at) out
no_piece_there at to start part out none = record { all = refl; values = λ k low high. absurd (omega arith) }

-- what is in a part of a list, once bytes were put into it
pub in_part : (a k : ℕ) (xs ys : List ℕ) → a + k ≤ length xs → length ys ≡ k → (j : ℕ) → j < k → get_or (put_mid a k xs ys) (a + j) 0 ≡ get_or ys j 0
in_part a k xs ys room long j less =
    let rest = drop k (drop a xs) in
    let front_long : length (take a xs) ≡ a = omega (arith, length-take a xs, room) in
    get_or-append_right (take a xs) (ys ++ rest) a (a + j) 0 front_long (omega arith)
    ∙ ap (λ (n : ℕ). get_or (ys ++ rest) n 0) (omega arith)
    ∙ get_or_append_left ys rest 0 j (omega arith)

module _ (K : ℕ) where
  first_value : (part : List ℕ) (rest : List (List ℕ)) (o : ℕ) → o < length part → (K ≤ length part → 0 < length rest → o < K) → get_or (joined K (part ∷ rest)) o 0 ≡ get_or part o 0
  first_value part [] o within low = refl
  first_value part (next ∷ rest) o within low = ⊎_elim
      (λ open_. ap (λ x. get_or x o 0) (joined_open K part (next ∷ rest) open_))
      (λ full.
      let below : o < K = low full (omega arith) in
      let a = length-take K part in
      ap (λ x. get_or x o 0) (joined_full K part next rest full) ∙ get_or_append_left (take K part) (joined K (next ∷ rest)) 0 o (omega arith) ∙ get_or-take K part o 0 below)
      (cases_lt (length part) K)

  -- a byte of a part that counts
  pub joined_value : (end i o : ℕ) (reads : List (List ℕ)) → IsEnd K end reads → i ≤ end → o < length (part_of reads i) → (i < end → o < K) → get_or (joined K reads) (i * K + o) 0 ≡ get_or (part_of reads i) o 0
  joined_value end i o reads is low within below =
      let w : i < length reads = omega (arith, is.within) in
      let full : (j : ℕ) → j < i → K ≤ length (part_of reads j) = (λ j under. is.full j (omega arith)) in
      let long = length-front K i reads (omega arith) full in
      let tail = length-drop (i + 1) reads in
      ap (λ x. get_or x (i * K + o) 0) (joined_at K i reads w full)
      ∙ get_or-append_right (front K i reads) (joined K (part_of reads i ∷ drop (i + 1) reads)) (i * K) (i * K + o) 0 long (omega arith)
      ∙ ap (λ m. get_or (joined K (part_of reads i ∷ drop (i + 1) reads)) m 0) (omega arith)
      ∙ first_value (part_of reads i) (drop (i + 1) reads) o within
      (λ here more. ⊎_elim (λ before. below before) (λ past. let e : i ≡ end = omega arith in let open_ = is.ends (omega arith) in absurd (let f : K ≤ length (part_of reads end) = subst (λ m. K ≤ length (part_of reads m)) e here in omega arith)) (cases_lt i end))

  -- the bytes below the next part are there
  pub there_more : (end i at last there : ℕ) (reads : List (List ℕ)) (old new : List ℕ) → IsEnd K end reads → i < end
      → ((k : ℕ) → at + k < i * K → at + k < last → get_or old k 0 ≡ get_or (joined K reads) (at + k) 0)
      → ((k : ℕ) → at + k < i * K → get_or new k 0 ≡ get_or old k 0) → PieceIsThere at (min last ((i + 1) * K)) (i * K) (part_of reads i) there new
      → (k : ℕ) → at + k < (i + 1) * K → at + k < last → get_or new k 0 ≡ get_or (joined K reads) (at + k) 0
  there_more end i at last there reads old new is low so_far earlier piece k under inside =
      let m : (i + 1) * K ≡ i * K + K = omega arith in
      let full = is.full i low in
      ⊎_elim
      (λ before. earlier k before ∙ so_far k before inside)
      (λ from.
      piece.values k from (omega arith) ∙ sym (joined_value end i (at + k - i * K) reads is (omega arith) (omega arith) (λ b. omega arith)) ∙ ap (λ n. get_or (joined K reads) n 0) (omega arith))
      (cases_lt (at + k) (i * K))

  -- all are there, up to the part where the level ends
  pub there_at_end : (end at last there : ℕ) (reads : List (List ℕ)) (old new : List ℕ) → IsEnd K end reads → last ≤ end * K + length (part_of reads end)
      → ((k : ℕ) → at + k < end * K → at + k < last → get_or old k 0 ≡ get_or (joined K reads) (at + k) 0)
      → ((k : ℕ) → at + k < end * K → get_or new k 0 ≡ get_or old k 0) → PieceIsThere at last (end * K) (part_of reads end) there new
      → IsThere at last (joined K reads) there new
  there_at_end end at last there reads old new is room so_far earlier piece = record {
    all = piece.all;
    values = λ k inside. ⊎_elim
        (λ before. earlier k before ∙ so_far k before inside)
        (λ from.
        piece.values k from inside ∙ sym (joined_value end end (at + k - end * K) reads is (omega arith) (omega arith) (λ b. absurd (omega arith))) ∙ ap (λ n. get_or (joined K reads) n 0) (omega arith))
        (cases_lt (at + k) (end * K));
  }

-- what a read of a level gives
pub read_values : (limit at len last n : ℕ) (level out : List ℕ) → at ≤ limit → last ≡ min (at + min len (limit - at)) (min (length level) limit) → n ≤ length out → IsThere at last level n out
    → take n out ≡ read_from (take limit level) at len
read_values limit at len last n level out low is bound there =
    let a = length-take n out in
    let b = length-take limit level in
    let d = length-drop at (take limit level) in
    let f = length-take len (drop at (take limit level)) in
    let all = there.all in
    ext_get_or 0 (take n out) (take len (drop at (take limit level))) (omega arith)
    (λ k within.
    get_or-take n out k 0 (omega arith) ∙ there.values k (omega arith) ∙ sym (get_or-take limit level (at + k) 0 (omega arith))
    ∙ sym (get_or-drop at (take limit level) k 0) ∙ sym (get_or-take len (drop at (take limit level)) k 0 (omega arith)))

-- of a level of one part
pub read_alone : (limit at len room n : ℕ) (level sub out : List ℕ) → at ≤ limit → room ≡ min len (limit - at) → n ≤ room → room ≤ length sub → take n sub ≡ read_from level at room
    → ((k : ℕ) → k < room → get_or out k 0 ≡ get_or sub k 0) → n ≤ length out → take n out ≡ read_from (take limit level) at len
read_alone limit at len room n level sub out low is bound long gave same fits =
    let a = length-take n sub in
    let b = length-take room (drop at level) in
    let d = length-drop at level in
    let e : length (take n sub) ≡ length (take room (drop at level)) = ap length gave in
    read_values limit at len (min (at + min len (limit - at)) (min (length level) limit)) n level out low refl fits
    (record {
      all = omega arith;
      values = λ k inside.
          same k (omega arith) ∙ sym (get_or-take n sub k 0 (omega arith)) ∙ ap (λ x. get_or x k 0) gave ∙ get_or-take room (drop at level) k 0 (omega arith) ∙ get_or-drop at level k 0;
    })

-- a level of one part holds what that holds
pub alone_is : (p : Parts) (files : Files) → p.count ≡ 1 → p.first < length files.parities → joined p.capacity (parts_in p files) ≡ parity_of files p.first
alone_is p files one low =
    ap (λ n. joined p.capacity (take n (drop p.first files.parities))) one
    ∙ ap (λ xs. joined p.capacity (take 1 xs)) (drop_more files.parities p.first [] low)
