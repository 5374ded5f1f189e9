-- What a level of several parts holds.
use Rattle.std.proofs.Common.{◌≡◌, ⊎_elim, ℕ, zero, suc, ◌+◌, ◌*◌, ◌<◌, ◌≤◌, List, [], ◌∷◌, ◌++◌, length, take, drop, set, refl, sym, ◌∙◌, ap, subst, arith, length-append, nat_lt, append_assoc}
use Rattle.std.proofs.lemmas.List.{length-take, append-nil, take_all, drop_more, drop-set, set_past, nil_from_length, length-set, get_or-set_other}
use Rattle.std.proofs.lemmas.Bool.{cases_lt, cond-true, cond-false, lt-ltb, le-ltb}
use Rattle.parity_split.specs.Joined.{joined, part_of}

module _ (K : ℕ) where
  pub joined_open : (part : List ℕ) (rest : List (List ℕ)) → length part < K → joined K (part ∷ rest) ≡ part
  joined_open part [] open_ = refl
  joined_open part (next ∷ rest) open_ = cond-true (nat_lt (length part) K) part (take K part ++ joined K (next ∷ rest)) (lt-ltb (length part) K open_)

  pub joined_full : (part next : List ℕ) (rest : List (List ℕ)) → K ≤ length part → joined K (part ∷ next ∷ rest) ≡ take K part ++ joined K (next ∷ rest)
  joined_full part next rest full = cond-false (nat_lt (length part) K) part (take K part ++ joined K (next ∷ rest)) (le-ltb (length part) K full)

  -- of a part with others behind it so many bytes count
  abbrev pub capped : List (List ℕ) → List ℕ → List ℕ
  capped [] part = part
  capped (next ∷ rest) part = take K part

  -- a part that isn't full, or with nothing behind it
  pub joined_capped : (part : List ℕ) (rest : List (List ℕ)) → 0 < K → (K ≤ length part → 0 < length rest → length (part_of rest 0) ≡ 0) → joined K (part ∷ rest) ≡ capped rest part
  joined_capped part [] some ends = refl
  joined_capped part (next ∷ rest) some ends = ⊎_elim
      (λ open_. joined_open part (next ∷ rest) open_ ∙ sym (take_all K part (omega arith)))
      (λ full.
      let none : length next ≡ 0 = ends full (omega arith) in
      joined_full part next rest full ∙ ap (λ more. take K part ++ more) (joined_open next rest (omega arith) ∙ nil_from_length next none) ∙ append-nil (take K part))
      (cases_lt (length part) K)

  -- what the parts before one hold, where all of them are full
  abbrev pub front : ℕ → List (List ℕ) → List ℕ
  front zero parts = []
  front (suc i) [] = []
  front (suc i) (part ∷ parts) = take K part ++ front i parts

  abbrev pub FullBefore : ℕ → List (List ℕ) → Type 0
  FullBefore i parts = (j : ℕ) → j < i → K ≤ length (part_of parts j)

  pub length-front : (i : ℕ) (parts : List (List ℕ)) → i ≤ length parts → FullBefore i parts → length (front i parts) ≡ i * K
  length-front zero parts within full = omega arith
  length-front (suc i) [] within full = absurd (let w : suc i ≤ 0 = within in omega arith)
  length-front (suc i) (part ∷ parts) within full =
      let w : suc i ≤ suc (length parts) = within in
      let here : K ≤ length part = full 0 (omega arith) in
      let there = length-front i parts (omega arith) (λ j below. full (suc j) (omega arith)) in
      let a = length-append (take K part) (front i parts) in
      let b = length-take K part in
      omega arith

  pub joined_front : (i : ℕ) (parts : List (List ℕ)) → i < length parts → FullBefore i parts → joined K parts ≡ front i parts ++ joined K (drop i parts)
  joined_front zero parts within full = refl
  joined_front (suc i) [] within full = absurd (let w : suc i < 0 = within in omega arith)
  joined_front (suc i) (part ∷ []) within full = absurd (let w : suc i < suc 0 = within in omega arith)
  joined_front (suc i) (part ∷ next ∷ rest) within full =
      let w : suc i < suc (suc (length rest)) = within in
      let deep : i < length (next ∷ rest) = (let v : i < suc (length rest) = omega arith in v) in
      joined_full part next rest (full 0 (omega arith))
      ∙ ap (λ more. take K part ++ more) (joined_front i (next ∷ rest) deep (λ j below. full (suc j) (omega arith)))
      ∙ sym (append_assoc (take K part) (front i (next ∷ rest)) (joined K (drop i (next ∷ rest))))

  pub front_set : (i j : ℕ) (parts : List (List ℕ)) (part : List ℕ) → i ≤ j → front i (set parts j part) ≡ front i parts
  front_set zero j parts part low = refl
  front_set (suc i) j [] part low = ap (front (suc i)) (set_past [] j part (omega arith))
  front_set (suc i) zero (p ∷ parts) part low = absurd (omega arith)
  front_set (suc i) (suc j) (p ∷ parts) part low = ap (λ more. take K p ++ more) (front_set i j parts part (omega arith))

  -- behind one that isn't full a part doesn't count
  pub joined_hidden : (i j : ℕ) (parts : List (List ℕ)) (part : List ℕ) → i < j → length (part_of parts i) < K → joined K (set parts j part) ≡ joined K parts
  joined_hidden i j [] part low open_ = ap (joined K) (set_past [] j part (omega arith))
  joined_hidden i zero (p ∷ parts) part low open_ = absurd (omega arith)
  joined_hidden zero (suc j) (p ∷ parts) part low open_ = joined_open p (set parts j part) open_ ∙ sym (joined_open p parts open_)
  joined_hidden (suc i) (suc j) (p ∷ []) part low open_ = ap (λ rest. joined K (p ∷ rest)) (set_past [] j part (omega arith))
  joined_hidden (suc i) (suc j) (p ∷ next ∷ rest) part low open_ = ⊎_elim
      (λ short. joined_open p (set (next ∷ rest) j part) short ∙ sym (joined_open p (next ∷ rest) short))
      (λ full. step j (joined_hidden i j (next ∷ rest) part (omega arith) open_) full)
      (cases_lt (length p) K)
    where
      step : (j : ℕ) → joined K (set (next ∷ rest) j part) ≡ joined K (next ∷ rest) → K ≤ length p → joined K (p ∷ set (next ∷ rest) j part) ≡ joined K (p ∷ next ∷ rest)
      step zero same full = joined_full p part rest full ∙ ap (λ more. take K p ++ more) same ∙ sym (joined_full p next rest full)
      step (suc j) same full = joined_full p next (set rest j part) full ∙ ap (λ more. take K p ++ more) same ∙ sym (joined_full p next rest full)

  -- one part of a level, by what the parts before it hold
  pub joined_at : (i : ℕ) (parts : List (List ℕ)) → i < length parts → FullBefore i parts → joined K parts ≡ front i parts ++ joined K (part_of parts i ∷ drop (i + 1) parts)
  joined_at i parts within full = joined_front i parts within full ∙ ap (λ more. front i parts ++ joined K more) (drop_more parts i [] within)

  pub joined_set : (i : ℕ) (parts : List (List ℕ)) (part : List ℕ) → i < length parts → FullBefore i parts → joined K (set parts i part) ≡ front i parts ++ joined K (part ∷ drop (i + 1) parts)
  joined_set i parts part within full =
      let w : i < length (set parts i part) = omega (arith, length-set parts i part) in
      joined_front i (set parts i part) w (λ j below. let ne : j ≡ i → ⊥ = (λ e. omega arith) in subst (λ p. K ≤ length p) (sym (get_or-set_other parts i j part [] ne)) (full j below))
      ∙ ap (λ before. before ++ joined K (drop i (set parts i part))) (front_set i i parts part (omega arith))
      ∙ ap (λ more. front i parts ++ joined K more) (drop-set parts i part within)

  -- what stands behind a part
  pub behind : (i : ℕ) (parts : List (List ℕ)) → i + 1 < length parts → (0 < length (drop (i + 1) parts)) × (part_of (drop (i + 1) parts) 0 ≡ part_of parts (i + 1))
  behind i parts within = let e = drop_more parts (i + 1) [] within in (subst (λ xs. 0 < length xs) (sym e) (omega arith), ap (λ xs. part_of xs 0) e)
