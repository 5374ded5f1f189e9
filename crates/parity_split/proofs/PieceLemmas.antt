-- Writes and changes of length that are cut short, on a part of a list of bytes.
use Rattle.std.proofs.Common.{◌≡◌, inl, inr, ◌⊎◌, ⊎_elim, ℕ, ◌+◌, ◌-◌, ◌<◌, ◌≤◌, List, ◌++◌, length, take, get_or, refl, sym, ◌∙◌, subst, arith, length-append}
use Rattle.std.proofs.lemmas.List.{length-take, get_or-take, get_or_append_left, get_or-append_right}
use Rattle.std.proofs.lemmas.Bool.{cases_lt}
use Rattle.disk_model.specs.Bytes.{Torn, Stretched}

pub torn_then : (at n : ℕ) (x y z : List ℕ) → Torn at n x y → Torn at n y z → Torn at n x z
torn_then at n x y z one two = record {
  same = λ i within out. two.same i (omega (arith, one.no_shorter)) out ∙ one.same i within out;
  no_shorter = omega (arith, one.no_shorter, two.no_shorter);
  no_longer = omega (arith, one.no_longer, two.no_longer);
}

pub stretched_then : (len : ℕ) (x y z : List ℕ) → Stretched len x y → Stretched len y z → Stretched len x z
stretched_then len x y z one two = record {
  same = λ i within left below. two.same i (omega (arith, one.no_shorter)) left below ∙ one.same i within (omega (arith, one.no_shorter)) below;
  no_shorter = omega (arith, one.no_shorter, two.no_shorter);
  no_longer = omega (arith, one.no_longer, two.no_longer);
}

-- by a range that holds the other
pub torn_wider : (at n o l : ℕ) (x y : List ℕ) → at ≤ o → o + l ≤ at + n → Torn o l x y → Torn at n x y
torn_wider at n o l x y low high torn = record {
  same = λ i within out. torn.same i within (⊎_elim (λ below. inl (omega arith)) (λ above. inr (omega arith)) out);
  no_shorter = torn.no_shorter;
  no_longer = omega (arith, torn.no_longer);
}

-- bytes that are only added, up to a length, are a change of the length to it
pub stretched_by_growth : (n : ℕ) (x y : List ℕ) → Torn n 0 x y → Stretched n x y
stretched_by_growth n x y torn = record {
  same = λ i within left below. torn.same i within (inl below);
  no_shorter = omega (arith, torn.no_shorter);
  no_longer = omega (arith, torn.no_longer);
}

pub torn_take : (m at n : ℕ) (x y : List ℕ) → at + n ≤ m → Torn at n x y → Torn at n (take m x) (take m y)
torn_take m at n x y room torn = record {
  same = λ i within out.
      let a = length-take m x in
      let low : i < m = omega arith in
      let long : i < length x = omega arith in
      get_or-take m y i 0 low ∙ torn.same i long out ∙ sym (get_or-take m x i 0 low);
  no_shorter = (let a = length-take m x in let b = length-take m y in omega (arith, torn.no_shorter));
  no_longer = (let a = length-take m x in let b = length-take m y in omega (arith, torn.no_longer));
}

pub stretched_take : (m len : ℕ) (x y : List ℕ) → len ≤ m → Stretched len x y → Stretched len (take m x) (take m y)
stretched_take m len x y room stretched = record {
  same = λ i within left below.
      let a = length-take m x in
      let b = length-take m y in
      let low : i < m = omega arith in
      let long : i < length x = omega arith in
      let long_now : i < length y = omega arith in
      get_or-take m y i 0 low ∙ stretched.same i long long_now below ∙ sym (get_or-take m x i 0 low);
  no_shorter = (let a = length-take m x in let b = length-take m y in omega (arith, stretched.no_shorter));
  no_longer = (let a = length-take m x in let b = length-take m y in omega (arith, stretched.no_longer));
}

-- a change of the length to all that counts, of what counts, only adds bytes
pub growth_take : (m : ℕ) (x y : List ℕ) → Stretched m x y → Torn m 0 (take m x) (take m y)
growth_take m x y stretched = record {
  same = λ i within out.
      let a = length-take m x in
      let low : i < m = omega arith in
      let long : i < length x = omega arith in
      let long_now : i < length y = omega (arith, stretched.no_shorter) in
      get_or-take m y i 0 low ∙ stretched.same i long long_now low ∙ sym (get_or-take m x i 0 low);
  no_shorter = (let a = length-take m x in let b = length-take m y in omega (arith, stretched.no_shorter));
  no_longer = (let a = length-take m x in let b = length-take m y in omega (arith, stretched.no_longer));
}

-- behind other bytes
same_behind : (front x y : List ℕ) (s i : ℕ) → length front ≡ s → i < s ⊎ ((s ≤ i) × (get_or y (i - s) 0 ≡ get_or x (i - s) 0)) → get_or (front ++ y) i 0 ≡ get_or (front ++ x) i 0
same_behind front x y s i long where_ = ⊎_elim
    (λ low. let l : i < length front = omega arith in get_or_append_left front y 0 i l ∙ sym (get_or_append_left front x 0 i l))
    (λ high. get_or-append_right front y s i 0 long high.0 ∙ high.1 ∙ sym (get_or-append_right front x s i 0 long high.0))
    where_

pub torn_behind : (s at n : ℕ) (front x y : List ℕ) → length front ≡ s → Torn at n x y → Torn (s + at) n (front ++ x) (front ++ y)
torn_behind s at n front x y long torn = record {
  same = λ i within out.
      let a = length-append front x in
      same_behind front x y s i long (⊎_elim (λ low. inl low) (λ high. inr (high, torn.same (i - s) (omega arith) (⊎_elim (λ below. inl (omega arith)) (λ above. inr (omega arith)) out))) (cases_lt i s));
  no_shorter = (let a = length-append front x in let b = length-append front y in omega (arith, torn.no_shorter));
  no_longer = (let a = length-append front x in let b = length-append front y in omega (arith, torn.no_longer));
}

pub stretched_behind : (s len : ℕ) (front x y : List ℕ) → length front ≡ s → Stretched len x y → Stretched (s + len) (front ++ x) (front ++ y)
stretched_behind s len front x y long stretched = record {
  same = λ i within left below.
      let a = length-append front x in
      let b = length-append front y in
      same_behind front x y s i long (⊎_elim (λ low. inl low) (λ high. inr (high, stretched.same (i - s) (omega arith) (omega arith) (omega arith))) (cases_lt i s));
  no_shorter = (let a = length-append front x in let b = length-append front y in omega (arith, stretched.no_shorter));
  no_longer = (let a = length-append front x in let b = length-append front y in omega (arith, stretched.no_longer));
}

-- cut off behind bytes that are kept
pub stretched_to_front : (s len : ℕ) (front x y : List ℕ) → length front ≡ s → len ≤ s → Stretched 0 x y → Stretched len (front ++ x) (front ++ y)
stretched_to_front s len front x y long low stretched = record {
  same = λ i within left below. same_behind front x y s i long (inl (omega arith));
  no_shorter = (let a = length-append front x in let b = length-append front y in omega (arith, stretched.no_shorter));
  no_longer = (let a = length-append front x in let b = length-append front y in omega (arith, stretched.no_longer));
}

-- before bytes that stay where they are
pub torn_before : (at n : ℕ) (x y rest : List ℕ) → length y ≡ length x → Torn at n x y → Torn at n (x ++ rest) (y ++ rest)
torn_before at n x y rest long torn = record {
  same = λ i within out. ⊎_elim
      (λ low. let now : i < length y = omega arith in get_or_append_left y rest 0 i now ∙ torn.same i low out ∙ sym (get_or_append_left x rest 0 i low))
      (λ high. get_or-append_right y rest (length x) i 0 long high ∙ sym (get_or-append_right x rest (length x) i 0 refl high))
      (cases_lt i (length x));
  no_shorter = (let a = length-append x rest in let b = length-append y rest in omega arith);
  no_longer = (let a = length-append x rest in let b = length-append y rest in omega arith);
}

pub growth_wider : (m n : ℕ) (x y : List ℕ) → m ≤ n → Torn m 0 x y → Torn n 0 x y
growth_wider m n x y low torn = record {
  same = λ i within out. torn.same i within (⊎_elim (λ below. inl below) (λ above. inr (omega arith)) (cases_lt i m));
  no_shorter = torn.no_shorter;
  no_longer = omega (arith, torn.no_longer);
}

pub same_torn : (at n : ℕ) (x y : List ℕ) → y ≡ x → Torn at n x y
same_torn at n x y same = subst (λ z. Torn at n x z) (sym same) (record { same = λ i within out. refl; no_shorter = omega arith; no_longer = omega arith })

pub same_stretched : (len : ℕ) (x y : List ℕ) → y ≡ x → Stretched len x y
same_stretched len x y same = subst (λ z. Stretched len x z) (sym same) (record { same = λ i within left below. refl; no_shorter = omega arith; no_longer = omega arith })
