-- Bytes place by place, on a part of a list.
use Rattle.std.proofs.Common.{◌≡◌, inl, inr, ◌⊎◌, ⊎_elim, ℕ, ◌+◌, ◌-◌, ◌<◌, ◌≤◌, min, max, List, ◌++◌, length, take, drop, replicate, get_or, refl, sym, ◌∙◌, ap, arith, length-append}
use Rattle.std.proofs.lemmas.List.{length-take, length-replicate, get_or-take, get_or_append_left, get_or-append_right, get_or_past, get_or-replicate, ext_get_or}
use Rattle.std.proofs.lemmas.Bool.{cases_lt}
use Rattle.disk_model.specs.Bytes.{put, resized, Torn}
use Rattle.disk_model.proofs.BytesLemmas.{length-put, length-resized, torn_by_put, stretched_by_resized, put_gap}
use Rattle.parity_split.specs.Values.{SameValues, IsResized, IsPut, IsPutBelow}

pub resized_values : (len : ℕ) (x : List ℕ) → IsResized len x (resized x len)
resized_values len x =
    let long = length-resized x len in
    record {
      long = long;
      same = λ i below. ⊎_elim
          (λ low. (stretched_by_resized x len).same i low (omega arith) below)
          (λ high.
          let whole : length (take len x) ≡ length x = (let l = length-take len x in omega arith) in
          get_or-append_right (take len x) (replicate (len - length x) 0) (length x) i 0 whole high
          ∙ get_or-replicate (len - length x) (i - length x) 0 0 (omega arith) ∙ sym (get_or_past x i 0 high))
          (cases_lt i (length x));
    }

pub is_resized : (len : ℕ) (x y : List ℕ) → IsResized len x y → y ≡ resized x len
is_resized len x y is =
    let other = resized_values len x in
    ext_get_or 0 y (resized x len) (omega (arith, is.long, other.long)) (λ i within. is.same i (omega (arith, is.long)) ∙ sym (other.same i (omega (arith, is.long))))

pub put_values : (at : ℕ) (bytes x : List ℕ) → IsPut at bytes x (put x at bytes)
put_values at bytes x =
    let long = length-put x at bytes in
    let front = take at x ++ replicate (at - length x) 0 in
    let rest = drop (at + length bytes) x in
    let first : length front ≡ at = (let a = length-append (take at x) (replicate (at - length x) 0) in let b = length-take at x in let c = length-replicate {A = ℕ} (at - length x) 0 in omega arith) in
    let both : length (front ++ bytes) ≡ at + length bytes = (let a = length-append front bytes in omega arith) in
    record {
      long = omega arith;
      inside = λ i low high. get_or_append_left (front ++ bytes) rest 0 i (omega arith) ∙ get_or-append_right front bytes at i 0 first low;
      outside = λ i out. ⊎_elim
          (λ within. (torn_by_put x at bytes).same i within out)
          (λ past. ⊎_elim
          (λ low. put_gap x at bytes i past low ∙ sym (get_or_past x i 0 past))
          (λ high. get_or_past (put x at bytes) i 0 (omega arith) ∙ sym (get_or_past x i 0 past))
          out)
          (cases_lt i (length x));
    }

pub is_put : (at : ℕ) (bytes x y : List ℕ) → IsPut at bytes x y → y ≡ put x at bytes
is_put at bytes x y is =
    let other = put_values at bytes x in
    ext_get_or 0 y (put x at bytes) (omega (arith, is.long, other.long))
    (λ i within. ⊎_elim
    (λ low. is.outside i (inl low) ∙ sym (other.outside i (inl low)))
    (λ from. ⊎_elim
    (λ inside. is.inside i from inside ∙ sym (other.inside i from inside))
    (λ past. is.outside i (inr past) ∙ sym (other.outside i (inr past)))
    (cases_lt i (at + length bytes)))
    (cases_lt i at))

pub resized_take : (m len : ℕ) (x y : List ℕ) → len ≤ m → IsResized len x y → IsResized len (take m x) (take m y)
resized_take m len x y room is = record {
  long = (let a = length-take m y in omega (arith, is.long));
  same = λ i below. get_or-take m y i 0 (omega arith) ∙ is.same i below ∙ sym (get_or-take m x i 0 (omega arith));
}

pub put_take : (m at : ℕ) (bytes x y : List ℕ) → at + length bytes ≤ m → IsPut at bytes x y → IsPut at bytes (take m x) (take m y)
put_take m at bytes x y room is = record {
  long = (let a = length-take m x in let b = length-take m y in omega (arith, is.long));
  inside = λ i low high. get_or-take m y i 0 (omega arith) ∙ is.inside i low high;
  outside = λ i out. ⊎_elim
      (λ below. get_or-take m y i 0 below ∙ is.outside i out ∙ sym (get_or-take m x i 0 below))
      (λ past. get_or_past (take m y) i 0 (let b = length-take m y in omega arith) ∙ sym (get_or_past (take m x) i 0 (let a = length-take m x in omega arith)))
      (cases_lt i m);
}

same_behind : (front x y : List ℕ) (s i : ℕ) → length front ≡ s → (i < s) ⊎ ((s ≤ i) × (get_or y (i - s) 0 ≡ get_or x (i - s) 0)) → get_or (front ++ y) i 0 ≡ get_or (front ++ x) i 0
same_behind front x y s i long where_ = ⊎_elim
    (λ low. let l : i < length front = omega arith in get_or_append_left front y 0 i l ∙ sym (get_or_append_left front x 0 i l))
    (λ high. get_or-append_right front y s i 0 long high.0 ∙ high.1 ∙ sym (get_or-append_right front x s i 0 long high.0))
    where_

pub resized_behind : (s len : ℕ) (front x y : List ℕ) → length front ≡ s → IsResized len x y → IsResized (s + len) (front ++ x) (front ++ y)
resized_behind s len front x y long is = record {
  long = (let b = length-append front y in omega (arith, is.long));
  same = λ i below. same_behind front x y s i long (⊎_elim (λ low. inl low) (λ high. inr (high, is.same (i - s) (omega arith))) (cases_lt i s));
}

pub put_behind : (s at : ℕ) (bytes front x y : List ℕ) → length front ≡ s → IsPut at bytes x y → IsPut (s + at) bytes (front ++ x) (front ++ y)
put_behind s at bytes front x y long is = record {
  long = (let a = length-append front x in let b = length-append front y in omega (arith, is.long));
  inside = λ i low high. get_or-append_right front y s i 0 long (omega arith) ∙ is.inside (i - s) (omega arith) (omega arith) ∙ ap (λ k. get_or bytes k 0) (omega arith);
  outside = λ i out. same_behind front x y s i long (⊎_elim (λ low. inl low) (λ high. inr (high, is.outside (i - s) (⊎_elim (λ below. inl (omega arith)) (λ above. inr (omega arith)) out))) (cases_lt i s));
}

-- before bytes that stay where they are
pub put_before : (at : ℕ) (bytes x y rest : List ℕ) → at + length bytes ≤ length x → IsPut at bytes x y → IsPut at bytes (x ++ rest) (y ++ rest)
put_before at bytes x y rest room is =
    let same_length : length y ≡ length x = omega (arith, is.long) in
    record {
      long = (let a = length-append x rest in let b = length-append y rest in omega arith);
      inside = λ i low high. get_or_append_left y rest 0 i (omega arith) ∙ is.inside i low high;
      outside = λ i out. ⊎_elim
          (λ within. let now : i < length y = omega arith in get_or_append_left y rest 0 i now ∙ is.outside i out ∙ sym (get_or_append_left x rest 0 i within))
          (λ past. get_or-append_right y rest (length x) i 0 same_length past ∙ sym (get_or-append_right x rest (length x) i 0 refl past))
          (cases_lt i (length x));
    }

pub put_below_none : (at : ℕ) (bytes x : List ℕ) → IsPutBelow 0 at bytes x x
put_below_none at bytes x = record { long = refl; inside = λ i low high below. absurd (omega arith); outside = λ i out. refl }

-- with no bytes before the next place
pub put_below_skip : (s e at : ℕ) (bytes start x : List ℕ) → s ≤ e → min (at + length bytes) e ≤ max at s → IsPutBelow s at bytes start x → IsPutBelow e at bytes start x
put_below_skip s e at bytes start x up none is = record {
  long = is.long;
  inside = λ i low high below. is.inside i low high (omega arith);
  outside = λ i out. is.outside i (λ low high. ⊎_elim (λ under. absurd (let o = out low high in omega arith)) (λ from. from) (cases_lt i s));
}

-- with the bytes from one place up to the next
pub put_below_more : (s e at o : ℕ) (bytes piece start x y : List ℕ) → s ≤ e → e ≤ length x → s + o ≡ max at s → s + o + length piece ≡ min (at + length bytes) e
    → ((k : ℕ) → k < length piece → get_or piece k 0 ≡ get_or bytes (s + o + k - at) 0) → IsPutBelow s at bytes start x → IsPut (s + o) piece x y → IsPutBelow e at bytes start y
put_below_more s e at o bytes piece start x y up room from to values is put_ = record {
  long = omega (arith, is.long, put_.long);
  inside = λ i low high below. ⊎_elim
      (λ under. put_.outside i (inl (omega arith)) ∙ is.inside i low high under)
      (λ over. put_.inside i (omega arith) (omega arith) ∙ values (i - (s + o)) (omega arith) ∙ ap (λ k. get_or bytes k 0) (omega arith))
      (cases_lt i s);
  outside = λ i out. ⊎_elim
      (λ under. put_.outside i (inl under) ∙ is.outside i (λ low high. ⊎_elim (λ below. absurd (let q = out low high in omega arith)) (λ past. past) (cases_lt i s)))
      (λ over. ⊎_elim
      (λ within. absurd (let q = out (omega arith) (omega arith) in omega arith))
      (λ past. put_.outside i (inr past) ∙ is.outside i (λ low high. omega arith))
      (cases_lt i (s + o + length piece)))
      (cases_lt i (s + o));
}

-- with all that are left
pub put_below_end : (s at o : ℕ) (bytes piece start x y : List ℕ) → s + o ≡ max at s → s + o + length piece ≡ at + length bytes
    → ((k : ℕ) → k < length piece → get_or piece k 0 ≡ get_or bytes (s + o + k - at) 0) → IsPutBelow s at bytes start x → IsPut (s + o) piece x y → IsPut at bytes start y
put_below_end s at o bytes piece start x y from to values is put_ = record {
  long = omega (arith, is.long, put_.long);
  inside = λ i low high. ⊎_elim
      (λ under. put_.outside i (inl (omega arith)) ∙ is.inside i low high under)
      (λ over. put_.inside i (omega arith) (omega arith) ∙ values (i - (s + o)) (omega arith) ∙ ap (λ k. get_or bytes k 0) (omega arith))
      (cases_lt i s);
  outside = λ i out. ⊎_elim
      (λ below. put_.outside i (inl (omega arith)) ∙ is.outside i (λ low high. absurd (omega arith)))
      (λ above. put_.outside i (inr (omega arith)) ∙ is.outside i (λ low high. absurd (omega arith)))
      out;
}

-- where all of them stand before that place
pub put_below_all : (s at : ℕ) (bytes x y : List ℕ) → at + length bytes ≤ s → at + length bytes ≤ length x → IsPutBelow s at bytes x y → IsPut at bytes x y
put_below_all s at bytes x y low room is = record {
  long = omega (arith, is.long);
  inside = λ i from to. is.inside i from to (omega arith);
  outside = λ i out. is.outside i (λ from to. ⊎_elim (λ below. absurd (omega arith)) (λ above. absurd (omega arith)) out);
}

pub put_below_start : (s at : ℕ) (bytes x : List ℕ) → s ≡ 0 → IsPutBelow s at bytes x x
put_below_start s at bytes x zero = record { long = refl; inside = λ i low high below. absurd (omega arith); outside = λ i out. refl }

-- after the level grew, which only added zeros
pub put_after_growth : (at to : ℕ) (bytes x y z : List ℕ) → at + length bytes ≡ to → Torn to 0 x y → SameValues x y → IsPut at bytes y z → IsPut at bytes x z
put_after_growth at to bytes x y z e torn same is = record {
  long = omega (arith, is.long, torn.no_shorter, torn.no_longer);
  inside = is.inside;
  outside = λ i out. is.outside i out ∙ same i;
}
