-- The first slots of lanes, hashed.
use Rattle.std.proofs.Common.{◌≡◌, ◌≢◌, ◌<◌, ◌≤◌, ℕ, ◌+◌, List, [], ◌∷◌, ◌++◌, length, map, take, drop, set, get_or, refl, sym, subst, ap, ap₂, ◌∙◌, arith}
use Rattle.std.specs.List.{All}
use Rattle.std.proofs.lemmas.List.{length-append, length-drop, length-map, length-take, length-set, map-append, take_all, take_more, take_more_set, get_or-map, get_or-set_other, get_or_default}
use Rattle.file_table.specs.declared.shape.Shape.{Shape}
use Rattle.stripe_reader.specs.Fetched.{hashed_front}
use Rattle.stripe_reader.specs.Hashing.{hashed}
use Rattle.stripe_reader.specs.SlotValue.{SlotValue}
use Rattle.stripe_reader.specs.WindowValue.{IsLane}
use Rattle.stripe_reader.proofs.HashingLemmas.{front_blocks, front_read}

-- the first of some values are changed by a function, and the others are as they were
pub record MapsFirst {A : Type 0} (f : A → A) (none : A) (count : ℕ) (before now : List A) : Type 0 where
  pub first : take count now ≡ map f (take count before)
  pub others : (i : ℕ) → count ≤ i → get_or now i none ≡ get_or before i none
  pub as_many : length now ≡ length before

module _ {A : Type 0} (f : A → A) (none : A) (before now : List A) where
  pub maps_more : (i : ℕ) (other new : A) → i < length before → MapsFirst f none i before now → new ≡ f (get_or now i other) → MapsFirst f none (i + 1) before (set now i new)
  maps_more i other new lt so_far new_is =
      let there : i < length now = omega (arith, lt, so_far.as_many) in
      let one : new ≡ f (get_or before i none) = new_is ∙ ap f (get_or_default now i other none there ∙ so_far.others i (omega arith)) in
      record {
        first = take_more_set now i new there ∙ ap₂ (λ (front : List A) (it : A). front ++ it ∷ []) so_far.first one
            ∙ sym (ap (map f) (take_more before i none lt) ∙ map-append f (take i before) (get_or before i none ∷ []));
        others = λ j above. let apart : j ≢ i = omega (arith, above) in get_or-set_other now i j new none apart ∙ so_far.others j (omega (arith, above));
        as_many = length-set now i new ∙ so_far.as_many;
      }

  pub maps_all : MapsFirst f none (length before) before now → now ≡ map f before
  maps_all all =
      sym (take_all (length before) now (omega (arith, all.as_many))) ∙ all.first ∙ ap (map f) (take_all (length before) before (omega arith))

-- the front of a lane that is hashed
pub front_of : (shape : Shape) (n : ℕ) (slots : List SlotValue) → n ≤ length slots → take n (hashed_front shape n slots) ≡ map (hashed shape) (take n slots)
front_of shape n slots enough = front_read shape shape n slots (map (hashed shape) (take n slots)) (drop n slots) refl enough refl

pub front_lane : (shape : Shape) (n block_size room : ℕ) (slots : List SlotValue) → IsLane block_size room slots → IsLane block_size room (hashed_front shape n slots)
front_lane shape n block_size room slots is = record {
  as_many = omega (arith, is.as_many, length-append (map (hashed shape) (take n slots)) (drop n slots), length-map (take n slots) (hashed shape), length-take n slots, length-drop n slots);
  blocks = front_blocks block_size shape n slots (map (hashed shape) (take n slots)) is.blocks refl;
}

pub front_lanes : (shape : Shape) (n block_size room : ℕ) (lanes news : List (List SlotValue)) → news ≡ map (hashed_front shape n) lanes → All (IsLane block_size room) lanes → All (IsLane block_size room) news
front_lanes shape n block_size room lanes news is have =
    subst (All (IsLane block_size room)) (sym is) (λ k d lt.
    let within : k < length lanes = omega (arith, lt, length-map lanes (hashed_front shape n)) in
    subst (IsLane block_size room) (sym (get_or-map (hashed_front shape n) lanes k d d within)) (front_lane shape n block_size room (get_or lanes k d) (have k d within)))
