-- Rooms of stripes that are changed one after another, and those whose blocks are given their digests.
use Rattle.std.proofs.Common.{◌≡◌, ◌≢◌, inl, inr, ℕ, zero, suc, ◌+◌, ◌*◌, ◌<◌, ◌≤◌, List, [], ◌∷◌, length, get_or, set, replicate, Option, None, Some, true, false, refl, sym, ap, ◌∙◌, subst, arith}
use Rattle.std.specs.List.{AllZip}
use Rattle.std.proofs.lemmas.Bool.{cases_lt, false≢true}
use Rattle.std.proofs.lemmas.Bool.Decides.{eqb_tells}
use Rattle.std.proofs.lemmas.List.{get_or-replicate, get_or-set_other, get_or-set_same, get_or_default, get_or_past, length-set}
use Rattle.block_hash.specs.Hash.{hash}
use Rattle.block_hash.specs.declared.Digest16.{Digest16}
use Rattle.block_hash.specs.declared.Kind.TheVariants.{Md5}
use Rattle.file_table.specs.Table.{TableValue}
use Rattle.file_table.specs.declared.shape.Shape.{Shape}
use Rattle.parity_writer.specs.LevelsValue.{LevelsValue}
use Rattle.parity_writer.specs.WindowRow.{row_at}
use Rattle.stripe_reader.specs.WindowValue.{WindowValue}
use Rattle.stripe_examiner.specs.declared.room.StripeRoom.{StripeRoom}
use Rattle.stripe_examiner.specs.declared.search.Wanted.{Wanted}
use Rattle.stripe_examiner.specs.FirstChoice.{AreDigestsOf, HasFirst, HasFirstIn, HashesRoom, HashesRooms, HaveSixBlocks, IsFirstOf, JudgesRoom, MakesFirst}
use Rattle.stripe_examiner.specs.MarkedWindow.{number_at}
use Rattle.stripe_examiner.specs.Judged.{KeepsRead}
use Rattle.stripe_examiner.specs.Marks.{levels_read, wanted_marked}
use Rattle.repair_scope.specs.Plan.{FixPlan}
use Rattle.stripe_examiner.specs.Room.{IsStripeRoomFor}
use Rattle.stripe_examiner.specs.Search.{block_in}

-- ---- one after another

-- each of the first so many rooms is changed in such a way, by its number, and the others are as they were
pub record ChangesFirst (Changes : ℕ → StripeRoom → StripeRoom → Type 0) (count : ℕ) (before after : List StripeRoom) : Type 0 where
  pub changed : (k : ℕ) (other : StripeRoom) → k < count → Changes k (get_or before k other) (get_or after k other)
  pub later : (k : ℕ) (other : StripeRoom) → count ≤ k → get_or after k other ≡ get_or before k other

pub changes_none : (Changes : ℕ → StripeRoom → StripeRoom → Type 0) (rooms : List StripeRoom) → ChangesFirst Changes 0 rooms rooms
changes_none Changes rooms = record { changed = λ k other below. absurd (omega (arith, below)); later = λ k other behind. refl }

pub changes_more : (Changes : ℕ → StripeRoom → StripeRoom → Type 0) (n : ℕ) (before now : List StripeRoom) (none new : StripeRoom) → n < length now
    → Changes n (get_or now n none) new → ChangesFirst Changes n before now → ChangesFirst Changes (n + 1) before (set now n new)
changes_more Changes n before now none new within one so_far = record {
  changed = λ k other below. elim (eqb_tells k n) [
    | inl same ↦
        let old_is : get_or now n none ≡ get_or before n other = get_or_default now n none other within ∙ so_far.later n other (omega arith) in
        subst (λ (j : ℕ). Changes j (get_or before j other) (get_or (set now n new) j other)) (sym same.1)
        (subst (Changes n (get_or before n other)) (sym (get_or-set_same now n new other within)) (subst (λ (it : StripeRoom). Changes n it new) old_is one))
    | inr apart ↦
        subst (Changes k (get_or before k other)) (sym (get_or-set_other now n k new other apart.1)) (so_far.changed k other (omega (arith, below, apart.1)))
  ];
  later = λ k other behind.
      let apart : k ≢ n = omega (arith, behind) in
      get_or-set_other now n k new other apart ∙ so_far.later k other (omega (arith, behind));
}

-- a room that was judged as one of a part
pub judged_at : (plan : FixPlan) (numbers : List ℕ) (window : WindowValue) (start offset k : ℕ) (old new its_old its_new : StripeRoom) → start + offset ≡ k → old ≡ its_old → new ≡ its_new
    → JudgesRoom plan (number_at numbers (start + offset)) (start + offset) window old new → JudgesRoom plan (number_at numbers k) k window its_old its_new
judged_at plan numbers window start offset k old new its_old its_new at old_is new_is judged =
    subst (λ (n : ℕ). JudgesRoom plan (number_at numbers n) n window its_old its_new) at
    (subst (λ (it : StripeRoom). JudgesRoom plan (number_at numbers (start + offset)) (start + offset) window its_old it) new_is
    (subst (λ (it : StripeRoom). JudgesRoom plan (number_at numbers (start + offset)) (start + offset) window it new) old_is judged))

-- ---- digests of blocks

hashes_same : (shape : Shape) (own : StripeRoom) → HashesRoom shape own own
hashes_same shape own = record {
  kept = record { found = refl; marks = refl; levels = refl };
  remainders = refl;
  blocks = refl;
  is_made = refl;
  digests = λ are. are;
}

hashes_then : (shape : Shape) (old mid new : StripeRoom) → HashesRoom shape old mid → HashesRoom shape mid new → HashesRoom shape old new
hashes_then shape old mid new one two = record {
  kept = record { found = two.kept.found ∙ one.kept.found; marks = two.kept.marks ∙ one.kept.marks; levels = two.kept.levels ∙ one.kept.levels };
  remainders = two.remainders ∙ one.remainders;
  blocks = two.blocks ∙ one.blocks;
  is_made = two.is_made ∙ one.is_made;
  digests = λ are. two.digests (one.digests are);
}

-- a digest more
digests_more : (shape : Shape) (blocks : List ℕ) (digests : List (Option Digest16)) (j : ℕ) (digest : Digest16) → digest.0 ≡ hash shape.kind shape.seed (block_in shape.block_size blocks j)
    → AreDigestsOf 6 shape blocks digests → AreDigestsOf 6 shape blocks (set digests j (Some digest))
digests_more shape blocks digests j digest is are i other below there = elim (eqb_tells i j) [
  | inl same ↦
      elim (cases_lt j (length digests)) [
        | inl within ↦
            let here : Some digest ≡ Some other =
            sym (get_or-set_same digests j (Some digest) None within) ∙ ap (λ (n : ℕ). get_or (set digests j (Some digest)) n None) (sym same.1) ∙ there in
            let one : digest ≡ other = cc in
            ap (λ (it : Digest16). it.0) (sym one) ∙ is ∙ ap (λ (n : ℕ). hash shape.kind shape.seed (block_in shape.block_size blocks n)) (sym same.1)
        | inr past ↦
            let none : None ≡ Some other =
            sym (get_or_past (set digests j (Some digest)) i None (omega (arith, past, same.1, length-set digests j (Some digest)))) ∙ there in
            absurd cc
      ]
  | inr apart ↦ are i other below (sym (get_or-set_other digests j i (Some digest) None apart.1) ∙ there)
]

hashes_one : (shape : Shape) (own new : StripeRoom) (j : ℕ) (digest : Digest16) → digest.0 ≡ hash shape.kind shape.seed (block_in shape.block_size own.blocks.items j)
    → (let it : StripeRoom = record own { first = record own.first { digests = set own.first.digests j (Some digest) } } in new ≡ it) → HashesRoom shape own new
hashes_one shape own new j digest is new_is = subst (HashesRoom shape own) (sym new_is) (record {
  kept = record { found = refl; marks = refl; levels = refl };
  remainders = refl;
  blocks = refl;
  is_made = refl;
  digests = λ are. digests_more shape own.blocks.items own.first.digests j digest is are;
})

-- ---- what a room has stays

pub kept_then : (old mid new : StripeRoom) → KeepsRead old mid → KeepsRead mid new → KeepsRead old new
kept_then old mid new one two = record { found = two.found ∙ one.found; marks = two.marks ∙ one.marks; levels = two.levels ∙ one.levels }

pub hashed_room : (table : TableValue) (old new : StripeRoom) → HashesRoom table.shape old new → IsStripeRoomFor table old → IsStripeRoomFor table new
hashed_room table old new hashes room = record {
  found = ap (λ it. length it.items) hashes.kept.found ∙ room.found;
  marks = ap (λ it. length it.items) hashes.kept.marks ∙ room.marks;
  levels = ap (λ (it : LevelsValue). it.block_size) hashes.kept.levels ∙ room.levels;
  remainders = ap (λ it. length it.items) hashes.remainders ∙ room.remainders;
  blocks = ap (λ it. length it.items) hashes.blocks ∙ room.blocks;
}

pub hashed_first : (plan : FixPlan) (stripe i : ℕ) (window : WindowValue) (old new : StripeRoom) → HashesRoom plan.table.shape old new → HasFirstIn plan stripe i window old
    → HasFirstIn plan stripe i window new
hashed_first plan stripe i window old new hashes has = record {
  made = λ is.
      subst (λ marks. IsFirstOf plan.table.shape (wanted_marked plan stripe marks.items) (row_at window i) (levels_read true new.levels) new.remainders.items new.blocks.items) (sym hashes.kept.marks)
      (subst (λ (levels : LevelsValue). IsFirstOf plan.table.shape (wanted_marked plan stripe old.marks.items) (row_at window i) (levels_read true levels) new.remainders.items new.blocks.items) (sym hashes.kept.levels)
      (subst (λ left. IsFirstOf plan.table.shape (wanted_marked plan stripe old.marks.items) (row_at window i) (levels_read true old.levels) left.items new.blocks.items) (sym hashes.remainders)
      (subst (λ blocks. IsFirstOf plan.table.shape (wanted_marked plan stripe old.marks.items) (row_at window i) (levels_read true old.levels) old.remainders.items blocks.items) (sym hashes.blocks)
      (has.made (sym hashes.is_made ∙ is)))));
  digests = hashes.digests has.digests;
}

pub room_kept : (table : TableValue) (old new : StripeRoom) → KeepsRead old new → length new.remainders.items ≡ 6 * table.shape.block_size → length new.blocks.items ≡ 6 * table.shape.block_size
    → IsStripeRoomFor table old → IsStripeRoomFor table new
room_kept table old new kept remainders blocks room = record {
  found = ap (λ it. length it.items) kept.found ∙ room.found;
  marks = ap (λ it. length it.items) kept.marks ∙ room.marks;
  levels = ap (λ (it : LevelsValue). it.block_size) kept.levels ∙ room.levels;
  remainders = remainders;
  blocks = blocks;
}

-- six times none
pub no_digests : (j : ℕ) → j < 6 → (let none : Option Digest16 = None in get_or (replicate 6 none) j none ≡ none)
no_digests j below = get_or-replicate 6 j None None below

-- where some were made
pub makes_some : (plan : FixPlan) (stripe i : ℕ) (window : WindowValue) (old new : StripeRoom) (wanteds : List Wanted) (remainders work : List ℕ) → IsStripeRoomFor plan.table new → KeepsRead old new
    → wanteds ≡ wanted_marked plan stripe old.marks.items → new.remainders.items ≡ remainders → new.blocks.items ≡ work → ((j : ℕ) → j < 6 → get_or new.first.digests j None ≡ None)
    → IsFirstOf plan.table.shape wanteds (row_at window i) (levels_read true old.levels) remainders work → MakesFirst plan stripe i window old new
makes_some plan stripe i window old new wanteds remainders work room kept wanteds_are left_is work_is none is_first = record {
  room = room;
  kept = kept;
  first = record {
    made = λ is.
        subst (λ (ws : List Wanted). IsFirstOf plan.table.shape ws (row_at window i) (levels_read true new.levels) new.remainders.items new.blocks.items)
        (wanteds_are ∙ ap (λ marks. wanted_marked plan stripe marks.items) (sym kept.marks))
        (subst (λ (levels : LevelsValue). IsFirstOf plan.table.shape wanteds (row_at window i) (levels_read true levels) new.remainders.items new.blocks.items) (sym kept.levels)
        (subst (λ (left : List ℕ). IsFirstOf plan.table.shape wanteds (row_at window i) (levels_read true old.levels) left new.blocks.items) (sym left_is)
        (subst (λ (bytes : List ℕ). IsFirstOf plan.table.shape wanteds (row_at window i) (levels_read true old.levels) remainders bytes) (sym work_is) is_first)));
    digests = λ j digest below is. let never : None ≡ Some digest = sym (none j below) ∙ is in absurd cc;
  };
}

-- where none were made
pub makes_none : (plan : FixPlan) (stripe i : ℕ) (window : WindowValue) (old new : StripeRoom) → IsStripeRoomFor plan.table new → KeepsRead old new → new.first.is_made ≡ false
    → ((j : ℕ) → j < 6 → get_or new.first.digests j None ≡ None) → MakesFirst plan stripe i window old new
makes_none plan stripe i window old new room kept not_made none = record {
  room = room;
  kept = kept;
  first = record {
    made = λ is. absurd (false≢true (sym not_made ∙ is));
    digests = λ j digest below is. let never : None ≡ Some digest = sym (none j below) ∙ is in absurd cc;
  };
}

-- of the blocks that are missing, and of the buffers as they were lent
pub first_as : (plan : FixPlan) (stripe i : ℕ) (window : WindowValue) (own : StripeRoom) (wanteds : List Wanted) (remainders work : List ℕ) → wanteds ≡ wanted_marked plan stripe own.marks.items
    → remainders ≡ own.remainders.items → work ≡ own.blocks.items → HasFirstIn plan stripe i window own
    → HasFirst plan.table.shape wanteds (row_at window i) (levels_read true own.levels) own.first remainders work
first_as plan stripe i window own wanteds remainders work wanteds_are left_is work_is has =
    subst (λ (ws : List Wanted). HasFirst plan.table.shape ws (row_at window i) (levels_read true own.levels) own.first remainders work) (sym wanteds_are)
    (subst (λ (left : List ℕ). HasFirst plan.table.shape (wanted_marked plan stripe own.marks.items) (row_at window i) (levels_read true own.levels) own.first left work) (sym left_is)
    (subst (λ (bytes : List ℕ). HasFirst plan.table.shape (wanted_marked plan stripe own.marks.items) (row_at window i) (levels_read true own.levels) own.first own.remainders.items bytes) (sym work_is) has))

-- ---- of rooms

pub rooms_same : (shape : Shape) (rooms : List StripeRoom) → HashesRooms shape rooms rooms
rooms_same shape rooms = record { as_many = refl; each = λ k other below. hashes_same shape (get_or rooms k other) }

pub rooms_then : (shape : Shape) (before mid after : List StripeRoom) → HashesRooms shape before mid → HashesRooms shape mid after → HashesRooms shape before after
rooms_then shape before mid after one two = record {
  as_many = two.as_many ∙ one.as_many;
  each = λ k other below.
      hashes_then shape (get_or before k other) (get_or mid k other) (get_or after k other) (one.each k other below) (two.each k other (omega (arith, below, one.as_many)));
}

pub rooms_blocks : (shape : Shape) (before after : List StripeRoom) → HashesRooms shape before after → HaveSixBlocks shape.block_size before → HaveSixBlocks shape.block_size after
rooms_blocks shape before after some have k other below =
    let within : k < length before = omega (arith, below, some.as_many) in
    ap (λ it. length it.items) (some.each k other within).blocks ∙ have k other within

-- one of them has a digest more
pub rooms_more : (shape : Shape) (before now : List StripeRoom) (n j : ℕ) (none new : StripeRoom) (digest : Digest16) → shape.kind ≡ Md5 → n < length before
    → digest.0 ≡ hash Md5 shape.seed (block_in shape.block_size (get_or before n none).blocks.items j)
    → (let own = get_or now n none in let it : StripeRoom = record own { first = record own.first { digests = set own.first.digests j (Some digest) } } in new ≡ it)
    → HashesRooms shape before now → HashesRooms shape before (set now n new)
rooms_more shape before now n j none new digest kind within hash_is new_is so_far =
    let own = get_or now n none in
    let there : n < length now = omega (arith, within, so_far.as_many) in
    let mine : HashesRoom shape (get_or before n none) own = so_far.each n none within in
    let its : digest.0 ≡ hash shape.kind shape.seed (block_in shape.block_size own.blocks.items j) =
    hash_is ∙ ap (λ k. hash k shape.seed (block_in shape.block_size (get_or before n none).blocks.items j)) (sym kind)
    ∙ ap (λ blocks. hash shape.kind shape.seed (block_in shape.block_size blocks.items j)) (sym mine.blocks) in
    let one : HashesRoom shape (get_or before n none) new = hashes_then shape (get_or before n none) own new mine (hashes_one shape own new j digest its new_is) in
    record {
      as_many = length-set now n new ∙ so_far.as_many;
      each = λ k other below. elim (eqb_tells k n) [
        | inl same ↦
            subst (λ (m : ℕ). HashesRoom shape (get_or before m other) (get_or (set now n new) m other)) (sym same.1)
            (subst (HashesRoom shape (get_or before n other)) (sym (get_or-set_same now n new other there))
            (subst (λ (it : StripeRoom). HashesRoom shape it new) (get_or_default before n none other within) one))
        | inr apart ↦ subst (HashesRoom shape (get_or before k other)) (sym (get_or-set_other now n k new other apart.1)) (so_far.each k other below)
      ];
    }

-- ---- eight of their blocks

zip_get : {A B : Type 0} (R : A → B → Type 0) (xs : List A) (ys : List B) (i : ℕ) (none : A) (other : B) → AllZip R xs ys → i < length xs → R (get_or xs i none) (get_or ys i other)
zip_get R [] ys i none other each below = absurd (omega (arith, below))
zip_get R (x ∷ xs) [] i none other each below = absurd each
zip_get R (x ∷ xs) (y ∷ ys) zero none other each below = each.0
zip_get R (x ∷ xs) (y ∷ ys) (suc i) none other each below = zip_get R xs ys i none other each.1 (omega (arith, below))

some_of : {A : Type 0} (xs : List A) → 0 < length xs → A
some_of [] some = absurd (omega (arith, some))
some_of (x ∷ xs) some = x

-- what holds of an item, by its pair, holds without naming what stands for none
pub zip_at : {A B : Type 0} (R : A → B → Type 0) (xs : List A) (ys : List B) (i : ℕ) (other : B) (P : B → Type 0) → AllZip R xs ys → i < length xs
    → ((none : A) → R (get_or xs i none) (get_or ys i other) → P (get_or ys i other)) → P (get_or ys i other)
zip_at R xs ys i other P each below holds =
    let none = some_of xs (omega (arith, below)) in
    holds none (zip_get R xs ys i none other each below)
