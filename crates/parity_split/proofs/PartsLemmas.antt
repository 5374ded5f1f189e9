-- How the parts of a level keep in step over calls.
use Rattle.std.proofs.Common.{◌≡◌, ◌⊎◌, ⊎_elim, ℕ, ◌+◌, ◌<◌, ◌≤◌, max, List, [], length, set, sym, ap, subst, arith}
use Rattle.std.proofs.lemmas.List.{length-set, get_or-set_same, get_or-set_other}
use Rattle.std.proofs.lemmas.Bool.{cases_lt, cases_eq}
use Rattle.disk_model.specs.Bytes.{Stretched}
use Rattle.parity_split.specs.Joined.{part_of}
use Rattle.parity_split.specs.Parts.{IsEnd, IsNear, InStep, IsReady}

-- the length of a part, after another was changed or this one
pub other_part : (parts : List (List ℕ)) (j i : ℕ) (part : List ℕ) → (i ≡ j → ⊥) → length (part_of (set parts j part) i) ≡ length (part_of parts i)
other_part parts j i part ne = ap length (get_or-set_other parts j i part [] ne)

pub this_part : (parts : List (List ℕ)) (i : ℕ) (part : List ℕ) → i < length parts → length (part_of (set parts i part) i) ≡ length part
this_part parts i part within = ap length (get_or-set_same parts i part [] within)

-- a part that is no shorter than it was
no_shorter : (parts : List (List ℕ)) (i j : ℕ) (part : List ℕ) (n : ℕ) → j < length parts → length (part_of parts j) ≤ length part → n ≤ length (part_of parts i) → n ≤ length (part_of (set parts j part) i)
no_shorter parts i j part n within grown long = ⊎_elim
    (λ e. subst (λ k. n ≤ length (part_of (set parts j part) k)) (sym e) (let l : n ≤ length (part_of parts j) = subst (λ k. n ≤ length (part_of parts k)) e long in omega (arith, this_part parts j part within)))
    (λ ne. omega (arith, other_part parts j i part ne))
    (cases_eq i j)

module _ (K : ℕ) (some : 0 < K) where
  pub one_end : (i j : ℕ) (parts : List (List ℕ)) → IsEnd K i parts → IsEnd K j parts → i ≡ j
  one_end i j parts one two = ⊎_elim
      (λ below. let full = two.full i below in let ends = one.ends (omega (arith, two.within)) in absurd (omega arith))
      (λ above. ⊎_elim
      (λ below. let full = one.full j below in let ends = two.ends (omega (arith, one.within)) in absurd (omega arith))
      (λ up. omega arith)
      (cases_lt j i))
      (cases_lt i j)

  pub in_step_at : (i : ℕ) (reads parts : List (List ℕ)) → IsEnd K i reads → IsNear K i reads parts → InStep K reads parts
  in_step_at i reads parts end near j other = subst (λ k. IsNear K k reads parts) (one_end i j reads end other) near

  -- behind a part that is full and has nothing behind it stands the end
  end_behind : (i : ℕ) (reads : List (List ℕ)) → i + 1 < length reads → ((j : ℕ) → j < i → K ≤ length (part_of reads j)) → K ≤ length (part_of reads i) → length (part_of reads (i + 1)) ≡ 0 → IsEnd K (i + 1) reads
  end_behind i reads more full here none = record {
    within = more;
    full = λ j below. ⊎_elim (λ e. subst (λ k. K ≤ length (part_of reads k)) (sym e) here) (λ ne. full j (omega arith)) (cases_eq j i);
    ends = λ last. omega arith;
  }

  near_behind : (i : ℕ) (reads parts : List (List ℕ)) → IsEnd K (i + 1) reads → length parts ≡ length reads → ((j : ℕ) → j < i → K ≤ length (part_of parts j)) → length (part_of reads (i + 1)) ≡ 0 → length (part_of parts (i + 1)) ≡ 0 → IsNear K (i + 1) reads parts
  near_behind i reads parts end same_count full none none_left = record {
    within = end.within;
    same_count = same_count;
    read = end.full;
    full = λ j below. full j (omega arith);
    solid = λ j e there. absurd (omega arith);
    gap = λ j e open_. none_left;
    next = λ more long. absurd (omega arith);
  }

  -- after a change of a part that was ready for it
  pub in_step_after : (i len : ℕ) (reads parts : List (List ℕ)) (read part : List ℕ) → IsReady K i len reads reads → IsReady K i len reads parts
      → length read ≤ max (length (part_of reads i)) len → length part ≤ max (length (part_of parts i)) len → InStep K (set reads i read) (set parts i part)
  in_step_after i len reads parts read part own ready read_long part_long =
      let here = this_part reads i read ready.within in
      let here_left = this_part parts i part (omega (arith, ready.within, ready.same_count)) in
      let count = length-set reads i read in
      let count_left = length-set parts i part in
      let full : (j : ℕ) → j < i → K ≤ length (part_of (set reads i read) j) = (λ j below. let ne : j ≡ i → ⊥ = (λ e. omega arith) in omega (arith, other_part reads i j read ne, own.full j below)) in
      let full_left : (j : ℕ) → j < i → K ≤ length (part_of (set parts i part) j) = (λ j below. let ne : j ≡ i → ⊥ = (λ e. omega arith) in omega (arith, other_part parts i j part ne, ready.full j below)) in
      let ne : i + 1 ≡ i → ⊥ = (λ e. omega arith) in
      let beside = other_part reads i (i + 1) read ne in
      let beside_left = other_part parts i (i + 1) part ne in
      ⊎_elim
      (λ short.
      in_step_at i (set reads i read) (set parts i part)
      (record { within = omega (arith, ready.within); full = full; ends = λ more. omega arith })
      (record {
        within = omega (arith, ready.within);
        same_count = omega (arith, ready.same_count);
        read = full;
        full = λ j below. full_left j (omega arith);
        solid = λ j e there. full_left j (omega arith);
        gap = λ j e open_. let f = full_left j (omega arith) in absurd (omega arith);
        next = λ more long. let n = ready.next (omega arith) (omega arith) in omega arith;
      }))
      (λ long. ⊎_elim
      (λ more.
      let none = own.next more (omega arith) in
      let none_left = ready.next more (omega arith) in
      let end = end_behind i (set reads i read) (omega arith) full (omega arith) (omega arith) in
      in_step_at (i + 1) (set reads i read) (set parts i part) end (near_behind i (set reads i read) (set parts i part) end (omega (arith, ready.same_count)) full_left (omega arith) (omega arith)))
      (λ last.
      in_step_at i (set reads i read) (set parts i part)
      (record { within = omega (arith, ready.within); full = full; ends = λ more. absurd (omega arith) })
      (record {
        within = omega (arith, ready.within);
        same_count = omega (arith, ready.same_count);
        read = full;
        full = λ j below. full_left j (omega arith);
        solid = λ j e there. full_left j (omega arith);
        gap = λ j e open_. let f = full_left j (omega arith) in absurd (omega arith);
        next = λ more long. absurd (omega arith);
      }))
      (cases_lt (i + 1) (length reads)))
      (cases_lt (length read) K)

  pub in_step_near : (i : ℕ) (reads parts : List (List ℕ)) → IsNear K i reads reads → IsNear K i reads parts → InStep K reads parts
  in_step_near i reads parts own near = ⊎_elim
      (λ short. in_step_at i reads parts (record { within = near.within; full = near.read; ends = λ more. short }) near)
      (λ long. ⊎_elim
      (λ more.
      let none = own.next more (omega arith) in
      let none_left = near.next more (omega arith) in
      let end = end_behind i reads more near.read long none in
      in_step_at (i + 1) reads parts end (near_behind i reads parts end near.same_count (λ j below. ⊎_elim (λ e. near.solid j e (omega arith)) (λ ne. near.full j (omega arith)) (cases_eq (j + 1) i)) none none_left))
      (λ last. in_step_at i reads parts (record { within = near.within; full = near.read; ends = λ more. absurd (omega arith) }) near)
      (cases_lt (i + 1) (length reads)))
      (cases_lt (length (part_of reads i)) K)

  pub ready_from : (i len : ℕ) (reads parts : List (List ℕ)) → IsNear K i reads parts → ((j : ℕ) → j + 1 ≡ i → K ≤ length (part_of parts j)) → (i + 1 < length reads → K ≤ len → length (part_of parts (i + 1)) ≡ 0) → IsReady K i len reads parts
  ready_from i len reads parts near solid next = record {
    within = near.within;
    same_count = near.same_count;
    read = near.read;
    full = λ j below. ⊎_elim (λ e. solid j e) (λ ne. near.full j (omega arith)) (cases_eq (j + 1) i);
    next = λ more long. ⊎_elim (λ low. near.next more (omega arith)) (λ high. next more high) (cases_lt len K);
  }

  pub ready_less : (i len less : ℕ) (reads parts : List (List ℕ)) → (less ≤ len ⊎ less ≤ K × (K ≤ len)) → IsReady K i len reads parts → IsReady K i less reads parts
  ready_less i len less reads parts low ready = record {
    within = ready.within;
    same_count = ready.same_count;
    read = ready.read;
    full = ready.full;
    next = λ more long. ready.next more (⊎_elim (λ l. omega arith) (λ l. omega arith) low);
  }

  -- a part behind the end was emptied, or something of it was left
  pub near_hidden : (i j : ℕ) (reads parts : List (List ℕ)) (read part : List ℕ) → IsNear K i reads parts → i < j → Stretched 0 (part_of parts j) part → IsNear K i (set reads j read) (set parts j part)
  near_hidden i j reads parts read part near behind_ cut =
      let count = length-set reads j read in
      let count_left = length-set parts j part in
      let ne : i ≡ j → ⊥ = (λ e. omega arith) in
      let here = other_part reads j i read ne in
      let here_left = other_part parts j i part ne in
      record {
        within = omega (arith, near.within);
        same_count = omega (arith, near.same_count);
        read = λ k below. let nk : k ≡ j → ⊥ = (λ e. omega arith) in omega (arith, other_part reads j k read nk, near.read k below);
        full = λ k below. let nk : k ≡ j → ⊥ = (λ e. omega arith) in omega (arith, other_part parts j k part nk, near.full k below);
        solid = λ k e there. let nk : k ≡ j → ⊥ = (λ same. omega arith) in omega (arith, other_part parts j k part nk, near.solid k e (omega arith));
        gap = λ k e open_. let nk : k ≡ j → ⊥ = (λ same. omega arith) in omega (arith, near.gap k e (omega (arith, other_part parts j k part nk)));
        next = λ more long.
            let none = near.next (omega arith) (omega arith) in
            ⊎_elim
            (λ e. let w : j < length parts = omega (arith, near.same_count) in
            let here_now = this_part parts j part w in
            let was : length (part_of parts j) ≡ 0 = subst (λ k. length (part_of parts k) ≡ 0) e none in
            subst (λ k. length (part_of (set parts j part) k) ≡ 0) (sym e) (omega (arith, cut.no_longer)))
            (λ nk. omega (arith, other_part parts j (i + 1) part nk))
            (cases_eq (i + 1) j);
      }

  pub end_hidden : (i j : ℕ) (reads : List (List ℕ)) (read : List ℕ) → IsEnd K i reads → i < j → IsEnd K i (set reads j read)
  end_hidden i j reads read end behind_ =
      let count = length-set reads j read in
      let ne : i ≡ j → ⊥ = (λ e. omega arith) in
      record {
        within = omega (arith, end.within);
        full = λ k below. let nk : k ≡ j → ⊥ = (λ e. omega arith) in omega (arith, other_part reads j k read nk, end.full k below);
        ends = λ more. omega (arith, other_part reads j i read ne, end.ends (omega arith));
      }

  -- a part before the end was written
  pub near_before : (i j : ℕ) (reads parts : List (List ℕ)) (read part : List ℕ) → IsNear K i reads parts → j < i → length (part_of reads j) ≤ length read → length (part_of parts j) ≤ length part → IsNear K i (set reads j read) (set parts j part)
  near_before i j reads parts read part near before read_grown part_grown =
      let count = length-set reads j read in
      let count_left = length-set parts j part in
      let w : j < length reads = omega (arith, near.within) in
      let w_left : j < length parts = omega (arith, near.within, near.same_count) in
      let ne : i ≡ j → ⊥ = (λ e. omega arith) in
      let nn : i + 1 ≡ j → ⊥ = (λ e. omega arith) in
      let here = other_part reads j i read ne in
      let here_left = other_part parts j i part ne in
      record {
        within = omega (arith, near.within);
        same_count = omega (arith, near.same_count);
        read = λ k below. no_shorter reads k j read K w read_grown (near.read k below);
        full = λ k below. no_shorter parts k j part K w_left part_grown (near.full k below);
        solid = λ k e there. no_shorter parts k j part K w_left part_grown (near.solid k e (omega arith));
        gap = λ k e open_.
            let was : length (part_of parts k) < K = ⊎_elim (λ short. short) (λ long. absurd (omega (arith, no_shorter parts k j part K w_left part_grown long))) (cases_lt (length (part_of parts k)) K) in
            omega (arith, near.gap k e was);
        next = λ more long. omega (arith, other_part parts j (i + 1) part nn, near.next (omega arith) (omega arith));
      }

  pub end_before : (i j : ℕ) (reads : List (List ℕ)) (read : List ℕ) → IsEnd K i reads → j < i → length (part_of reads j) ≤ length read → IsEnd K i (set reads j read)
  end_before i j reads read end before grown =
      let count = length-set reads j read in
      let ne : i ≡ j → ⊥ = (λ e. omega arith) in
      record {
        within = omega (arith, end.within);
        full = λ k below. no_shorter reads k j read K (omega (arith, end.within)) grown (end.full k below);
        ends = λ more. omega (arith, other_part reads j i read ne, end.ends (omega arith));
      }

  -- a part was emptied, and the one before it comes next
  pub near_down : (i : ℕ) (reads parts : List (List ℕ)) → IsNear K (i + 1) reads parts → length (part_of parts (i + 1)) ≡ 0 → IsNear K i reads parts
  near_down i reads parts near none = record {
    within = omega (arith, near.within);
    same_count = near.same_count;
    read = λ j below. near.read j (omega arith);
    full = λ j below. near.full j (omega arith);
    solid = λ j e there. near.full j (omega arith);
    gap = λ j e open_. absurd (omega (arith, near.full j (omega arith)));
    next = λ more long. none;
  }

  -- a part was filled, and the one behind it comes next
  pub near_up : (i : ℕ) (reads parts : List (List ℕ)) (read part : List ℕ) → IsReady K i K reads reads → IsReady K i K reads parts → i + 1 < length reads → K ≤ length read → IsNear K (i + 1) (set reads i read) (set parts i part)
  near_up i reads parts read part own ready more filled =
      let count = length-set reads i read in
      let count_left = length-set parts i part in
      let here = this_part reads i read ready.within in
      let ne : i + 1 ≡ i → ⊥ = (λ e. omega arith) in
      let beside = other_part reads i (i + 1) read ne in
      let beside_left = other_part parts i (i + 1) part ne in
      let none = own.next more (omega arith) in
      let none_left = ready.next more (omega arith) in
      let full : (j : ℕ) → j < i → K ≤ length (part_of (set reads i read) j) = (λ j below. let ni : j ≡ i → ⊥ = (λ e. omega arith) in omega (arith, other_part reads i j read ni, own.full j below)) in
      let full_left : (j : ℕ) → j < i → K ≤ length (part_of (set parts i part) j) = (λ j below. let ni : j ≡ i → ⊥ = (λ e. omega arith) in omega (arith, other_part parts i j part ni, ready.full j below)) in
      near_behind i (set reads i read) (set parts i part)
      (end_behind i (set reads i read) (omega arith) full (omega arith) (omega arith))
      (omega (arith, ready.same_count)) full_left (omega arith) (omega arith)

  pub near_of_ready : (i len : ℕ) (reads parts : List (List ℕ)) → IsReady K i len reads parts → IsNear K i reads parts
  near_of_ready i len reads parts ready = record {
    within = ready.within;
    same_count = ready.same_count;
    read = ready.read;
    full = λ j below. ready.full j (omega arith);
    solid = λ j e there. ready.full j (omega arith);
    gap = λ j e open_. absurd (omega (arith, ready.full j (omega arith)));
    next = λ more long. ready.next more (omega arith);
  }

  pub in_step_ready : (i len : ℕ) (reads parts : List (List ℕ)) → IsReady K i len reads reads → IsReady K i len reads parts → InStep K reads parts
  in_step_ready i len reads parts own ready = in_step_near i reads parts (near_of_ready i len reads reads own) (near_of_ready i len reads parts ready)

  pub ready_hidden : (i j len : ℕ) (reads parts : List (List ℕ)) (read part : List ℕ) → IsReady K i len reads parts → i < j → Stretched 0 (part_of parts j) part → IsReady K i len (set reads j read) (set parts j part)
  ready_hidden i j len reads parts read part ready behind_ cut =
      let count = length-set reads j read in
      let count_left = length-set parts j part in
      let ne : i ≡ j → ⊥ = (λ e. omega arith) in
      let here = other_part reads j i read ne in
      let here_left = other_part parts j i part ne in
      record {
        within = omega (arith, ready.within);
        same_count = omega (arith, ready.same_count);
        read = λ k below. let nk : k ≡ j → ⊥ = (λ e. omega arith) in omega (arith, other_part reads j k read nk, ready.read k below);
        full = λ k below. let nk : k ≡ j → ⊥ = (λ e. omega arith) in omega (arith, other_part parts j k part nk, ready.full k below);
        next = λ more long.
            let none = ready.next (omega arith) (omega arith) in
            ⊎_elim
            (λ e. let w : j < length parts = omega (arith, ready.same_count) in
            let here_now = this_part parts j part w in
            let was : length (part_of parts j) ≡ 0 = subst (λ k. length (part_of parts k) ≡ 0) e none in
            subst (λ k. length (part_of (set parts j part) k) ≡ 0) (sym e) (omega (arith, cut.no_longer)))
            (λ nk. omega (arith, other_part parts j (i + 1) part nk))
            (cases_eq (i + 1) j);
      }

  pub ready_before : (i j len : ℕ) (reads parts : List (List ℕ)) (read part : List ℕ) → IsReady K i len reads parts → j < i → length (part_of reads j) ≤ length read → length (part_of parts j) ≤ length part → IsReady K i len (set reads j read) (set parts j part)
  ready_before i j len reads parts read part ready before read_grown part_grown =
      let count = length-set reads j read in
      let count_left = length-set parts j part in
      let w : j < length reads = omega (arith, ready.within) in
      let w_left : j < length parts = omega (arith, ready.within, ready.same_count) in
      let ne : i ≡ j → ⊥ = (λ e. omega arith) in
      let nn : i + 1 ≡ j → ⊥ = (λ e. omega arith) in
      let here = other_part reads j i read ne in
      let here_left = other_part parts j i part ne in
      record {
        within = omega (arith, ready.within);
        same_count = omega (arith, ready.same_count);
        read = λ k below. no_shorter reads k j read K w read_grown (ready.read k below);
        full = λ k below. no_shorter parts k j part K w_left part_grown (ready.full k below);
        next = λ more long. omega (arith, other_part parts j (i + 1) part nn, ready.next (omega arith) (omega arith));
      }

  -- for a length below the capacity, or where nothing stands behind it
  pub ready_more : (i len : ℕ) (reads parts : List (List ℕ)) → IsReady K i 0 reads parts → (i + 1 < length reads → (len < K) ⊎ (length (part_of parts (i + 1)) ≡ 0)) → IsReady K i len reads parts
  ready_more i len reads parts ready enough = record {
    within = ready.within;
    same_count = ready.same_count;
    read = ready.read;
    full = ready.full;
    next = λ more long. ⊎_elim (λ low. ready.next more (omega arith)) (λ none. none) (enough more);
  }

  -- a part was emptied, and the level still ends in it
  pub near_emptied : (i : ℕ) (reads parts : List (List ℕ)) (read part : List ℕ) → IsReady K i 0 reads reads → IsReady K i 0 reads parts → length read ≡ 0 → Stretched 0 (part_of parts i) part → IsNear K i (set reads i read) (set parts i part)
  near_emptied i reads parts read part own ready none cut =
      let count = length-set reads i read in
      let here = this_part reads i read ready.within in
      in_step_after i 0 reads parts read part own ready (omega arith) (omega (arith, cut.no_longer)) i (record {
        within = omega (arith, ready.within);
        full = λ j below. let nj : j ≡ i → ⊥ = (λ e. omega arith) in omega (arith, other_part reads i j read nj, own.full j below);
        ends = λ more. omega arith;
      })
