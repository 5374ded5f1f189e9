-- What a call on one part does to the bytes of its level.
use Rattle.std.proofs.Common.{◌≡◌, ⊎_elim, ℕ, ◌+◌, ◌*◌, ◌<◌, ◌≤◌, max, List, [], ◌∷◌, ◌++◌, length, take, drop, set, sym, ◌∙◌, ap, subst, arith, length-drop, length-append}
use Rattle.std.proofs.lemmas.List.{length-take, nil_from_length, set-get_or, drop_more, drop_all}
use Rattle.std.proofs.lemmas.Bool.{cases_lt, cases_eq}
use Rattle.disk_model.specs.Bytes.{Torn, Stretched}
use Rattle.parity_split.specs.Joined.{joined, part_of}
use Rattle.parity_split.specs.Parts.{IsEnd, IsNear, IsReady}
use Rattle.parity_split.specs.Values.{IsResized, IsPut}
use Rattle.parity_split.proofs.ValueLemmas.{resized_take, resized_behind, put_take, put_behind, put_before}
use Rattle.parity_split.proofs.PieceLemmas.{torn_take, torn_behind, torn_before, stretched_take, stretched_behind, stretched_to_front, growth_take}
use Rattle.parity_split.proofs.JoinedLemmas.{capped, front, length-front, joined_at, joined_set, joined_capped, joined_hidden, joined_full, joined_open, behind}

module _ (K : ℕ) (some : 0 < K) where
  capped_torn : (o l : ℕ) (rest : List (List ℕ)) (x y : List ℕ) → (0 < length rest → o + l ≤ K) → Torn o l x y → Torn o l (capped K rest x) (capped K rest y)
  capped_torn o l [] x y room torn = torn
  capped_torn o l (next ∷ rest) x y room torn = torn_take K o l x y (room (omega arith)) torn

  capped_stretched : (len : ℕ) (rest : List (List ℕ)) (x y : List ℕ) → (0 < length rest → len ≤ K) → Stretched len x y → Stretched len (capped K rest x) (capped K rest y)
  capped_stretched len [] x y room stretched = stretched
  capped_stretched len (next ∷ rest) x y room stretched = stretched_take K len x y (room (omega arith)) stretched

  capped_growth : (rest : List (List ℕ)) (x y : List ℕ) → 0 < length rest → Stretched K x y → Torn K 0 (capped K rest x) (capped K rest y)
  capped_growth [] x y more stretched = absurd (omega arith)
  capped_growth (next ∷ rest) x y more stretched = growth_take K x y stretched

  more_behind : (i : ℕ) (parts : List (List ℕ)) → 0 < length (drop (i + 1) parts) → i + 1 < length parts
  more_behind i parts more = let a = length-drop (i + 1) parts in omega arith

  -- a part that is ready, and what the level holds before and after its change
  ready_was : (i len : ℕ) (reads parts : List (List ℕ)) → IsReady K i len reads parts → joined K parts ≡ front K i parts ++ capped K (drop (i + 1) parts) (part_of parts i)
  ready_was i len reads parts ready =
      joined_at K i parts (omega (arith, ready.within, ready.same_count)) ready.full
      ∙ ap (λ more. front K i parts ++ more) (joined_capped K (part_of parts i) (drop (i + 1) parts) some
      (λ long more. let m = more_behind i parts more in ap length (behind K i parts m).1 ∙ ready.next (omega (arith, ready.same_count)) (omega arith)))

  ready_is : (i len : ℕ) (reads parts : List (List ℕ)) (part : List ℕ) → IsReady K i len reads parts → length part ≤ max (length (part_of parts i)) len → joined K (set parts i part) ≡ front K i parts ++ capped K (drop (i + 1) parts) part
  ready_is i len reads parts part ready room =
      joined_set K i parts part (omega (arith, ready.within, ready.same_count)) ready.full
      ∙ ap (λ more. front K i parts ++ more) (joined_capped K part (drop (i + 1) parts) some
      (λ long more. let m = more_behind i parts more in ap length (behind K i parts m).1 ∙ ready.next (omega (arith, ready.same_count)) (omega arith)))

  front_length : (i len : ℕ) (reads parts : List (List ℕ)) → IsReady K i len reads parts → length (front K i parts) ≡ i * K
  front_length i len reads parts ready = length-front K i parts (omega (arith, ready.within, ready.same_count)) ready.full

  both_sides : (P : List ℕ → List ℕ → Type 0) (a b x y : List ℕ) → a ≡ x → b ≡ y → P x y → P a b
  both_sides P a b x y one two p = subst (λ u. P u b) (sym one) (subst (λ v. P x v) (sym two) p)

  -- a write to a part that is ready for its end
  pub ready_torn : (i o l len : ℕ) (reads parts : List (List ℕ)) (part : List ℕ) → o + l ≡ len → (i + 1 < length reads → len ≤ K) → IsReady K i len reads parts → Torn o l (part_of parts i) part → Torn (i * K + o) l (joined K parts) (joined K (set parts i part))
  ready_torn i o l len reads parts part whole room ready torn =
      both_sides (Torn (i * K + o) l) (joined K parts) (joined K (set parts i part)) (front K i parts ++ capped K (drop (i + 1) parts) (part_of parts i)) (front K i parts ++ capped K (drop (i + 1) parts) part)
      (ready_was i len reads parts ready) (ready_is i len reads parts part ready (omega (arith, torn.no_longer)))
      (torn_behind (i * K) o l (front K i parts) (capped K (drop (i + 1) parts) (part_of parts i)) (capped K (drop (i + 1) parts) part) (front_length i len reads parts ready)
      (capped_torn o l (drop (i + 1) parts) (part_of parts i) part (λ more. let m = more_behind i parts more in let r = room (omega (arith, ready.same_count)) in omega arith) torn))

  -- its length changed to that of the level
  pub ready_stretched : (i len : ℕ) (reads parts : List (List ℕ)) (part : List ℕ) → (i + 1 < length reads → len ≤ K) → IsReady K i len reads parts → Stretched len (part_of parts i) part → Stretched (i * K + len) (joined K parts) (joined K (set parts i part))
  ready_stretched i len reads parts part room ready stretched =
      both_sides (Stretched (i * K + len)) (joined K parts) (joined K (set parts i part)) (front K i parts ++ capped K (drop (i + 1) parts) (part_of parts i)) (front K i parts ++ capped K (drop (i + 1) parts) part)
      (ready_was i len reads parts ready) (ready_is i len reads parts part ready (omega (arith, stretched.no_longer)))
      (stretched_behind (i * K) len (front K i parts) (capped K (drop (i + 1) parts) (part_of parts i)) (capped K (drop (i + 1) parts) part) (front_length i len reads parts ready)
      (capped_stretched len (drop (i + 1) parts) (part_of parts i) part (λ more. let m = more_behind i parts more in room (omega (arith, ready.same_count))) stretched))

  -- it was emptied, where the level ends before it
  pub ready_emptied : (i len : ℕ) (reads parts : List (List ℕ)) (part : List ℕ) → len ≤ i * K → IsReady K i 0 reads parts → Stretched 0 (part_of parts i) part → Stretched len (joined K parts) (joined K (set parts i part))
  ready_emptied i len reads parts part low ready stretched =
      both_sides (Stretched len) (joined K parts) (joined K (set parts i part)) (front K i parts ++ capped K (drop (i + 1) parts) (part_of parts i)) (front K i parts ++ capped K (drop (i + 1) parts) part)
      (ready_was i 0 reads parts ready) (ready_is i 0 reads parts part ready (omega (arith, stretched.no_longer)))
      (stretched_to_front (i * K) len (front K i parts) (capped K (drop (i + 1) parts) (part_of parts i)) (capped K (drop (i + 1) parts) part) (front_length i 0 reads parts ready) low
      (capped_stretched 0 (drop (i + 1) parts) (part_of parts i) part (λ more. omega arith) stretched))

  -- it was filled: bytes were only added
  pub ready_filled : (i : ℕ) (reads parts : List (List ℕ)) (part : List ℕ) → i + 1 < length reads → IsReady K i K reads parts → Stretched K (part_of parts i) part → Torn (i * K + K) 0 (joined K parts) (joined K (set parts i part))
  ready_filled i reads parts part more ready stretched =
      both_sides (Torn (i * K + K) 0) (joined K parts) (joined K (set parts i part)) (front K i parts ++ capped K (drop (i + 1) parts) (part_of parts i)) (front K i parts ++ capped K (drop (i + 1) parts) part)
      (ready_was i K reads parts ready) (ready_is i K reads parts part ready (omega (arith, stretched.no_longer)))
      (torn_behind (i * K) K 0 (front K i parts) (capped K (drop (i + 1) parts) (part_of parts i)) (capped K (drop (i + 1) parts) part) (front_length i K reads parts ready)
      (capped_growth (drop (i + 1) parts) (part_of parts i) part (let a = length-drop (i + 1) parts in omega (arith, ready.same_count)) stretched))

  -- a part behind the end was emptied
  pub hidden_same : (i j : ℕ) (reads parts : List (List ℕ)) (part : List ℕ) → i < j → j < length reads → IsNear K i reads parts → Stretched 0 (part_of parts j) part → joined K (set parts j part) ≡ joined K parts
  hidden_same i j reads parts part behind_ within near cut = ⊎_elim
      (λ open_. joined_hidden K i j parts part behind_ open_)
      (λ full.
      let none = near.next (omega arith) (omega arith) in
      ⊎_elim
      (λ e.
      let was : length (part_of parts j) ≡ 0 = subst (λ k. length (part_of parts k) ≡ 0) e none in
      let now : length part ≡ 0 = omega (arith, cut.no_longer) in
      ap (λ p. joined K (set parts j p)) (nil_from_length part now ∙ sym (nil_from_length (part_of parts j) was)) ∙ ap (joined K) (set-get_or parts j []))
      (λ ne. joined_hidden K (i + 1) j parts part (omega arith) (omega arith))
      (cases_eq (i + 1) j))
      (cases_lt (length (part_of parts i)) K)

  -- a part before the end was written
  pub before_torn : (i j o l : ℕ) (reads parts : List (List ℕ)) (part : List ℕ) → j < i → o + l ≤ K → IsNear K i reads parts → Torn o l (part_of parts j) part → Torn (j * K + o) l (joined K parts) (joined K (set parts j part))
  before_torn i j o l reads parts part before room near torn =
      let w : j + 1 < length parts = omega (arith, near.within, near.same_count) in
      let wj : j < length parts = omega arith in
      let full : (k : ℕ) → k < j → K ≤ length (part_of parts k) = (λ k below. near.full k (omega arith)) in
      let tail = drop (j + 1) parts in
      let split = drop_more parts (j + 1) [] w in
      let long = length-front K j parts (omega arith) full in
      ⊎_elim
      (λ short.
      let none : length (part_of tail 0) ≡ 0 = ap length (behind K j parts w).1 ∙ ⊎_elim (λ e. subst (λ k. length (part_of parts k) ≡ 0) (sym e) (near.gap j e short)) (λ ne. absurd (omega (arith, near.full j (omega arith)))) (cases_eq (j + 1) i) in
      both_sides (Torn (j * K + o) l) (joined K parts) (joined K (set parts j part)) (front K j parts ++ capped K tail (part_of parts j)) (front K j parts ++ capped K tail part)
      (joined_at K j parts wj full ∙ ap (λ more. front K j parts ++ more) (joined_capped K (part_of parts j) tail some (λ a b. none)))
      (joined_set K j parts part wj full ∙ ap (λ more. front K j parts ++ more) (joined_capped K part tail some (λ a b. none)))
      (torn_behind (j * K) o l (front K j parts) (capped K tail (part_of parts j)) (capped K tail part) long (capped_torn o l tail (part_of parts j) part (λ a. room) torn)))
      (λ here.
      let rest = drop (j + 1 + 1) parts in
      let next = part_of parts (j + 1) in
      let now : K ≤ length part = omega (arith, torn.no_shorter) in
      let a = length-take K (part_of parts j) in
      let b = length-take K part in
      both_sides (Torn (j * K + o) l) (joined K parts) (joined K (set parts j part)) (front K j parts ++ (take K (part_of parts j) ++ joined K (next ∷ rest))) (front K j parts ++ (take K part ++ joined K (next ∷ rest)))
      (joined_at K j parts wj full ∙ ap (λ more. front K j parts ++ joined K (part_of parts j ∷ more)) split ∙ ap (λ more. front K j parts ++ more) (joined_full K (part_of parts j) next rest here))
      (joined_set K j parts part wj full ∙ ap (λ more. front K j parts ++ joined K (part ∷ more)) split ∙ ap (λ more. front K j parts ++ more) (joined_full K part next rest now))
      (torn_behind (j * K) o l (front K j parts) (take K (part_of parts j) ++ joined K (next ∷ rest)) (take K part ++ joined K (next ∷ rest)) long
      (torn_before o l (take K (part_of parts j)) (take K part) (joined K (next ∷ rest)) (omega arith) (torn_take K o l (part_of parts j) part room torn))))
      (cases_lt (length (part_of parts j)) K)

  capped_resized : (len : ℕ) (rest : List (List ℕ)) (x y : List ℕ) → (0 < length rest → len ≤ K) → IsResized len x y → IsResized len (capped K rest x) (capped K rest y)
  capped_resized len [] x y room is = is
  capped_resized len (next ∷ rest) x y room is = resized_take K len x y (room (omega arith)) is

  capped_put : (o : ℕ) (bytes : List ℕ) (rest : List (List ℕ)) (x y : List ℕ) → (0 < length rest → o + length bytes ≤ K) → IsPut o bytes x y → IsPut o bytes (capped K rest x) (capped K rest y)
  capped_put o bytes [] x y room is = is
  capped_put o bytes (next ∷ rest) x y room is = put_take K o bytes x y (room (omega arith)) is

  capped_room : (rest : List (List ℕ)) (x : List ℕ) → 0 < length rest → length (capped K rest x) ≤ K
  capped_room [] x more = absurd (omega arith)
  capped_room (next ∷ rest) x more = (let a = length-take K x in omega arith)

  pub ready_resized : (i len : ℕ) (reads parts : List (List ℕ)) (part : List ℕ) → (i + 1 < length reads → len ≤ K) → IsReady K i len reads parts → IsResized len (part_of parts i) part → IsResized (i * K + len) (joined K parts) (joined K (set parts i part))
  ready_resized i len reads parts part room ready is =
      both_sides (IsResized (i * K + len)) (joined K parts) (joined K (set parts i part)) (front K i parts ++ capped K (drop (i + 1) parts) (part_of parts i)) (front K i parts ++ capped K (drop (i + 1) parts) part)
      (ready_was i len reads parts ready) (ready_is i len reads parts part ready (omega (arith, is.long)))
      (resized_behind (i * K) len (front K i parts) (capped K (drop (i + 1) parts) (part_of parts i)) (capped K (drop (i + 1) parts) part) (front_length i len reads parts ready)
      (capped_resized len (drop (i + 1) parts) (part_of parts i) part (λ more. let m = more_behind i parts more in room (omega (arith, ready.same_count))) is))

  pub ready_put : (i o len : ℕ) (bytes : List ℕ) (reads parts : List (List ℕ)) (part : List ℕ) → o + length bytes ≡ len → (i + 1 < length reads → len ≤ K) → IsReady K i len reads parts → IsPut o bytes (part_of parts i) part → IsPut (i * K + o) bytes (joined K parts) (joined K (set parts i part))
  ready_put i o len bytes reads parts part whole room ready is =
      both_sides (IsPut (i * K + o) bytes) (joined K parts) (joined K (set parts i part)) (front K i parts ++ capped K (drop (i + 1) parts) (part_of parts i)) (front K i parts ++ capped K (drop (i + 1) parts) part)
      (ready_was i len reads parts ready) (ready_is i len reads parts part ready (omega (arith, is.long)))
      (put_behind (i * K) o bytes (front K i parts) (capped K (drop (i + 1) parts) (part_of parts i)) (capped K (drop (i + 1) parts) part) (front_length i len reads parts ready)
      (capped_put o bytes (drop (i + 1) parts) (part_of parts i) part (λ more. let m = more_behind i parts more in let r = room (omega (arith, ready.same_count)) in omega arith) is))

  -- a level that goes on behind a part holds no more before that
  pub ready_room : (i len : ℕ) (reads parts : List (List ℕ)) → i + 1 < length reads → IsReady K i len reads parts → length (joined K parts) ≤ i * K + K
  ready_room i len reads parts more ready =
      let a = length-append (front K i parts) (capped K (drop (i + 1) parts) (part_of parts i)) in
      let b = front_length i len reads parts ready in
      let c = capped_room (drop (i + 1) parts) (part_of parts i) (let d = length-drop (i + 1) parts in omega (arith, ready.same_count)) in
      subst (λ x. length x ≤ i * K + K) (sym (ready_was i len reads parts ready)) (omega arith)

  -- a part that is read before the end was written
  pub before_put : (i j o : ℕ) (bytes : List ℕ) (reads : List (List ℕ)) (part : List ℕ) → j < i → o + length bytes ≤ K → IsNear K i reads reads → IsPut o bytes (part_of reads j) part → IsPut (j * K + o) bytes (joined K reads) (joined K (set reads j part))
  before_put i j o bytes reads part before room near is =
      let w : j + 1 < length reads = omega (arith, near.within) in
      let wj : j < length reads = omega arith in
      let full : (k : ℕ) → k < j → K ≤ length (part_of reads k) = (λ k below. near.read k (omega arith)) in
      let split = drop_more reads (j + 1) [] w in
      let long = length-front K j reads (omega arith) full in
      let rest = drop (j + 1 + 1) reads in
      let next = part_of reads (j + 1) in
      let here = near.read j before in
      let now : K ≤ length part = omega (arith, is.long) in
      let a = length-take K (part_of reads j) in
      both_sides (IsPut (j * K + o) bytes) (joined K reads) (joined K (set reads j part)) (front K j reads ++ (take K (part_of reads j) ++ joined K (next ∷ rest))) (front K j reads ++ (take K part ++ joined K (next ∷ rest)))
      (joined_at K j reads wj full ∙ ap (λ more. front K j reads ++ joined K (part_of reads j ∷ more)) split ∙ ap (λ more. front K j reads ++ more) (joined_full K (part_of reads j) next rest here))
      (joined_set K j reads part wj full ∙ ap (λ more. front K j reads ++ joined K (part ∷ more)) split ∙ ap (λ more. front K j reads ++ more) (joined_full K part next rest now))
      (put_behind (j * K) o bytes (front K j reads) (take K (part_of reads j) ++ joined K (next ∷ rest)) (take K part ++ joined K (next ∷ rest)) long
      (put_before o bytes (take K (part_of reads j)) (take K part) (joined K (next ∷ rest)) (omega arith) (put_take K o bytes (part_of reads j) part room is)))

  -- the level that ends in a part
  pub end_joined : (i : ℕ) (reads : List (List ℕ)) → IsEnd K i reads → joined K reads ≡ front K i reads ++ part_of reads i
  end_joined i reads end =
      joined_at K i reads end.within end.full ∙ ap (λ more. front K i reads ++ more)
      (⊎_elim
      (λ more. joined_open K (part_of reads i) (drop (i + 1) reads) (end.ends more))
      (λ last. ap (λ rest. joined K (part_of reads i ∷ rest)) (drop_all (i + 1) reads last))
      (cases_lt (i + 1) (length reads)))

  pub end_length : (i : ℕ) (reads : List (List ℕ)) → IsEnd K i reads → length (joined K reads) ≡ i * K + length (part_of reads i)
  end_length i reads end =
      let a = length-append (front K i reads) (part_of reads i) in
      let b = length-front K i reads (omega (arith, end.within)) end.full in
      subst (λ x. length x ≡ i * K + length (part_of reads i)) (sym (end_joined i reads end)) (omega arith)
