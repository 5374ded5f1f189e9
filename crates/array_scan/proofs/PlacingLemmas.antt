-- Positions that are held, taken and touched, one after another.
use Rattle.std.proofs.Common.{◌≡◌, ◌≢◌, ℕ, zero, suc, ◌+◌, ◌<◌, ◌≤◌, ◌||◌, List, [], ◌∷◌, ◌++◌, length, take, drop, replicate, set, get_or, filter, cond, not, Bool, true, false, refl, sym, ap, ◌∙◌, subst, arith, append_assoc, length-append, nat_eq, All, Option, None, Some, inl, inr}
use Rattle.std.specs.List.{flat_map, list_any, range_with_len}
use Rattle.std.specs.Ordering.{nat_cmp, eq_by_cmp}
use Rattle.std.specs.Cmp.{nat_cmp_total, unsigned_tied}
use Rattle.std.specs.FinSet.{FinSet, contains, insert, from_list, from_list_push, contains-insert, nat_cmp-IsAntisymmetric}
use Rattle.std.proofs.lemmas.Bool.{cases_eq, cases_lt, eq-eqb, eqb-true}
use Rattle.std.proofs.lemmas.List.{append-nil, map-append, length-set, get_or-set_same, get_or-set_other, get_or_append_left, get_or-append-add, take_more, take_all, drop_all, length-map, map-id, get_or-map, length-replicate, get_or-replicate, get_or_past}
use Rattle.std.proofs.lemmas.List.FromFn.{map-range_with_len_more}
use Rattle.std.proofs.lemmas.List.Folds.{list_any-append}
use Rattle.std.proofs.lemmas.List.Elements.{filter-append, filter_agree}
use Rattle.std.proofs.lemmas.List.Sums.{sum_by-le-sum_by, sum_by-cons}
use Rattle.std.proofs.lemmas.Grind.{flat_map-append}
use Rattle.position_alloc.specs.Lowest.{lowest_free}
use Rattle.file_table.specs.declared.block.Block.{Block}
use Rattle.file_table.specs.Table.{Record, Column, TableValue, column_at, column_blocks, positions_of, block_count, no_record, no_column}
use Rattle.file_table.specs.Valid.{IsValid, IsColumn}
use Rattle.array_scan.specs.declared.sorting.Sorted.{Sorted}
use Rattle.array_scan.specs.Fates.{record_of, origin}
use Rattle.array_scan.specs.Laying.{kept_blocks, staying, taken, blocks_without, needed, all_needed, free_positions, freed, touched}
use Rattle.array_scan.specs.Refusals.{size_of, blocks_in, capped}
use Rattle.array_scan.specs.Marks.{AreHeld, AreTouched, StandBelow}

or_false : (t : Bool) → (t || false) ≡ t
or_false true = refl
or_false false = refl

or_true : (t : Bool) → (t || true) ≡ true
or_true true = refl
or_true false = refl

pub apart_eq : (p q : ℕ) → p ≢ q → nat_eq p q ≡ false
apart_eq p q apart =
    (elim (nat_eq p q) as (λ (t : Bool). nat_eq p q ≡ t → t ≡ false) [
      | true ↦ λ e. absurd (apart (eqb-true p q e))
      | false ↦ λ e. refl
    ]) refl

-- ---- held positions

pub held_one : (held : List Bool) (list : FinSet nat_cmp) (p : ℕ) → p < length held → AreHeld held list → AreHeld (set held p true) (insert list p)
held_one held list p within are q =
    elim (cases_eq p q) [
      | inl same ↦
          let here : get_or (set held p true) q false ≡ true = subst (λ (n : ℕ). get_or (set held p true) n false ≡ true) same (get_or-set_same held p true false within) in
          let tied : eq_by_cmp nat_cmp q p ≡ true = unsigned_tied q p ∙ eq-eqb q p (sym same) in
          here ∙ sym (contains-insert nat_cmp_total list p q ∙ ap (λ (t : Bool). t || contains list q) tied)
      | inr other ↦
          let apart : q ≢ p = (λ (e : q ≡ p). other (sym e)) in
          let tied : eq_by_cmp nat_cmp q p ≡ false = unsigned_tied q p ∙ apart_eq q p apart in
          get_or-set_other held p q true false apart ∙ are q ∙ sym (contains-insert nat_cmp_total list p q ∙ ap (λ (t : Bool). t || contains list q) tied)
    ]

-- one block more
pub block_held : (positions : List ℕ) (blocks : List Block) (i : ℕ) (block : Block) (list : FinSet nat_cmp) → i < length blocks → block ≡ get_or blocks i block → list ≡ from_list (positions ++ positions_of (take i blocks))
    → insert list block.position ≡ from_list (positions ++ positions_of (take (i + 1) blocks))
block_held positions blocks i block list within is so_far =
    let p = block.position in
    let more : positions_of (take (i + 1) blocks) ≡ positions_of (take i blocks) ++ p ∷ [] =
    ap positions_of (take_more blocks i block within) ∙ map-append (λ (b : Block). b.position) (take i blocks) (get_or blocks i block ∷ [])
    ∙ ap (λ (b : Block). positions_of (take i blocks) ++ b.position ∷ []) (sym is) in
    ap (λ (l : FinSet nat_cmp). insert l p) so_far ∙ sym (from_list_push nat_cmp_total nat_cmp-IsAntisymmetric (positions ++ positions_of (take i blocks)) p)
    ∙ ap from_list (append_assoc positions (positions_of (take i blocks)) (p ∷ []) ∙ ap (λ (ps : List ℕ). positions ++ ps) (sym more))

pub staying-push : (records : List Record) (files : List Sorted) (file : Sorted) → staying records (files ++ file ∷ []) ≡ staying records files ++ positions_of (kept_blocks records (origin file.fate))
staying-push records files file =
    let f : Sorted → List Block = λ file. kept_blocks records (origin file.fate) in
    ap positions_of (flat_map-append f files (file ∷ []) ∙ ap (λ (bs : List Block). flat_map f files ++ bs) (append-nil (f file)))
    ∙ map-append (λ (b : Block). b.position) (flat_map f files) (f file)

-- ---- blocks of a table stand below its length

All-left : {X : Type 0} (P : X → Type 0) (xs ys : List X) → All P (xs ++ ys) → All P xs
All-left P xs ys all k d within = subst P (get_or_append_left xs ys d k within) (all k d (omega (arith, length-append xs ys)))

All-right : {X : Type 0} (P : X → Type 0) (xs ys : List X) → All P (xs ++ ys) → All P ys
All-right P xs ys all k d within = subst P (get_or-append-add xs ys k d) (all (length xs + k) d (omega (arith, length-append xs ys)))

in_record : (P : ℕ → Type 0) (records : List Record) (i : ℕ) → i < length records → All P (positions_of (flat_map (λ (kept : Record). kept.blocks) records)) → All P (positions_of (record_of records i).blocks)
in_record P [] i within all = absurd (omega arith)
in_record P (kept ∷ records) zero within all =
    All-left P (positions_of kept.blocks) (positions_of (flat_map (λ (r : Record). r.blocks) records))
    (subst (All P) (map-append (λ (b : Block). b.position) kept.blocks (flat_map (λ (r : Record). r.blocks) records)) all)
in_record P (kept ∷ records) (suc i) within all =
    in_record P records i (omega arith)
    (All-right P (positions_of kept.blocks) (positions_of (flat_map (λ (r : Record). r.blocks) records))
    (subst (All P) (map-append (λ (b : Block). b.position) kept.blocks (flat_map (λ (r : Record). r.blocks) records)) all))

pub blocks_below : (table : TableValue) (d i : ℕ) → IsValid table → d < length table.columns → i < length (column_at table.columns d).records
    → StandBelow (length table.infos) (record_of (column_at table.columns d).records i).blocks
blocks_below table d i valid column rec k e within =
    let records = (column_at table.columns d).records in
    let blocks = (record_of records i).blocks in
    let is_column : IsColumn (length table.infos) (column_at table.columns d) = valid.columns.each d no_column column in
    let all : All (λ p. p < length table.infos) (positions_of blocks) = in_record (λ p. p < length table.infos) records i rec is_column.below in
    let below = all k 0 (omega (arith, length-map blocks (λ (b : Block). b.position))) in
    subst (λ (p : ℕ). p < length table.infos) (get_or-map (λ (b : Block). b.position) blocks k e 0 within) below

pub below_at : (count : ℕ) (blocks : List Block) (i : ℕ) (block : Block) → StandBelow count blocks → i < length blocks → block ≡ get_or blocks i block → block.position < count
below_at count blocks i block below within is = subst (λ (b : Block). b.position < count) (sym is) (below i block within)

-- ---- free positions

abbrev pub filled : FinSet nat_cmp → ℕ → FinSet nat_cmp
filled list zero = list
filled list (suc count) = filled (insert list (lowest_free list)) count

step : (list : FinSet nat_cmp) (count : ℕ) → filled (insert list (lowest_free list)) (count + 1) ≡ filled list (suc count + 1)
step list count = let e : suc (count + 1) ≡ suc count + 1 = omega arith in ap (filled list) e

pub filled-more : (list : FinSet nat_cmp) (count : ℕ) → insert (filled list count) (lowest_free (filled list count)) ≡ filled list (count + 1)
filled-more list zero = refl
filled-more list (suc count) =
    filled-more (insert list (lowest_free list)) count ∙ step list count

pub free-more : (list : FinSet nat_cmp) (count : ℕ) → free_positions list count ++ lowest_free (filled list count) ∷ [] ≡ free_positions list (count + 1)
free-more list zero = refl
free-more list (suc count) =
    let e : suc (count + 1) ≡ suc count + 1 = omega arith in
    ap (λ (ps : List ℕ). lowest_free list ∷ ps) (free-more (insert list (lowest_free list)) count) ∙ ap (free_positions list) e

-- ---- touched stripes

pub touched_one : (marks : List Bool) (touched : List ℕ) (p : ℕ) → p < length marks → AreTouched marks touched → AreTouched (set marks p true) (touched ++ p ∷ [])
touched_one marks touched p within are stripe below =
    let any = list_any-append (λ (q : ℕ). nat_eq q stripe) touched (p ∷ []) in
    let there : stripe < length marks = omega (arith, length-set marks p true) in
    elim (cases_eq p stripe) [
      | inl same ↦
          subst (λ (n : ℕ). get_or (set marks p true) n false ≡ true) same (get_or-set_same marks p true false within)
          ∙ sym (any ∙ ap (λ (t : Bool). list_any (λ (q : ℕ). nat_eq q stripe) touched || (t || false)) (eq-eqb p stripe same) ∙ or_true (list_any (λ (q : ℕ). nat_eq q stripe) touched))
      | inr other ↦
          let apart : stripe ≢ p = (λ (e : stripe ≡ p). other (sym e)) in
          get_or-set_other marks p stripe true false apart ∙ are stripe there
          ∙ sym (any ∙ ap (λ (t : Bool). list_any (λ (q : ℕ). nat_eq q stripe) touched || (t || false)) (apart_eq p stripe other) ∙ or_false (list_any (λ (q : ℕ). nat_eq q stripe) touched))
    ]

pub touched_past : (marks : List Bool) (touched : List ℕ) (p : ℕ) → length marks ≤ p → AreTouched marks touched → AreTouched marks (touched ++ p ∷ [])
touched_past marks touched p past are stripe below =
    let other : p ≢ stripe = (λ (e : p ≡ stripe). omega (arith, e, past, below)) in
    are stripe below
    ∙ sym (list_any-append (λ (q : ℕ). nat_eq q stripe) touched (p ∷ []) ∙ ap (λ (t : Bool). list_any (λ (q : ℕ). nat_eq q stripe) touched || (t || false)) (apart_eq p stripe other)
    ∙ or_false (list_any (λ (q : ℕ). nat_eq q stripe) touched))

abbrev pub unheld : List Bool → List ℕ → List ℕ
unheld held positions = filter (λ (p : ℕ). not (get_or held p false)) positions

pub unheld-push : (held : List Bool) (positions : List ℕ) (p : ℕ) → unheld held (positions ++ p ∷ []) ≡ unheld held positions ++ cond (get_or held p false) [] (p ∷ [])
unheld-push held positions p =
    filter-append (λ (q : ℕ). not (get_or held q false)) positions (p ∷ []) ∙ ap (λ (ps : List ℕ). unheld held positions ++ ps) (one (get_or held p false))
  where
    one : (t : Bool) → cond (not t) (p ∷ []) [] ≡ cond t [] (p ∷ [])
    one true = refl
    one false = refl

pub positions-more : (blocks : List Block) (i : ℕ) (block : Block) → i < length blocks → block ≡ get_or blocks i block → positions_of (take (i + 1) blocks) ≡ positions_of (take i blocks) ++ block.position ∷ []
positions-more blocks i block within is =
    ap positions_of (take_more blocks i block within) ∙ map-append (λ (b : Block). b.position) (take i blocks) (get_or blocks i block ∷ [])
    ∙ ap (λ (b : Block). positions_of (take i blocks) ++ b.position ∷ []) (sym is)

pub record_unheld : (held : List Bool) (records : List Record) (i : ℕ) → i < length records
    → unheld held (positions_of (flat_map (λ (kept : Record). kept.blocks) (take (i + 1) records)))
    ≡ unheld held (positions_of (flat_map (λ (kept : Record). kept.blocks) (take i records))) ++ unheld held (positions_of (record_of records i).blocks)
record_unheld held records i within =
    let f : Record → List Block = λ kept. kept.blocks in
    ap (λ (rs : List Record). unheld held (positions_of (flat_map f rs))) (take_more records i no_record within)
    ∙ ap (λ (bs : List Block). unheld held (positions_of bs)) (flat_map-append f (take i records) (record_of records i ∷ []) ∙ ap (λ (bs : List Block). flat_map f (take i records) ++ bs) (append-nil (f (record_of records i))))
    ∙ ap (unheld held) (map-append (λ (b : Block). b.position) (flat_map f (take i records)) (f (record_of records i)))
    ∙ filter-append (λ (p : ℕ). not (get_or held p false)) (positions_of (flat_map f (take i records))) (positions_of (f (record_of records i)))

pub freed_is : (held : List Bool) (column : Column) (files : List Sorted) (list : FinSet nat_cmp) → AreHeld held list → list ≡ taken column.records files → unheld held (positions_of (column_blocks column)) ≡ freed column files
freed_is held column files list are is =
    filter_agree (λ (p : ℕ). not (get_or held p false)) (λ (p : ℕ). not (contains (taken column.records files) p))
    (λ p. ap not (are p ∙ ap (λ (s : FinSet nat_cmp). contains s p) is)) (positions_of (column_blocks column))

-- ---- how many blocks are needed

pub needed_within : (block_size : ℕ) (files : List Sorted) → all_needed block_size files ≤ size_of block_size files
needed_within block_size files = sum_by-le-sum_by (needed block_size) (λ (file : Sorted). block_count block_size file.meta.size) files (λ file. at_most (block_count block_size file.meta.size) (origin file.fate))
  where
    at_most : (n : ℕ) (o : Option ℕ) → blocks_without n o ≤ n
    at_most n None = omega arith
    at_most n (Some i) = omega arith

pub column_within : (block_size : ℕ) (columns : List (List Sorted)) (d : ℕ) → d < length columns → size_of block_size (get_or columns d []) ≤ blocks_in block_size columns
column_within block_size [] d within = absurd (omega arith)
column_within block_size (files ∷ columns) zero within = omega (arith, sum_by-cons (size_of block_size) files columns)
column_within block_size (files ∷ columns) (suc d) within = omega (arith, sum_by-cons (size_of block_size) files columns, column_within block_size columns d (omega arith))

-- ---- nothing is marked at first, and what is written through a slice is there

pub unmarked : (n p : ℕ) → get_or (replicate n false) p false ≡ false
unmarked n p =
    elim (cases_lt p n) [
      | inl below ↦ get_or-replicate n p false false below
      | inr past ↦ get_or_past (replicate n false) p false (omega (arith, length-replicate n false))
    ]

pub written : {X : Type 0} (n : ℕ) (new old : List X) → length new ≡ length old → n ≡ length old → take n (new ++ drop (length new) old) ≡ new
written n new old same count =
    ap (λ (rest : List _). take n (new ++ rest)) (drop_all (length new) old (omega arith)) ∙ ap (take n) (append-nil new) ∙ take_all n new (omega arith)

pub small : (a b : ℕ) → a ≡ capped b → b ≤ 67108864 → a ≡ b
small a b is few = omega arith
