-- The blocks of a column that was laid out are kept blocks, or stand at positions that were given out, and no position stands twice.
use Rattle.std.proofs.Common.{◌≡◌, ◌≢◌, ◌⊎◌, inl, inr, ℕ, zero, suc, ◌+◌, ◌-◌, ◌<◌, ◌≤◌, ◌||◌, List, [], ◌∷◌, ◌++◌, length, map, take, drop, get_or, Bool, true, false, refl, sym, ap, ◌∙◌, subst, arith, nat_cmp, nat_eq, length-append, All, AllPairs, Option, None, Some}
use Rattle.std.specs.List.{Contains, list_any}
use Rattle.std.specs.Ordering.{eq_by_cmp}
use Rattle.std.specs.Cmp.{nat_cmp_total}
use Rattle.std.specs.FinSet.{FinSet, contains, insert, from_list, len, empty, contains-insert, contains-from_list_nat, len-insert, len-empty}
use Rattle.std.proofs.lemmas.Bool.{eq-eqb}
use Rattle.std.proofs.lemmas.List.{map-append, length-map, get_or-map, length-drop, length-take-le, take-append-drop, take_more, drop_more}
use Rattle.std.proofs.lemmas.List.Elements.{All-nil, All-cons, All-head, All-tail, All-append, All-take, All-drop, All-map, Contains-get_or, Contains-append_left, Contains-append_right, Contains-append_cases}
use Rattle.std.proofs.lemmas.List.Folds.{list_any_at, list_any_none}
use Rattle.std.proofs.lemmas.List.Kept.{AllPairs-cons}
use Rattle.std.proofs.lemmas.List.Sums.{sum_by-cons}
use Rattle.position_alloc.specs.Lowest.{lowest_free}
use Rattle.position_alloc.proofs.LowestLemmas.{tied_same, tied_apart, is_lowest, at_most}
use Rattle.file_table.specs.declared.block.Block.{Block}
use Rattle.file_table.specs.Table.{Record, positions_of, block_count}
use Rattle.file_table.specs.Valid.{IsWhole}
use Rattle.file_table.proofs.ListFacts.{AllPairs-take}
use Rattle.file_table.proofs.BuildingLemmas.{blocks_in}
use Rattle.file_table.proofs.PrefixLemmas.{All-left, All-right, AllPairs-left, positions_in}
use Rattle.array_scan.specs.declared.sorting.Sorted.{Sorted}
use Rattle.array_scan.specs.Fates.{record_of, origin, ShareNone}
use Rattle.array_scan.specs.Laying.{kept_blocks, staying, blocks_without, needed, all_needed, free_positions, bare_block, bare, blocks_by, laid_record, laid_records}
use Rattle.array_scan.specs.Marks.{AreFree}
use Rattle.array_scan.specs.Refusals.{size_of}
use Rattle.array_scan.proofs.PlacingLemmas.{apart_eq, staying-push}
use Rattle.array_scan.proofs.ApartLemmas.{Distinct, Apart, none_in_nothing, distinct-append, distinct_apart, in_take, in_drop}
use Rattle.folder_listing.proofs.JoinedLemmas.{AllPairs-right}

-- ---- where the blocks come from

-- what holds of all blocks of some records holds of those of each
pub kept_all : (P : Block → Type 0) (records : List Record) → All P (blocks_in records) → (i : ℕ) → All P (record_of records i).blocks
kept_all P [] all i = All-nil P
kept_all P (kept ∷ records) all zero = All-left P kept.blocks (blocks_in records) all
kept_all P (kept ∷ records) all (suc i) = kept_all P records (All-right P kept.blocks (blocks_in records) all) i

-- what holds of the kept blocks, and of those at each position that is given out, holds of all
pub laid_all : (P : Block → Type 0) (size : ℕ) (records : List Record) (free : List ℕ) (files : List Sorted) → ((i : ℕ) → All P (record_of records i).blocks)
    → All (λ (p : ℕ). P (bare_block p)) free → All P (blocks_in (laid_records size records free files))
laid_all P size records free [] kept new = All-nil P
laid_all P size records free (file ∷ files) kept new =
    All-append P (laid_record size records free file).blocks (blocks_in (laid_records size records (drop (needed size file) free) files)) (here (origin file.fate))
    (laid_all P size records (drop (needed size file) free) files kept (All-drop (λ (p : ℕ). P (bare_block p)) (needed size file) free new))
  where
    here : (o : Option ℕ) → All P (blocks_by records free (block_count size file.meta.size) o)
    here None = All-map P bare_block (take (block_count size file.meta.size) free) (All-take (λ (p : ℕ). P (bare_block p)) (block_count size file.meta.size) free new)
    here (Some i) = kept i

-- ---- their positions

pub positions-bare : (ps : List ℕ) → positions_of (bare ps) ≡ ps
positions-bare [] = refl
positions-bare (p ∷ ps) = ap (λ (qs : List ℕ). p ∷ qs) (positions-bare ps)

-- the positions of the blocks that one file has, and of those that the ones behind it have
abbrev here_at : ℕ → List Record → List ℕ → Sorted → List ℕ
here_at size records free file = positions_of (blocks_by records free (block_count size file.meta.size) (origin file.fate))

positions-laid : (size : ℕ) (records : List Record) (free : List ℕ) (file : Sorted) (files : List Sorted)
    → positions_in (laid_records size records free (file ∷ files)) ≡ here_at size records free file ++ positions_in (laid_records size records (drop (needed size file) free) files)
positions-laid size records free file files =
    map-append (λ (b : Block). b.position) (laid_record size records free file).blocks (blocks_in (laid_records size records (drop (needed size file) free) files))

positions-staying : (records : List Record) (file : Sorted) (files : List Sorted) → staying records (file ∷ files) ≡ positions_of (kept_blocks records (origin file.fate)) ++ staying records files
positions-staying records file files =
    map-append (λ (b : Block). b.position) (kept_blocks records (origin file.fate)) (Rattle.std.specs.List.flat_map (λ (f : Sorted). kept_blocks records (origin f.fate)) files)

here_from : (records : List Record) (free : List ℕ) (n : ℕ) (o : Option ℕ) (p : ℕ) → Contains (positions_of (blocks_by records free n o)) p → Contains (positions_of (kept_blocks records o)) p ⊎ Contains free p
here_from records free n None p there = inr (in_take n free p (subst (λ (ps : List ℕ). Contains ps p) (positions-bare (take n free)) there))
here_from records free n (Some i) p there = inl there

-- each is one that stays, or one that was given out
pub laid_from : (size : ℕ) (records : List Record) (free : List ℕ) (files : List Sorted) (p : ℕ) → Contains (positions_in (laid_records size records free files)) p → Contains (staying records files) p ⊎ Contains free p
laid_from size records free [] p there = absurd (none_in_nothing p there)
laid_from size records free (file ∷ files) p there =
    let rest = drop (needed size file) free in
    let here = here_at size records free file in
    let later = positions_in (laid_records size records rest files) in
    let kept = positions_of (kept_blocks records (origin file.fate)) in
    let stays : Contains (kept ++ staying records files) p → Contains (staying records (file ∷ files)) p = subst (λ (ps : List ℕ). Contains ps p) (sym (positions-staying records file files)) in
    elim (Contains-append_cases here later p (subst (λ (ps : List ℕ). Contains ps p) (positions-laid size records free file files) there)) [
      | inl first ↦ elim (here_from records free (block_count size file.meta.size) (origin file.fate) p first) [
        | inl stay ↦ inl (stays (Contains-append_left kept (staying records files) p stay))
        | inr new ↦ inr new
      ]
      | inr second ↦ elim (laid_from size records rest files p second) [
        | inl stay ↦ inl (stays (Contains-append_right kept (staying records files) p stay))
        | inr new ↦ inr (in_drop (needed size file) free p new)
      ]
    ]

-- no position stands twice
pub laid_distinct : (size : ℕ) (records : List Record) (free : List ℕ) (files : List Sorted) → Distinct (staying records files) → Distinct free → Apart (staying records files) free
    → Distinct (positions_in (laid_records size records free files))
laid_distinct size records free [] stay once apart = λ i j d less within. absurd (omega (arith, within))
laid_distinct size records free (file ∷ files) stay once apart =
    let n = block_count size file.meta.size in
    let kept = positions_of (kept_blocks records (origin file.fate)) in
    let behind = staying records files in
    let split : Distinct (kept ++ behind) = subst Distinct (positions-staying records file files) stay in
    let away : Apart (kept ++ behind) free = subst (λ (ps : List ℕ). Apart ps free) (positions-staying records file files) apart in
    let parts : Distinct (take (needed size file) free ++ drop (needed size file) free) = subst Distinct (sym (take-append-drop (needed size file) free)) once in
    let rest = drop (needed size file) free in
    let rest_once : Distinct rest = AllPairs-right (λ (a b : ℕ). a ≢ b) (take (needed size file) free) rest parts in
    let rest_away : Apart behind rest = λ p one two. away p (Contains-append_right kept behind p one) (in_drop (needed size file) free p two) in
    let later = positions_in (laid_records size records rest files) in
    let later_once : Distinct later = laid_distinct size records rest files (AllPairs-right (λ (a b : ℕ). a ≢ b) kept behind split) rest_once rest_away in
    subst Distinct (sym (positions-laid size records free file files))
    (distinct-append (here_at size records free file) later (here_once (origin file.fate) n (AllPairs-left (λ (a b : ℕ). a ≢ b) kept behind split))
    later_once (λ p one two. clash (origin file.fate) n refl p one (laid_from size records rest files p two) (distinct_apart kept behind split) away parts))
  where
    here_once : (o : Option ℕ) (n : ℕ) → Distinct (positions_of (kept_blocks records o)) → Distinct (positions_of (blocks_by records free n o))
    here_once None n is = subst Distinct (sym (positions-bare (take n free))) (AllPairs-left (λ (a b : ℕ). a ≢ b) (take n free) (drop n free) (subst Distinct (sym (take-append-drop n free)) once))
    here_once (Some i) n is = is

    clash : (o : Option ℕ) (n : ℕ) → blocks_without n o ≡ blocks_without n o → (p : ℕ) → Contains (positions_of (blocks_by records free n o)) p
        → Contains (staying records files) p ⊎ Contains (drop (blocks_without n o) free) p → Apart (positions_of (kept_blocks records o)) (staying records files)
        → Apart (positions_of (kept_blocks records o) ++ staying records files) free → Distinct (take (blocks_without n o) free ++ drop (blocks_without n o) free) → ⊥
    clash None n e p one (inl stay) kept_away away parts = away p stay (in_take n free p (subst (λ (ps : List ℕ). Contains ps p) (positions-bare (take n free)) one))
    clash None n e p one (inr new) kept_away away parts = distinct_apart (take n free) (drop n free) parts p (subst (λ (ps : List ℕ). Contains ps p) (positions-bare (take n free)) one) new
    clash (Some i) n e p one (inl stay) kept_away away parts = kept_away p one stay
    clash (Some i) n e p one (inr new) kept_away away parts = away p (Contains-append_left (positions_of (record_of records i).blocks) (staying records files) p one) new

-- ---- how many

-- a file keeps as many blocks as its size asks for
abbrev pub KeepsWhole : ℕ → List Record → Sorted → Type 0
KeepsWhole size records file = (i : ℕ) → origin file.fate ≡ Some i → length (record_of records i).blocks ≡ block_count size file.meta.size

pub laid_whole : (size : ℕ) (records : List Record) (free : List ℕ) (files : List Sorted) → All (KeepsWhole size records) files → length free ≡ all_needed size files → All (IsWhole size) (laid_records size records free files)
laid_whole size records free [] keeps many = All-nil (IsWhole size)
laid_whole size records free (file ∷ files) keeps many =
    let count = sum_by-cons (needed size) file files in
    All-cons (IsWhole size) (laid_record size records free file) (laid_records size records (drop (needed size file) free) files)
    (here (origin file.fate) refl (omega (arith, many, count)))
    (laid_whole size records (drop (needed size file) free) files (All-tail (KeepsWhole size records) file files keeps) (omega (arith, many, count, length-drop (needed size file) free)))
  where
    here : (o : Option ℕ) → origin file.fate ≡ o → blocks_without (block_count size file.meta.size) o ≤ length free → length (blocks_by records free (block_count size file.meta.size) o) ≡ block_count size file.meta.size
    here None is room = length-map (take (block_count size file.meta.size) free) bare_block ∙ length-take-le (block_count size file.meta.size) free room
    here (Some i) is room = All-head (KeepsWhole size records) file files keeps i is

pub staying_count : (size : ℕ) (records : List Record) (files : List Sorted) → All (KeepsWhole size records) files → length (staying records files) + all_needed size files ≡ size_of size files
staying_count size records [] keeps = refl
staying_count size records (file ∷ files) keeps =
    let n = block_count size file.meta.size in
    let kept = positions_of (kept_blocks records (origin file.fate)) in
    let here : length kept + blocks_without n (origin file.fate) ≡ n = count (origin file.fate) refl in
    omega (
      arith,
      here,
      ap length (positions-staying records file files),
      length-append kept (staying records files),
      sum_by-cons (needed size) file files,
      sum_by-cons (λ (f : Sorted). block_count size f.meta.size) file files,
      staying_count size records files (All-tail (KeepsWhole size records) file files keeps),
    )
  where
    count : (o : Option ℕ) → origin file.fate ≡ o → length (positions_of (kept_blocks records o)) + blocks_without (block_count size file.meta.size) o ≡ block_count size file.meta.size
    count None is = omega arith
    count (Some i) is = omega (arith, length-map (record_of records i).blocks (λ (b : Block). b.position), All-head (KeepsWhole size records) file files keeps i is)

-- ---- the positions that stay

positions-first : (kept : Record) (records : List Record) → positions_in (kept ∷ records) ≡ positions_of kept.blocks ++ positions_in records
positions-first kept records = map-append (λ (b : Block). b.position) kept.blocks (blocks_in records)

-- blocks of two records of a column stand at different positions
in_some_record : (records : List Record) (j p : ℕ) → Contains (positions_of (record_of records j).blocks) p → Contains (positions_in records) p
in_some_record [] j p there = there
in_some_record (r ∷ records) zero p there =
    subst (λ (ps : List ℕ). Contains ps p) (sym (positions-first r records)) (Contains-append_left (positions_of r.blocks) (positions_in records) p there)
in_some_record (r ∷ records) (suc j) p there =
    subst (λ (ps : List ℕ). Contains ps p) (sym (positions-first r records)) (Contains-append_right (positions_of r.blocks) (positions_in records) p (in_some_record records j p there))

first_apart : (kept : Record) (records : List Record) (j p : ℕ) → Distinct (positions_in (kept ∷ records)) → Contains (positions_of kept.blocks) p → Contains (positions_of (record_of records j).blocks) p → ⊥
first_apart kept records j p once one two =
    distinct_apart (positions_of kept.blocks) (positions_in records) (subst Distinct (positions-first kept records) once) p one (in_some_record records j p two)

records_apart : (records : List Record) (i j p : ℕ) → Distinct (positions_in records) → i ≢ j → Contains (positions_of (record_of records i).blocks) p → Contains (positions_of (record_of records j).blocks) p → ⊥
records_apart [] i j p once other one two = none_in_nothing p one
records_apart (kept ∷ records) zero zero p once other one two = other refl
records_apart (kept ∷ records) zero (suc j) p once other one two = first_apart kept records j p once one two
records_apart (kept ∷ records) (suc i) zero p once other one two = first_apart kept records i p once two one
records_apart (kept ∷ records) (suc i) (suc j) p once other one two =
    records_apart records i j p (AllPairs-right (λ (a b : ℕ). a ≢ b) (positions_of kept.blocks) (positions_in records) (subst Distinct (positions-first kept records) once)) (λ e. other (ap suc e)) one two

record_once : (records : List Record) (i : ℕ) → Distinct (positions_in records) → Distinct (positions_of (record_of records i).blocks)
record_once [] i once = once
record_once (kept ∷ records) zero once = AllPairs-left (λ (a b : ℕ). a ≢ b) (positions_of kept.blocks) (positions_in records) (subst Distinct (positions-first kept records) once)
record_once (kept ∷ records) (suc i) once =
    record_once records i (AllPairs-right (λ (a b : ℕ). a ≢ b) (positions_of kept.blocks) (positions_in records) (subst Distinct (positions-first kept records) once))

-- each stands in a record that a file keeps
record IsKeptBy (records : List Record) (files : List Sorted) (p : ℕ) : Type 0 where
  k : ℕ
  i : ℕ
  within : k < length files
  keeps : (d : Sorted) → origin (get_or files k d).fate ≡ Some i
  there : Contains (positions_of (record_of records i).blocks) p

staying_from : (records : List Record) (files : List Sorted) (p : ℕ) → Contains (staying records files) p → IsKeptBy records files p
staying_from records [] p there = absurd (none_in_nothing p there)
staying_from records (file ∷ files) p there =
    elim (Contains-append_cases (positions_of (kept_blocks records (origin file.fate))) (staying records files) p (subst (λ (ps : List ℕ). Contains ps p) (positions-staying records file files) there)) [
      | inl first ↦ here (origin file.fate) refl first
      | inr second ↦ let later = staying_from records files p second in record { k = suc later.k; i = later.i; within = omega (arith, later.within); keeps = later.keeps; there = later.there }
    ]
  where
    here : (o : Option ℕ) → origin file.fate ≡ o → Contains (positions_of (kept_blocks records o)) p → IsKeptBy records (file ∷ files) p
    here None is first = absurd (none_in_nothing p first)
    here (Some i) is first = record { k = 0; i = i; within = omega arith; keeps = λ d. is; there = first }

pub staying_distinct : (records : List Record) (files : List Sorted) → Distinct (positions_in records) → AllPairs ShareNone files → Distinct (staying records files)
staying_distinct records [] once apart = λ i j d less within. absurd (omega (arith, within))
staying_distinct records (file ∷ files) once apart =
    subst Distinct (sym (positions-staying records file files))
    (distinct-append (positions_of (kept_blocks records (origin file.fate))) (staying records files) (first (origin file.fate))
    (staying_distinct records files once (λ a b d less within. apart (suc a) (suc b) d (omega arith) (omega arith)))
    (λ p one two. clash (origin file.fate) refl p one (staying_from records files p two)))
  where
    first : (o : Option ℕ) → Distinct (positions_of (kept_blocks records o))
    first None = λ i j d less within. absurd (omega (arith, within))
    first (Some i) = record_once records i once

    clash : (o : Option ℕ) → origin file.fate ≡ o → (p : ℕ) → Contains (positions_of (kept_blocks records o)) p → IsKeptBy records files p → ⊥
    clash None is p one kept = none_in_nothing p one
    clash (Some i) is p one kept =
        let other : i ≢ kept.i = λ (e : i ≡ kept.i). apart 0 (suc kept.k) file (omega arith) (omega (arith, kept.within)) i is (kept.keeps file ∙ ap Some (sym e)) in
        records_apart records i kept.i p once other one kept.there

-- ---- the positions that are given out

-- a list's numbers are in its set
pub in_set : (ps : List ℕ) (p : ℕ) → Contains ps p → contains (from_list {R = nat_cmp} ps) p ≡ true
in_set ps p there =
    contains-from_list_nat ps p ∙ list_any_at (λ y. nat_eq y p) ps there.0 p there.1 (eq-eqb (get_or ps there.0 p) p there.2)

pub set_within : (ps : List ℕ) → len (from_list {R = nat_cmp} ps) ≤ length ps
set_within [] = omega (arith, len-empty nat_cmp)
set_within (p ∷ ps) = by (contains (from_list {R = nat_cmp} ps) p) refl (set_within ps)
  where
    by : (t : Bool) → contains (from_list {R = nat_cmp} ps) p ≡ t → len (from_list {R = nat_cmp} ps) ≤ length ps → len (from_list {R = nat_cmp} (p ∷ ps)) ≤ length (p ∷ ps)
    by true is rest = omega (arith, rest, len-insert nat_cmp_total (from_list ps) p ∙ ap (λ (t : Bool). Rattle.std.proofs.Common.cond t (len (from_list {R = nat_cmp} ps)) (len (from_list {R = nat_cmp} ps) + 1)) is)
    by false is rest = omega (arith, rest, len-insert nat_cmp_total (from_list ps) p ∙ ap (λ (t : Bool). Rattle.std.proofs.Common.cond t (len (from_list {R = nat_cmp} ps)) (len (from_list {R = nat_cmp} ps) + 1)) is)

-- with the lowest free number a set has one more
pub one_longer : (set : FinSet nat_cmp) → len (insert set (lowest_free set)) ≡ len set + 1
one_longer set = len-insert nat_cmp_total set (lowest_free set) ∙ ap (λ (t : Bool). Rattle.std.proofs.Common.cond t (len set) (len set + 1)) (is_lowest set).free

pub given_below : (set : FinSet nat_cmp) (n : ℕ) → All (λ (p : ℕ). p < len set + n) (free_positions set n)
given_below set zero = All-nil (λ (p : ℕ). p < len set + 0)
given_below set (suc n) =
    let one = one_longer set in
    let rest : All (λ (p : ℕ). p < len (insert set (lowest_free set)) + n) (free_positions (insert set (lowest_free set)) n) = given_below (insert set (lowest_free set)) n in
    All-cons (λ (p : ℕ). p < len set + suc n) (lowest_free set) (free_positions (insert set (lowest_free set)) n) (omega (arith, at_most set))
    (λ k d within. omega (arith, rest k d within, one))

-- none is in the set
pub given_fresh : (set : FinSet nat_cmp) (n p : ℕ) → Contains (free_positions set n) p → contains set p ≡ false
given_fresh set zero p there = absurd (none_in_nothing p there)
given_fresh set (suc n) p there =
    elim (Contains-append_cases (lowest_free set ∷ []) (free_positions (insert set (lowest_free set)) n) p there) [
      | inl first ↦ subst (λ (q : ℕ). contains set q ≡ false) (only first) (is_lowest set).free
      | inr later ↦ outside (given_fresh (insert set (lowest_free set)) n p later)
    ]
  where
    only : Contains (lowest_free set ∷ []) p → lowest_free set ≡ p
    only first = at first.0 first.1 first.2
      where
        at : (k : ℕ) → k < 1 → get_or (lowest_free set ∷ []) k p ≡ p → lowest_free set ≡ p
        at zero below is = is
        at (suc k) below is = absurd (omega (arith, below))

    right_false : (s t : Bool) → (s || t) ≡ false → t ≡ false
    right_false false t h = h
    right_false true t h = absurd cc

    outside : contains (insert set (lowest_free set)) p ≡ false → contains set p ≡ false
    outside is = right_false (eq_by_cmp nat_cmp p (lowest_free set)) (contains set p) (sym (contains-insert nat_cmp_total set (lowest_free set) p) ∙ is)

pub given_distinct : (set : FinSet nat_cmp) (n : ℕ) → Distinct (free_positions set n)
given_distinct set zero = λ i j d less within. absurd (omega (arith, within))
given_distinct set (suc n) =
    let rest = free_positions (insert set (lowest_free set)) n in
    AllPairs-cons (λ (a b : ℕ). a ≢ b) (lowest_free set) rest
    (λ k d within same. inside (get_or rest k d) (sym same) (given_fresh (insert set (lowest_free set)) n (get_or rest k d) (Contains-get_or rest k d within)))
    (given_distinct (insert set (lowest_free set)) n)
  where
    inside : (p : ℕ) → p ≡ lowest_free set → contains (insert set (lowest_free set)) p ≡ false → ⊥
    inside p same absent =
        let there : contains (insert set (lowest_free set)) p ≡ true = contains-insert nat_cmp_total set (lowest_free set) p ∙ ap (λ (t : Bool). t || contains set p) (tied_same p (lowest_free set) same) in
        cc

-- ---- blocks at free positions, one after another

pub first_free : (set : FinSet nat_cmp) (blocks : List Block) (i : ℕ) (block : Block) → AreFree set (drop i blocks) → i < length blocks → block ≡ get_or blocks i block → contains set block.position ≡ false
first_free set blocks i block are within is =
    let next : drop i blocks ≡ block ∷ drop (i + 1) blocks = drop_more blocks i block within ∙ ap (λ (b : Block). b ∷ drop (i + 1) blocks) (sym is) in
    All-head (λ (b : Block). contains set b.position ≡ false) block (drop (i + 1) blocks) (subst (All (λ (b : Block). contains set b.position ≡ false)) next are.free)

pub rest_free : (set : FinSet nat_cmp) (blocks : List Block) (i : ℕ) (block : Block) → AreFree set (drop i blocks) → i < length blocks → block ≡ get_or blocks i block → AreFree (insert set block.position) (drop (i + 1) blocks)
rest_free set blocks i block are within is =
    let rest = drop (i + 1) blocks in
    let next : drop i blocks ≡ block ∷ rest = drop_more blocks i block within ∙ ap (λ (b : Block). b ∷ rest) (sym is) in
    let here : AreFree set (block ∷ rest) = subst (AreFree set) next are in
    record {
      free = λ k d inside.
          let there : contains set (get_or rest k d).position ≡ false = here.free (suc k) d (omega (arith, inside)) in
          let read : get_or (positions_of rest) k 0 ≡ (get_or rest k d).position = get_or-map (λ (b : Block). b.position) rest k d 0 inside in
          let apart : block.position ≢ get_or (positions_of rest) k 0 = here.once 0 (suc k) 0 (omega arith) (omega (arith, inside, length-map rest (λ (b : Block). b.position))) in
          let tied : eq_by_cmp nat_cmp (get_or rest k d).position block.position ≡ false = tied_apart (get_or rest k d).position block.position (λ same. apart (sym (read ∙ same))) in
          contains-insert nat_cmp_total set block.position (get_or rest k d).position ∙ ap (λ (t : Bool). t || contains set (get_or rest k d).position) tied ∙ there;
      once = λ a b d less inside. here.once (suc a) (suc b) d (omega arith) (omega (arith, inside));
    }

-- the blocks that a file keeps stand at none of the positions that the files before it keep
pub kept_free : (records : List Record) (files : List Sorted) (k : ℕ) (file : Sorted) (set : FinSet nat_cmp) → Distinct (positions_in records) → AllPairs ShareNone files → k < length files → file ≡ get_or files k file
    → set ≡ from_list {R = nat_cmp} (staying records (take k files)) → AreFree set (kept_blocks records (origin file.fate))
kept_free records files k file set once apart within is so_far =
    let before = staying records (take k files) in
    let blocks = kept_blocks records (origin file.fate) in
    let next : take (k + 1) files ≡ take k files ++ file ∷ [] = take_more files k file within ∙ ap (λ (f : Sorted). take k files ++ f ∷ []) (sym is) in
    let all : Distinct (staying records (take (k + 1) files)) = staying_distinct records (take (k + 1) files) once (AllPairs-take ShareNone (k + 1) files apart) in
    let both : Distinct (before ++ positions_of blocks) = subst Distinct (ap (staying records) next ∙ staying-push records (take k files) file) all in
    record {
      free = λ m d inside.
          let there : Contains (positions_of blocks) (get_or blocks m d).position =
          subst (Contains (positions_of blocks)) (get_or-map (λ (b : Block). b.position) blocks m d 0 inside) (Contains-get_or (positions_of blocks) m 0 (omega (arith, inside, length-map blocks (λ (b : Block). b.position)))) in
          subst (λ (s : FinSet nat_cmp). contains s (get_or blocks m d).position ≡ false) (sym so_far) (not_in before (get_or blocks m d).position (λ one. distinct_apart before (positions_of blocks) both (get_or blocks m d).position one there));
      once = AllPairs-right (λ (a b : ℕ). a ≢ b) before (positions_of blocks) both;
    }
  where
    not_in : (ps : List ℕ) (p : ℕ) → ¬ (Contains ps p) → contains (from_list {R = nat_cmp} ps) p ≡ false
    not_in ps p absent =
        contains-from_list_nat ps p ∙ list_any_none (λ y. nat_eq y p) ps (λ k d inside. apart_eq (get_or ps k d) p (λ same. absent (subst (Contains ps) same (Contains-get_or ps k d inside))))
