-- Files whose paths rise, and the entries of their tree.
use Rattle.std.proofs.Common.{◌≡◌, ◌≢◌, ℕ, zero, suc, ◌<◌, ◌≤◌, List, [], ◌∷◌, length, get_or, set, false, not, cond, None, Some, refl, sym, ap, ◌∙◌, subst, arith}
use Rattle.std.specs.Prelude.{T}
use Rattle.std.specs.List.{insert, remove, AllByRecursion}
use Rattle.std.specs.FinMap.{slice_cmp-IsAntisymmetric, nat_cmp-IsAntisymmetric, find, put, is_sorted}
use Rattle.std.specs.FinMap.Entries.{where_key, by_order, is_sorted-put}
use Rattle.std.specs.Ordering.{nat_cmp, is_eq, eq_by_cmp, ordering_reverse}
use Rattle.std.specs.Cmp.Lexicographic.{slice_cmp, nat_list_cmp_total}
use Rattle.std.specs.declared.cmp.Ordering.{Ordering}
use Rattle.std.specs.declared.cmp.Ordering.TheVariants.{Less, Equal, Greater}
use Rattle.std.proofs.lemmas.Cmp.{tied_itself}
use Rattle.disk_model.specs.Tree.{File}
use Rattle.disk_calm.specs.Files.{IsRising, entries_of, entry_of, file_in}
use Rattle.disk_calm.specs.declared.files.MemFile.{MemFile}

abbrev pub path_cmp : List ℕ → List ℕ → Ordering
path_cmp = slice_cmp nat_cmp

-- paths that are tied are equal
pub tied_paths : (a b : List ℕ) → path_cmp a b ≡ Equal → a ≡ b
tied_paths a b tied = slice_cmp-IsAntisymmetric nat_cmp-IsAntisymmetric a b tied

pub tied_same : (a b : List ℕ) → a ≡ b → path_cmp a b ≡ Equal
tied_same a b same = ap (λ (p : List ℕ). path_cmp a p) (sym same) ∙ tied_itself nat_list_cmp_total a

pub turned_less : (a b : List ℕ) → path_cmp a b ≡ Less → path_cmp b a ≡ Greater
turned_less a b less = nat_list_cmp_total.antisymm b a ∙ ap ordering_reverse less

pub turned_greater : (a b : List ℕ) → path_cmp a b ≡ Greater → path_cmp b a ≡ Less
turned_greater a b greater = nat_list_cmp_total.antisymm b a ∙ ap ordering_reverse greater

-- a path is less than that of each file
abbrev pub IsBelowAll : List ℕ → List MemFile → Type 0
IsBelowAll path files = AllByRecursion (λ (g : MemFile). slice_cmp nat_cmp path g.path ≡ Less) files

pub below_at : (path : List ℕ) (files : List MemFile) → IsBelowAll path files → (j : ℕ) (d : MemFile) → j < length files → path_cmp path (get_or files j d).path ≡ Less
below_at path [] all j d within = absurd (omega (arith, within))
below_at path (f ∷ files) all zero d within = all.0
below_at path (f ∷ files) all (suc j) d within = below_at path files all.1 j d (omega (arith, within))

below_more : (path other : List ℕ) (files : List MemFile) → path_cmp path other ≡ Less → IsBelowAll other files → IsBelowAll path files
below_more path other [] less all = tt
below_more path other (f ∷ files) less all = (nat_list_cmp_total.trans path other f.path less all.0, below_more path other files less all.1)

below-insert : (path : List ℕ) (files : List MemFile) (i : ℕ) (new : MemFile) → IsBelowAll path files → path_cmp path new.path ≡ Less → IsBelowAll path (insert files i new)
below-insert path [] zero new all less = (less, tt)
below-insert path [] (suc i) new all less = (less, tt)
below-insert path (f ∷ files) zero new all less = (less, all)
below-insert path (f ∷ files) (suc i) new all less = (all.0, below-insert path files i new all.1 less)

below-set : (path : List ℕ) (files : List MemFile) (i : ℕ) (new : MemFile) → IsBelowAll path files → ((d : MemFile) → i < length files → (get_or files i d).path ≡ new.path) → IsBelowAll path (set files i new)
below-set path [] i new all is = tt
below-set path (f ∷ files) zero new all is = (subst (λ (p : List ℕ). path_cmp path p ≡ Less) (is f (omega arith)) all.0, all.1)
below-set path (f ∷ files) (suc i) new all is = (all.0, below-set path files i new all.1 (λ d within. is d (omega (arith, within))))

below-remove : (path : List ℕ) (files : List MemFile) (i : ℕ) → IsBelowAll path files → IsBelowAll path (remove files i)
below-remove path [] zero all = tt
below-remove path [] (suc i) all = tt
below-remove path (f ∷ files) zero all = all.1
below-remove path (f ∷ files) (suc i) all = (all.0, below-remove path files i all.1)

pub paths_rise : (files : List MemFile) → IsRising files → (i j : ℕ) (d : MemFile) → i < j → j < length files → path_cmp (get_or files i d).path (get_or files j d).path ≡ Less
paths_rise [] rising i j d order within = absurd (omega (arith, within))
paths_rise (f ∷ files) rising i zero d order within = absurd (omega (arith, order))
paths_rise (f ∷ files) rising zero (suc j) d order within = below_at f.path files rising.0 j d (omega (arith, within))
paths_rise (f ∷ files) rising (suc i) (suc j) d order within = paths_rise files rising.1 i j d (omega (arith, order)) (omega (arith, within))

-- the entries of the tree are in order
pub entries_rise : (files : List MemFile) → IsRising files → T (is_sorted path_cmp (entries_of files))
entries_rise [] rising = tt
entries_rise (f ∷ []) rising = tt
entries_rise (f ∷ g ∷ files) rising =
    let rest = entries_rise (g ∷ files) rising.1 in
    let whole : put path_cmp f.path (file_in f) (entries_of (g ∷ files)) ≡ entries_of (f ∷ g ∷ files)
    = ap (λ o. by_order o (entries_of (f ∷ g ∷ files)) ((g.path, file_in f) ∷ entries_of files) (entry_of g ∷ put path_cmp f.path (file_in f) (entries_of files))) rising.0.0 in
    subst (λ (es : List (List ℕ × File)). T (is_sorted path_cmp es)) whole (is_sorted-put path_cmp nat_list_cmp_total f.path (file_in f) (entries_of (g ∷ files)) rest)

-- a new path, between the lesser and the greater
pub rising-insert : (files : List MemFile) (i : ℕ) (new : MemFile) → IsRising files → ((j : ℕ) (d : MemFile) → j < i → j < length files → path_cmp (get_or files j d).path new.path ≡ Less)
    → ((j : ℕ) (d : MemFile) → i ≤ j → j < length files → path_cmp (get_or files j d).path new.path ≡ Greater) → IsRising (insert files i new)
rising-insert [] zero new rising before after = (tt, tt)
rising-insert [] (suc i) new rising before after = (tt, tt)
rising-insert (f ∷ files) zero new rising before after =
    let least : path_cmp new.path f.path ≡ Less = turned_greater f.path new.path (after 0 f (omega arith) (omega arith)) in
    ((least, below_more new.path f.path files least rising.0), rising)
rising-insert (f ∷ files) (suc i) new rising before after = (
  below-insert f.path files i new rising.0 (before 0 f (omega arith) (omega arith)),
  rising-insert files i new rising.1 (λ j d below within. before (suc j) d (omega (arith, below)) (omega (arith, within))) (λ j d above within. after (suc j) d (omega (arith, above)) (omega (arith, within))),
)

pub put-insert : (files : List MemFile) (i : ℕ) (new : MemFile) → ((j : ℕ) (d : MemFile) → j < i → j < length files → path_cmp (get_or files j d).path new.path ≡ Less)
    → ((j : ℕ) (d : MemFile) → i ≤ j → j < length files → path_cmp (get_or files j d).path new.path ≡ Greater)
    → put path_cmp new.path (file_in new) (entries_of files) ≡ entries_of (insert files i new)
put-insert [] zero new before after = refl
put-insert [] (suc i) new before after = refl
put-insert (f ∷ files) zero new before after =
    ap (λ o. by_order o (entry_of new ∷ entries_of (f ∷ files)) ((f.path, file_in new) ∷ entries_of files) (entry_of f ∷ put path_cmp new.path (file_in new) (entries_of files)))
    (turned_greater f.path new.path (after 0 f (omega arith) (omega arith)))
put-insert (f ∷ files) (suc i) new before after =
    let rest = put-insert files i new (λ j d below within. before (suc j) d (omega (arith, below)) (omega (arith, within))) (λ j d above within. after (suc j) d (omega (arith, above)) (omega (arith, within))) in
    ap (λ o. by_order o (entry_of new ∷ entries_of (f ∷ files)) ((f.path, file_in new) ∷ entries_of files) (entry_of f ∷ put path_cmp new.path (file_in new) (entries_of files)))
    (turned_less f.path new.path (before 0 f (omega arith) (omega arith)))
    ∙ ap (λ (es : List (List ℕ × File)). entry_of f ∷ es) rest

-- a path that is there
pub rising-set : (files : List MemFile) (i : ℕ) (new : MemFile) → IsRising files → ((d : MemFile) → i < length files → (get_or files i d).path ≡ new.path) → IsRising (set files i new)
rising-set [] i new rising is = tt
rising-set (f ∷ files) zero new rising is = (subst (λ (p : List ℕ). IsBelowAll p files) (is f (omega arith)) rising.0, rising.1)
rising-set (f ∷ files) (suc i) new rising is = (
  below-set f.path files i new rising.0 (λ d within. is d (omega (arith, within))),
  rising-set files i new rising.1 (λ d within. is d (omega (arith, within))),
)

pub put-set : (files : List MemFile) (i : ℕ) (new : MemFile) → i < length files → ((j : ℕ) (d : MemFile) → j < i → j < length files → path_cmp (get_or files j d).path new.path ≡ Less)
    → ((d : MemFile) → (get_or files i d).path ≡ new.path) → put path_cmp new.path (file_in new) (entries_of files) ≡ entries_of (set files i new)
put-set [] i new within before is = absurd (omega (arith, within))
put-set (f ∷ files) zero new within before is =
    ap (λ o. by_order o (entry_of new ∷ entries_of (f ∷ files)) ((f.path, file_in new) ∷ entries_of files) (entry_of f ∷ put path_cmp new.path (file_in new) (entries_of files)))
    (tied_same new.path f.path (sym (is f)))
    ∙ ap (λ (p : List ℕ). (p, file_in new) ∷ entries_of files) (is f)
put-set (f ∷ files) (suc i) new within before is =
    let rest = put-set files i new (omega (arith, within)) (λ j d below inside. before (suc j) d (omega (arith, below)) (omega (arith, inside))) is in
    ap (λ o. by_order o (entry_of new ∷ entries_of (f ∷ files)) ((f.path, file_in new) ∷ entries_of files) (entry_of f ∷ put path_cmp new.path (file_in new) (entries_of files)))
    (turned_less f.path new.path (before 0 f (omega arith) (omega arith)))
    ∙ ap (λ (es : List (List ℕ × File)). entry_of f ∷ es) rest

other_path : (a b : List ℕ) → path_cmp a b ≢ Equal → is_eq (path_cmp a b) ≡ false
other_path a b other = by_cases (path_cmp a b) other
  where
    by_cases : (o : Ordering) → o ≢ Equal → is_eq o ≡ false
    by_cases Less ne = refl
    by_cases Equal ne = absurd (ne refl)
    by_cases Greater ne = refl

-- without a path that is not there
keeps_all : (path : List ℕ) (files : List MemFile) → IsBelowAll path files → where_key path_cmp (λ x. not (eq_by_cmp path_cmp path x)) (entries_of files) ≡ entries_of files
keeps_all path [] all = refl
keeps_all path (f ∷ files) all =
    let kept = where_key path_cmp (λ x. not (eq_by_cmp path_cmp path x)) (entries_of files) in
    ap (λ o. cond (not (is_eq o)) (entry_of f ∷ kept) kept) all.0 ∙ ap (λ (es : List (List ℕ × File)). entry_of f ∷ es) (keeps_all path files all.1)

pub rising-remove : (files : List MemFile) (i : ℕ) → IsRising files → IsRising (remove files i)
rising-remove [] zero rising = tt
rising-remove [] (suc i) rising = tt
rising-remove (f ∷ files) zero rising = rising.1
rising-remove (f ∷ files) (suc i) rising = (below-remove f.path files i rising.0, rising-remove files i rising.1)

-- without a path that is there
pub without-remove : (path : List ℕ) (files : List MemFile) (i : ℕ) → IsRising files → i < length files → ((d : MemFile) → (get_or files i d).path ≡ path)
    → where_key path_cmp (λ x. not (eq_by_cmp path_cmp path x)) (entries_of files) ≡ entries_of (remove files i)
without-remove path [] i rising within is = absurd (omega (arith, within))
without-remove path (f ∷ files) zero rising within is =
    let kept = where_key path_cmp (λ x. not (eq_by_cmp path_cmp path x)) (entries_of files) in
    ap (λ o. cond (not (is_eq o)) (entry_of f ∷ kept) kept) (tied_same path f.path (sym (is f)))
    ∙ keeps_all path files (subst (λ (p : List ℕ). IsBelowAll p files) (is f) rising.0)
without-remove path (f ∷ files) (suc i) rising within is =
    let kept = where_key path_cmp (λ x. not (eq_by_cmp path_cmp path x)) (entries_of files) in
    let up = below_at f.path files rising.0 i f (omega (arith, within)) in
    let down = turned_less f.path path (subst (λ (p : List ℕ). path_cmp f.path p ≡ Less) (is f) up) in
    ap (λ o. cond (not (is_eq o)) (entry_of f ∷ kept) kept) down
    ∙ ap (λ (es : List (List ℕ × File)). entry_of f ∷ es) (without-remove path files i rising.1 (omega (arith, within)) is)

-- what stands at a place is found by its path
pub find_at : (files : List MemFile) (i : ℕ) (d : MemFile) → IsRising files → i < length files → find path_cmp (get_or files i d).path (entries_of files) ≡ Some (file_in (get_or files i d))
find_at [] i d rising within = absurd (omega (arith, within))
find_at (f ∷ files) zero d rising within = ap (λ o. cond (is_eq o) (Some (file_in f)) (find path_cmp f.path (entries_of files))) (tied_same f.path f.path refl)
find_at (f ∷ files) (suc i) d rising within =
    let up = below_at f.path files rising.0 i d (omega (arith, within)) in
    ap (λ o. cond (is_eq o) (Some (file_in f)) (find path_cmp (get_or files i d).path (entries_of files))) (turned_less f.path (get_or files i d).path up)
    ∙ find_at files i d rising.1 (omega (arith, within))

-- a path that no file has is not found
pub find_none : (path : List ℕ) (files : List MemFile) → ((j : ℕ) (d : MemFile) → j < length files → (get_or files j d).path ≢ path) → find path_cmp path (entries_of files) ≡ None
find_none path [] lacks = refl
find_none path (f ∷ files) lacks =
    let other = other_path path f.path (λ tied. lacks 0 f (omega arith) (sym (tied_paths path f.path tied))) in
    ap (λ b. cond b (Some (file_in f)) (find path_cmp path (entries_of files))) other ∙ find_none path files (λ j d within. lacks (suc j) d (omega (arith, within)))

-- what is found stands somewhere
pub record StandsAt (path : List ℕ) (files : List MemFile) : Type 0 where
  pub place : ℕ
  pub within : place < length files
  pub is : (d : MemFile) → (get_or files place d).path ≡ path

pub found_somewhere : (path : List ℕ) (files : List MemFile) (v : File) → find path_cmp path (entries_of files) ≡ Some v → StandsAt path files
found_somewhere path [] v is = absurd (cc)
found_somewhere path (f ∷ files) v is = by_cases (path_cmp path f.path) refl (λ rest. found_somewhere path files v rest)
  where
    later : path_cmp path f.path ≢ Equal → (find path_cmp path (entries_of files) ≡ Some v → StandsAt path files) → StandsAt path (f ∷ files)
    later other in_rest =
        let rest : find path_cmp path (entries_of files) ≡ Some v = sym (ap (λ b. cond b (Some (file_in f)) (find path_cmp path (entries_of files))) (other_path path f.path other)) ∙ is in
        let at = in_rest rest in
        record { place = suc at.place; within = omega (arith, at.within); is = at.is }

    by_cases : (o : Ordering) → path_cmp path f.path ≡ o → (find path_cmp path (entries_of files) ≡ Some v → StandsAt path files) → StandsAt path (f ∷ files)
    by_cases Less at in_rest = later (λ tied. (let clash : Less ≡ Equal = sym at ∙ tied in cc)) in_rest
    by_cases Equal at in_rest = record { place = 0; within = omega arith; is = λ d. sym (tied_paths path f.path at) }
    by_cases Greater at in_rest = later (λ tied. (let clash : Greater ≡ Equal = sym at ∙ tied in cc)) in_rest
