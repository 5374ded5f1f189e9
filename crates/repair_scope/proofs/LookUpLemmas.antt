-- Look-ups in listed files, which stand in the order of their paths.
use Rattle.std.proofs.Common.{◌≡◌, ◌≢◌, inl, inr, ℕ, zero, suc, ◌+◌, ◌<◌, ◌≤◌, List, [], ◌∷◌, ◌++◌, length, get_or, take, drop, Bool, true, false, cond, refl, sym, ap, ◌∙◌, subst, arith, Option, None, Some, is_some, All, ltb, append_assoc, length-append}
use Rattle.std.specs.List.{AllPairs, list_any, starts_with}
use Rattle.std.specs.Prelude.{nat_eq, bytes_eq, ◌||◌}
use Rattle.std.specs.Ordering.{nat_cmp, ordering_index}
use Rattle.std.specs.Cmp.Lexicographic.{nat_list_cmp_total}
use Rattle.std.specs.List.Sorted.{IsNonDecreasingBy, IsPartitionPoint}
use Rattle.std.specs.FinMap.{slice_cmp-IsAntisymmetric, nat_cmp-IsAntisymmetric}
use Rattle.std.specs.declared.cmp.Ordering.{Ordering}
use Rattle.std.specs.declared.cmp.Ordering.TheVariants.{Less, Equal, Greater}
use Rattle.std.proofs.lemmas.Cmp.{tied_itself, nat_cmp_total}
use Rattle.std.proofs.lemmas.List.{get_or-map, length-map, get_or_default, take_at, get_or_at, take-append-drop, drop_more}
use Rattle.std.proofs.lemmas.List.Folds.{list_any_at, list_any_none}
use Rattle.std.proofs.lemmas.Bool.{cases_lt, ltb-true}
use Rattle.std.proofs.lemmas.Bool.Decides.{eqb_tells, Decides-eqb}
use Rattle.std.proofs.lemmas.Slice.Eq.{bytes_eq-Decides, starts_is}
use Rattle.disk_model.specs.Tree.{IsListing, listed, is_directory_of}
use Rattle.disk_model.specs.declared.meta.FileInfo.{FileInfo}
use Rattle.disk_model.specs.declared.meta.Meta.{Meta}
use Rattle.folder_listing.specs.Kept.{ListedFile}
use Rattle.repair_scope.specs.Listed.{path_cmp, SplitsAt}
use Rattle.repair_scope.specs.Blocked.{found_in, is_inside_one}

-- ---- paths in order

pub tied_paths : (a b : List ℕ) → path_cmp a b ≡ Equal → a ≡ b
tied_paths a b tied = slice_cmp-IsAntisymmetric nat_cmp-IsAntisymmetric a b tied

-- a path is not less than itself
pub not_itself : (a : List ℕ) → path_cmp a a ≢ Less
not_itself a less = let tied : path_cmp a a ≡ Equal = tied_itself nat_list_cmp_total a in cc

-- what begins with some bytes is not less than they
pub not_less : (bytes rest : List ℕ) → path_cmp (bytes ++ rest) bytes ≢ Less
not_less [] [] less = cc
not_less [] (b ∷ rest) less = cc
not_less (b ∷ bytes) rest less =
    let tied : nat_cmp b b ≡ Equal = tied_itself nat_cmp_total b in
    not_less bytes rest (rw tied at less)

-- what stands between some bytes and something that begins with them begins with them too
pub between : (bytes path rest : List ℕ) → path_cmp path bytes ≢ Less → path_cmp path (bytes ++ rest) ≡ Less → (more : List ℕ) × (path ≡ bytes ++ more)
between [] path rest low high = (path, refl)
between (b ∷ bytes) [] rest low high = absurd (low refl)
between (b ∷ bytes) (p ∷ path) rest low high = by (nat_cmp p b) refl low high (λ l h. between bytes path rest l h)
  where
    by : (o : Ordering) → nat_cmp p b ≡ o → path_cmp (p ∷ path) (b ∷ bytes) ≢ Less → path_cmp (p ∷ path) (b ∷ (bytes ++ rest)) ≡ Less
        → (path_cmp path bytes ≢ Less → path_cmp path (bytes ++ rest) ≡ Less → (more : List ℕ) × (path ≡ bytes ++ more))
        → (more : List ℕ) × (p ∷ path ≡ b ∷ (bytes ++ more))
    by Less is low high further = absurd (low (rw is refl))
    by Equal is low high further =
        let same : p ≡ b = nat_cmp-IsAntisymmetric p b is in
        let low_there = rw is at low in
        let high_there = rw is at high in
        let there = further low_there high_there in
        let whole : p ∷ path ≡ b ∷ (bytes ++ there.0) = ap (λ (x : ℕ). x ∷ path) same ∙ ap (λ (xs : List ℕ). b ∷ xs) there.1 in
        (there.0, whole)
    by Greater is low high further = absurd (let high_there = rw is at high in cc)

-- ---- files in order

abbrev pub InOrder : List FileInfo → Type 0
InOrder files = AllPairs (λ (a b : FileInfo). path_cmp a.path b.path ≡ Less) files

abbrev file_listed : FileInfo → ListedFile
file_listed file = (file.path, file.meta)

pub in_order : (files : List FileInfo) → IsListing (listed files) → InOrder files
in_order files is i j d less within =
    let long : length (listed files) ≡ length files = length-map files file_listed in
    let before = (is.order i j (file_listed d) less (omega arith)).less in
    let first : get_or (listed files) i (file_listed d) ≡ file_listed (get_or files i d) = get_or-map file_listed files i d (file_listed d) (omega arith) in
    let second : get_or (listed files) j (file_listed d) ≡ file_listed (get_or files j d) = get_or-map file_listed files j d (file_listed d) within in
    subst (λ (f : ListedFile). path_cmp (get_or files i d).path f.0 ≡ Less) second
    (subst (λ (f : ListedFile). path_cmp f.0 (get_or (listed files) j (file_listed d)).0 ≡ Less) first before)

-- the answers of a search rise
rising : (path earlier later : List ℕ) → path_cmp earlier later ≡ Less → ordering_index (path_cmp earlier path) ≤ ordering_index (path_cmp later path)
rising path earlier later less = by_cases (path_cmp later path) refl
  where
    by_cases : (o : Ordering) → path_cmp later path ≡ o → ordering_index (path_cmp earlier path) ≤ ordering_index (path_cmp later path)
    by_cases Less is = let first : path_cmp earlier path ≡ Less = nat_list_cmp_total.trans earlier later path less is in rw (first, is) (omega arith)
    by_cases Equal is =
        let first : path_cmp earlier path ≡ Less = subst (λ (p : List ℕ). path_cmp earlier p ≡ Less) (tied_paths later path is) less in rw (first, is) (omega arith)
    by_cases Greater is = rw is (most (path_cmp earlier path))
      where
        most : (o : Ordering) → ordering_index o ≤ ordering_index Greater
        most Less = omega arith
        most Equal = omega arith
        most Greater = omega arith

pub files_rise : (files : List FileInfo) (path : List ℕ) → InOrder files → IsNonDecreasingBy (λ (file : FileInfo). ordering_index (path_cmp file.path path)) files
files_rise files path order i j d le within =
    elim (eqb_tells i j) [
      | inl same ↦ rw same.1 (omega arith)
      | inr other ↦ rising path (get_or files i d).path (get_or files j d).path (order i j d (omega (arith, other.1)) within)
    ]

-- ---- where a search ends

pub split_tied : (files : List FileInfo) (bytes : List ℕ) (place : ℕ) → InOrder files → place < length files → ((d : FileInfo) → path_cmp (get_or files place d).path bytes ≡ Equal) → SplitsAt files bytes place
split_tied files bytes place order within tied = record {
  before = λ i d less _.
      subst (λ (p : List ℕ). path_cmp (get_or files i d).path p ≡ Less) (tied_paths (get_or files place d).path bytes (tied d)) (order i place d less within);
  behind = λ i d from inside less.
      let same : (get_or files place d).path ≡ bytes = tied_paths (get_or files place d).path bytes (tied d) in
      elim (eqb_tells place i) [
        | inl here ↦ not_itself bytes (subst (λ (p : List ℕ). path_cmp p bytes ≡ Less) same (subst (λ (k : ℕ). path_cmp (get_or files k d).path bytes ≡ Less) (sym here.1) less))
        | inr other ↦
            let above : path_cmp bytes (get_or files i d).path ≡ Less = subst (λ (p : List ℕ). path_cmp p (get_or files i d).path ≡ Less) same (order place i d (omega (arith, other.1)) inside) in
            not_itself bytes (nat_list_cmp_total.trans bytes (get_or files i d).path bytes above less)
      ];
}

pub split_between : (files : List FileInfo) (bytes : List ℕ) (place : ℕ) → InOrder files
    → (IsNonDecreasingBy (λ (file : FileInfo). ordering_index (path_cmp file.path bytes)) files
    → IsPartitionPoint (λ (file : FileInfo). path_cmp file.path bytes ≡ Less) (λ (file : FileInfo). path_cmp file.path bytes ≡ Greater) files place)
    → SplitsAt files bytes place
split_between files bytes place order splits =
    let parts = splits (files_rise files bytes order) in
    record {
      before = λ i d less _. parts.0 i d (omega arith) less;
      behind = λ i d from inside less. let greater : path_cmp (get_or files i d).path bytes ≡ Greater = parts.1 i d from inside in cc;
    }

-- ---- the file of a path

apart_paths : (a b : List ℕ) → a ≢ b → bytes_eq a b ≡ false
apart_paths a b apart = by (bytes_eq a b) refl
  where
    by : (t : Bool) → bytes_eq a b ≡ t → bytes_eq a b ≡ false
    by true is = absurd (apart ((bytes_eq-Decides a b).0 is))
    by false is = is

rest_in_order : (file : FileInfo) (files : List FileInfo) → InOrder (file ∷ files) → InOrder files
rest_in_order file files order i j d less within = order (suc i) (suc j) d (omega arith) (omega arith)

pub found_at : (files : List FileInfo) (path : List ℕ) (i : ℕ) (d : FileInfo) → InOrder files → i < length files → (get_or files i d).path ≡ path
    → found_in (listed files) path ≡ Some (get_or files i d).meta
found_at [] path i d order within is = absurd (omega arith)
found_at (file ∷ files) path zero d order within is = ap (λ (t : Bool). cond t (Some file.meta) (found_in (listed files) path)) ((bytes_eq-Decides file.path path).1 is)
found_at (file ∷ files) path (suc i) d order within is =
    let less : path_cmp file.path path ≡ Less = subst (λ (p : List ℕ). path_cmp file.path p ≡ Less) is (order 0 (suc i) d (omega arith) within) in
    let apart : file.path ≢ path = λ same. not_itself path (subst (λ (p : List ℕ). path_cmp p path ≡ Less) same less) in
    ap (λ (t : Bool). cond t (Some file.meta) (found_in (listed files) path)) (apart_paths file.path path apart)
    ∙ found_at files path i d (rest_in_order file files order) (omega arith) is

pub found_nowhere : (files : List FileInfo) (path : List ℕ) → All (λ (file : FileInfo). file.path ≢ path) files → found_in (listed files) path ≡ None
found_nowhere [] path none = refl
found_nowhere (file ∷ files) path none =
    ap (λ (t : Bool). cond t (Some file.meta) (found_in (listed files) path)) (apart_paths file.path path (none 0 file (omega arith)))
    ∙ found_nowhere files path (λ i d within. none (suc i) d (omega arith))

-- between the files of a place none has the path
pub found_between : (files : List FileInfo) (path : List ℕ) (place : ℕ) → InOrder files
    → (IsNonDecreasingBy (λ (file : FileInfo). ordering_index (path_cmp file.path path)) files
    → IsPartitionPoint (λ (file : FileInfo). path_cmp file.path path ≡ Less) (λ (file : FileInfo). path_cmp file.path path ≡ Greater) files place)
    → found_in (listed files) path ≡ None
found_between files path place order splits =
    let parts = splits (files_rise files path order) in
    found_nowhere files path (λ i d within same.
    let tied : path_cmp (get_or files i d).path path ≡ Equal = ap (λ (p : List ℕ). path_cmp p path) same ∙ tied_itself nat_list_cmp_total path in
    elim (cases_lt i place) [
      | inl before ↦ let less : path_cmp (get_or files i d).path path ≡ Less = parts.0 i d (omega arith) before in cc
      | inr after ↦ let greater : path_cmp (get_or files i d).path path ≡ Greater = parts.1 i d after within in cc
    ])

-- ---- a file whose path begins with some bytes

abbrev begins : List ℕ → ListedFile → Bool
begins bytes file = starts_with nat_eq file.0 bytes

begins_with : (bytes path : List ℕ) → starts_with nat_eq path bytes ≡ true → path ≡ bytes ++ drop (length bytes) path
begins_with bytes path is = (starts_is Decides-eqb path bytes (starts_with nat_eq path bytes) refl).0 is

begins_so : (bytes path rest : List ℕ) → path ≡ bytes ++ rest → starts_with nat_eq path bytes ≡ true
begins_so bytes path rest is = (starts_is Decides-eqb path bytes (starts_with nat_eq path bytes) refl).1 rest is

not_true : (b : Bool) → b ≢ true → b ≡ false
not_true true apart = absurd (apart refl)
not_true false apart = refl

pub one_begins : (files : List FileInfo) (bytes : List ℕ) (place : ℕ) (d : FileInfo) → place < length files → starts_with nat_eq (get_or files place d).path bytes ≡ true
    → list_any (begins bytes) (listed files) ≡ true
one_begins files bytes place d within is =
    let long : length (listed files) ≡ length files = length-map files file_listed in
    let here : get_or (listed files) place (file_listed d) ≡ file_listed (get_or files place d) = get_or-map file_listed files place d (file_listed d) within in
    list_any_at (begins bytes) (listed files) place (file_listed d) (omega arith) (ap (begins bytes) here ∙ is)

-- where the first that is not less does not begin with the bytes, none does
none_at : (files : List FileInfo) (bytes : List ℕ) (place : ℕ) → InOrder files → SplitsAt files bytes place
    → ((d : FileInfo) → place < length files → starts_with nat_eq (get_or files place d).path bytes ≡ false)
    → (i : ℕ) (d : FileInfo) → i < length files → starts_with nat_eq (get_or files i d).path bytes ≢ true
none_at files bytes place order splits here i d within is =
    let path : List ℕ = (get_or files i d).path in
    let rest : List ℕ = drop (length bytes) path in
    let whole : path ≡ bytes ++ rest = begins_with bytes path is in
    elim (cases_lt i place) [
      | inl before ↦ not_less bytes rest (subst (λ (p : List ℕ). path_cmp p bytes ≡ Less) whole (splits.before i d before within))
      | inr after ↦ elim (eqb_tells place i) [
        | inl same ↦ let no : starts_with nat_eq path bytes ≡ false = subst (λ (k : ℕ). starts_with nat_eq (get_or files k d).path bytes ≡ false) same.1 (here d (omega (arith, same.1))) in cc
        | inr other ↦
            let first : List ℕ = (get_or files place d).path in
            let below : place < i = omega (arith, other.1) in
            let high : path_cmp first (bytes ++ rest) ≡ Less = subst (λ (p : List ℕ). path_cmp first p ≡ Less) whole (order place i d below within) in
            let low : path_cmp first bytes ≢ Less = splits.behind place d (omega arith) (omega arith) in
            let more = between bytes first rest low high in
            let yes : starts_with nat_eq first bytes ≡ true = begins_so bytes first more.0 more.1 in
            let no : starts_with nat_eq first bytes ≡ false = here d (omega arith) in
            cc
      ]
    ]

pub none_begins : (files : List FileInfo) (bytes : List ℕ) (place : ℕ) → InOrder files → SplitsAt files bytes place
    → ((d : FileInfo) → place < length files → starts_with nat_eq (get_or files place d).path bytes ≡ false)
    → list_any (begins bytes) (listed files) ≡ false
none_begins files bytes place order splits here =
    none_through files (λ i d within. not_true (starts_with nat_eq (get_or files i d).path bytes) (none_at files bytes place order splits here i d within))
  where
    none_through : (some : List FileInfo) → All (λ (file : FileInfo). starts_with nat_eq file.path bytes ≡ false) some → list_any (begins bytes) (listed some) ≡ false
    none_through [] none = refl
    none_through (file ∷ some) none =
        ap (λ (t : Bool). t || list_any (begins bytes) (listed some)) (none 0 file (omega arith))
        ∙ none_through some (λ i d within. none (suc i) d (omega arith))

-- what the first file that is not less says is so of all
pub begins_at : (files : List FileInfo) (bytes : List ℕ) (place : ℕ) (answer : Bool) (d : FileInfo) → InOrder files → SplitsAt files bytes place → place < length files
    → answer ≡ starts_with nat_eq (get_or files place d).path bytes → answer ≡ list_any (begins bytes) (listed files)
begins_at files bytes place true d order splits within is = sym (one_begins files bytes place d within (sym is))
begins_at files bytes place false d order splits within is =
    sym (none_begins files bytes place order splits (λ e inside. ap (λ (file : FileInfo). starts_with nat_eq file.path bytes) (get_or_default files place e d inside) ∙ sym is))

pub begins_nowhere : (files : List FileInfo) (bytes : List ℕ) (place : ℕ) → InOrder files → SplitsAt files bytes place → length files ≤ place → list_any (begins bytes) (listed files) ≡ false
begins_nowhere files bytes place order splits past = none_begins files bytes place order splits (λ d inside. absurd (omega arith))

-- ---- a path inside a listed file

-- what is listed is found
found_some : (files : List ListedFile) (i : ℕ) (d : ListedFile) → i < length files → is_some (found_in files (get_or files i d).0) ≡ true
found_some [] i d within = absurd (omega arith)
found_some (file ∷ files) zero d within = ap (λ (t : Bool). is_some (cond t (Some file.1) (found_in files file.0))) ((bytes_eq-Decides file.0 file.0).1 refl)
found_some (file ∷ files) (suc i) d within = either (bytes_eq file.0 (get_or files i d).0) (found_in files (get_or files i d).0) (found_some files i d (omega arith))
  where
    either : (t : Bool) (o : Option Meta) → is_some o ≡ true → is_some (cond t (Some file.1) o) ≡ true
    either true o is = refl
    either false o is = is

-- a file with the path of what stands before a slash
inside_found : (files : List ListedFile) (front rest path : List ℕ) → path ≡ front ++ 47 ∷ rest → is_some (found_in files front) ≡ true → is_inside_one files path ≡ true
inside_found [] front rest path whole found = absurd cc
inside_found (file ∷ files) front rest path whole found = by (bytes_eq file.0 front) refl found (λ f. inside_found files front rest path whole f)
  where
    here : file.0 ≡ front → is_directory_of file.0 path ≡ true
    here same =
        begins_so (file.0 ++ 47 ∷ []) path rest
        (whole ∙ ap (λ (xs : List ℕ). xs ++ 47 ∷ rest) (sym same) ∙ sym (append_assoc file.0 (47 ∷ []) rest))

    or_true : (t : Bool) → (t || true) ≡ true
    or_true true = refl
    or_true false = refl

    by : (t : Bool) → bytes_eq file.0 front ≡ t → is_some (cond t (Some file.1) (found_in files front)) ≡ true → (is_some (found_in files front) ≡ true → is_inside_one files path ≡ true)
        → (is_directory_of file.0 path || is_inside_one files path) ≡ true
    by true is found further = ap (λ (t : Bool). t || is_inside_one files path) (here ((bytes_eq-Decides file.0 front).0 is))
    by false is found further = ap (λ (t : Bool). is_directory_of file.0 path || t) (further found) ∙ or_true (is_directory_of file.0 path)

pub inside_at : (files : List ListedFile) (path : List ℕ) (end : ℕ) → end < length path → get_or path end 0 ≡ 47 → is_some (found_in files (take end path)) ≡ true → is_inside_one files path ≡ true
inside_at files path end within slash found =
    let split : path ≡ take end path ++ get_or path end 0 ∷ drop (end + 1) path = sym (take-append-drop end path) ∙ ap (λ (rest : List ℕ). take end path ++ rest) (drop_more path end 0 within) in
    inside_found files (take end path) (drop (end + 1) path) path (split ∙ ap (λ (byte : ℕ). take end path ++ byte ∷ drop (end + 1) path) slash) found

pub inside_nowhere : (files : List ListedFile) (path : List ℕ) → ((k : ℕ) → k < length path → get_or path k 0 ≡ 47 → is_some (found_in files (take k path)) ≡ false) → is_inside_one files path ≡ false
inside_nowhere files path none =
    list_any_none (λ (file : ListedFile). is_directory_of file.0 path) files (λ i d within. not_true (is_directory_of (get_or files i d).0 path) (λ is.
    let front : List ℕ = (get_or files i d).0 in
    let rest : List ℕ = drop (length (front ++ 47 ∷ [])) path in
    let whole : path ≡ front ++ 47 ∷ rest = begins_with (front ++ 47 ∷ []) path is ∙ append_assoc front (47 ∷ []) rest in
    let end : ℕ = length front in
    let inside : end < length path = omega (arith, ap length whole, length-append front (47 ∷ rest)) in
    let slash : get_or path end 0 ≡ 47 = ap (λ (bytes : List ℕ). get_or bytes end 0) whole ∙ get_or_at front 47 rest 0 end refl in
    let before : take end path ≡ front = ap (λ (bytes : List ℕ). take end bytes) whole ∙ take_at front (47 ∷ rest) end refl in
    let yes : is_some (found_in files (take end path)) ≡ true = ap (λ (p : List ℕ). is_some (found_in files p)) before ∙ found_some files i d within in
    let no : is_some (found_in files (take end path)) ≡ false = none end inside slash in
    cc))

pub not_below : (m n : ℕ) → n ≤ m → ltb m n ≡ false
not_below m n le = not_true (ltb m n) (λ is. let less : m < n = ltb-true m n is in absurd (omega (arith, less, le)))
