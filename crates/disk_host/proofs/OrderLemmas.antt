-- Lemmas on files in the order of their paths.
use Rattle.std.proofs.Common.{◌≡◌, ◌↔◌, ◌∙◌, inl, inr, ℕ, ◌+◌, ◌-◌, ◌<◌, ◌≤◌, List, [], ◌∷◌, ◌++◌, length, get_or, take, drop, refl, sym, ap, subst, arith, is_ge, Bool, true, false, IsTrue, All, Result, Ok, Err, is_ok, length-append}
use Rattle.std.specs.Ordering.{nat_cmp, ordering_index}
use Rattle.std.specs.Cmp.Lexicographic.{slice_cmp, nat_list_cmp_total}
use Rattle.std.specs.Prelude.{pos}
use Rattle.std.specs.List.Sorted.{IsNonDecreasingBy, IsPartitionPoint, IsBinarySearchResult, IsSearchInRange}
use Rattle.std.specs.FinMap.{slice_cmp-IsAntisymmetric, nat_cmp-IsAntisymmetric}
use Rattle.std.specs.declared.cmp.Ordering.{Ordering}
use Rattle.std.specs.declared.cmp.Ordering.TheVariants.{Less, Equal, Greater}
use Rattle.std.proofs.lemmas.Cmp.{tied_itself}
use Rattle.std.proofs.lemmas.List.{append_assoc, get_or_at, get_or_default, get_or-map, length-map, take_at, take_more, take-append-drop}
use Rattle.std.proofs.lemmas.Bool.{cases_lt}
use Rattle.std.proofs.lemmas.Bool.Decides.{eqb_tells, Decides-eqb}
use Rattle.std.proofs.lemmas.Slice.Eq.{starts_is}
use Rattle.std.proofs.lemmas.List.Elements.{All-map}
use Rattle.disk_model.specs.Path.{IsValidPath}
use Rattle.disk_model.specs.Stamp.{IsStamp}
use Rattle.disk_model.specs.Tree.{is_directory_of, IsListing, IsListedBefore, listed}
use Rattle.disk_model.specs.declared.meta.Meta.{Meta}
use Rattle.disk_model.specs.declared.meta.FileInfo.{FileInfo}
use Rattle.disk_host.specs.Listing.{IsBelow, AreInOrder, HasPath, HasNoDirectoryOf, HasStamp, FitsAmong}

no_file : FileInfo
no_file = record { path = []; meta = record { size = 0; stamp = record { seconds = pos 0; nanos = 0 } } }

abbrev pub path_cmp : List ℕ → List ℕ → Ordering
path_cmp = slice_cmp nat_cmp

-- paths that are tied are equal
tied_paths : (a b : List ℕ) → path_cmp a b ≡ Equal → a ≡ b
tied_paths a b tied = slice_cmp-IsAntisymmetric nat_cmp-IsAntisymmetric a b tied

tied_same : (a b : List ℕ) → a ≡ b → path_cmp a b ≡ Equal
tied_same a b same = ap (λ (p : List ℕ). path_cmp a p) (sym same) ∙ tied_itself nat_list_cmp_total a

-- where the files before a place rise, and the next is above the last of them, they rise before the next place
pub rise_on : (files : List FileInfo) (i : ℕ) → ((a b : ℕ) (d : FileInfo) → a < b → b < i → IsBelow (get_or files a d).path (get_or files b d).path)
    → ((d : FileInfo) → IsBelow (get_or files (i - 1) d).path (get_or files i d).path)
    → (a b : ℕ) (d : FileInfo) → a < b → b < i + 1 → IsBelow (get_or files a d).path (get_or files b d).path
rise_on files i before here a b d less below =
    elim (eqb_tells b i) [
      | inr other ↦ before a b d less (omega (arith, other.1))
      | inl same ↦ elim (eqb_tells a (i - 1)) [
        | inl is ↦ subst (λ (n : ℕ). IsBelow (get_or files a d).path (get_or files n d).path) (sym same.1)
            (subst (λ (n : ℕ). IsBelow (get_or files n d).path (get_or files i d).path) (sym is.1) (here d))
        | inr other ↦
            let first : IsBelow (get_or files a d).path (get_or files (i - 1) d).path = before a (i - 1) d (omega (arith, other.1, same.1)) (omega (arith, same.1)) in
            subst (λ (n : ℕ). IsBelow (get_or files a d).path (get_or files n d).path) (sym same.1)
            (nat_list_cmp_total.trans (get_or files a d).path (get_or files (i - 1) d).path (get_or files i d).path first (here d))
      ]
    ]

-- what a comparison of neighbours says
pub step_below : (files : List FileInfo) (i j : ℕ) (d e : FileInfo) (first second : List ℕ) → i < length files → j < length files
    → first ≡ (get_or files i d).path → second ≡ (get_or files j e).path → false ≡ is_ge (path_cmp first second)
    → (other : FileInfo) → IsBelow (get_or files i other).path (get_or files j other).path
step_below files i j d e first second i_in j_in first_is second_is not_ge other =
    subst (λ (p : List ℕ). IsBelow (get_or files i other).path p) (second_is ∙ ap (λ (file : FileInfo). file.path) (get_or_default files j e other j_in))
    (subst (λ (p : List ℕ). IsBelow p second) (first_is ∙ ap (λ (file : FileInfo). file.path) (get_or_default files i d other i_in)) (less (path_cmp first second) not_ge))
  where
    less : (o : Ordering) → false ≡ is_ge o → o ≡ Less
    less Less is = refl
    less Equal is = absurd (cc)
    less Greater is = absurd (cc)

-- the answers of a search rise
rising : (path earlier later : List ℕ) → IsBelow earlier later → ordering_index (path_cmp earlier path) ≤ ordering_index (path_cmp later path)
rising path earlier later less = by_cases (path_cmp later path) refl
  where
    by_cases : (o : Ordering) → path_cmp later path ≡ o → ordering_index (path_cmp earlier path) ≤ ordering_index (path_cmp later path)
    by_cases Less is = let first : path_cmp earlier path ≡ Less = nat_list_cmp_total.trans earlier later path less is in rw (first, is) (omega arith)
    by_cases Equal is =
        let first : path_cmp earlier path ≡ Less = subst (λ (p : List ℕ). path_cmp earlier p ≡ Less) (tied_paths later path is) less in rw (first, is) (omega arith)
    by_cases Greater is = rw is (most (path_cmp earlier path))
      where
        most : (o : Ordering) → ordering_index o ≤ ordering_index Greater
        most Less = omega arith
        most Equal = omega arith
        most Greater = omega arith

files_rise : (files : List FileInfo) (path : List ℕ) → AreInOrder files → IsNonDecreasingBy (λ (file : FileInfo). ordering_index (path_cmp file.path path)) files
files_rise files path order i j d le within =
    elim (eqb_tells i j) [
      | inl same ↦ rw same.1 (omega arith)
      | inr other ↦ rising path (get_or files i d).path (get_or files j d).path (order i j d (omega (arith, other.1)) within)
    ]

nowhere : (files : List FileInfo) (path : List ℕ) (place : ℕ) → AreInOrder files
    → (IsNonDecreasingBy (λ (file : FileInfo). ordering_index (path_cmp file.path path)) files → IsPartitionPoint (λ (file : FileInfo). path_cmp file.path path ≡ Less) (λ (file : FileInfo). path_cmp file.path path ≡ Greater) files place)
    → ¬ (HasPath files path)
nowhere files path place order splits has =
    let d : FileInfo = no_file in
    let i : ℕ = has.place in
    let parts = splits (files_rise files path order) in
    let tied : path_cmp (get_or files i d).path path ≡ Equal = tied_same (get_or files i d).path path (has.is d) in
    elim (cases_lt i place) [
      | inl before ↦ let less : path_cmp (get_or files i d).path path ≡ Less = parts.0 i d (omega arith) before in cc
      | inr after ↦ let greater : path_cmp (get_or files i d).path path ≡ Greater = parts.1 i d after has.within in cc
    ]

-- a search in files in order finds a path exactly where a file has it
pub found_exactly : (files : List FileInfo) (path : List ℕ) (found : Result ℕ ℕ) → AreInOrder files → IsSearchInRange found (length files)
    → IsBinarySearchResult (λ (file : FileInfo). path_cmp file.path path) files found → IsTrue (is_ok found) ↔ HasPath files path
found_exactly files path (Ok place) order range at =
    (λ is. record { place = place; within = range; is = λ other. tied_paths (get_or files place other).path path (at other) }, λ has. refl)
found_exactly files path (Err place) order range splits = (λ is. absurd (cc), λ has. absurd (nowhere files path place order splits has))

not_true : (b : Bool) → (b ≡ true → ⊥) → b ≡ false
not_true true never = absurd (never refl)
not_true false never = refl

-- where no file has a path that ends before a slash of this one, none is a directory of it
pub none_is_directory : (files : List FileInfo) (path : List ℕ) → ((k : ℕ) → k < length path → get_or path k 0 ≡ 47 → ¬ (HasPath files (take k path))) → HasNoDirectoryOf files path
none_is_directory files path none i other within = not_true (is_directory_of directory path) nested
  where
    directory : List ℕ
    directory = (get_or files i other).path

    nested : is_directory_of directory path ≡ true → ⊥
    nested is =
        let begins : path ≡ (directory ++ 47 ∷ []) ++ drop (length (directory ++ 47 ∷ [])) path = (starts_is Decides-eqb path (directory ++ 47 ∷ []) (is_directory_of directory path) refl).0 is in
        let rest : List ℕ = drop (length (directory ++ 47 ∷ [])) path in
        let joined : path ≡ directory ++ 47 ∷ rest = begins ∙ append_assoc directory (47 ∷ []) rest in
        let end : ℕ = length directory in
        let long : length path ≡ length (directory ++ 47 ∷ rest) = ap length joined in
        let inside : end < length path = omega (arith, long, length-append directory (47 ∷ rest)) in
        let slash : get_or path end 0 ≡ 47 = ap (λ (bytes : List ℕ). get_or bytes end 0) joined ∙ get_or_at directory 47 rest 0 end refl in
        let front : take end path ≡ directory = ap (λ (bytes : List ℕ). take end bytes) joined ∙ take_at directory (47 ∷ rest) end refl in
        none end inside slash (record { place = i; within = within; is = λ d. ap (λ (file : FileInfo). file.path) (get_or_default files i d other within) ∙ sym front })

-- files whose paths rise and fit among one another are a listing
pub makes_listing : (files : List FileInfo) → AreInOrder files → All (FitsAmong files) files → All HasStamp files → IsListing (listed files)
makes_listing files order fits stamps = record {
  order = λ i j d less within.
      let i_in : i < length files = omega (arith, length-map files entry) in
      let j_in : j < length files = omega (arith, length-map files entry) in
      subst (λ (b : List ℕ × Meta). IsListedBefore (get_or (listed files) i d).0 b.0) (sym (get_or-map entry files j no_file d j_in))
      (subst (λ (a : List ℕ × Meta). IsListedBefore a.0 (get_or files j no_file).path) (sym (get_or-map entry files i no_file d i_in))
      (record {
        less = order i j no_file less j_in;
        no_directory = (fits j no_file j_in).apart i no_file i_in;
        not_inside = (fits i no_file i_in).apart j no_file j_in;
      }));
  valid = All-map (λ (f : List ℕ × Meta). IsValidPath f.0) entry files (λ k d within. (fits k d within).valid);
  stamps = All-map (λ (f : List ℕ × Meta). IsStamp f.1.stamp) entry files stamps;
}
  where
    entry : FileInfo → List ℕ × Meta
    entry f = (f.path, f.meta)

-- a file with a path that ends before a slash of this one is a directory of it
pub some_is_directory : (files : List FileInfo) (path : List ℕ) (end : ℕ) → end < length path → get_or path end 0 ≡ 47 → HasPath files (take end path) → ¬ (HasNoDirectoryOf files path)
some_is_directory files path end within slash has none =
    let front : take (end + 1) path ≡ take end path ++ 47 ∷ [] = take_more path end 0 within ∙ ap (λ (byte : ℕ). take end path ++ byte ∷ []) slash in
    let begins : path ≡ (take end path ++ 47 ∷ []) ++ drop (end + 1) path = sym (take-append-drop (end + 1) path) ∙ ap (λ (bytes : List ℕ). bytes ++ drop (end + 1) path) front in
    let yes : is_directory_of (take end path) path ≡ true = (starts_is Decides-eqb path (take end path ++ 47 ∷ []) (is_directory_of (take end path) path) refl).1 (drop (end + 1) path) begins in
    let no : is_directory_of (get_or files has.place no_file).path path ≡ false = none has.place no_file has.within in
    let same : is_directory_of (get_or files has.place no_file).path path ≡ is_directory_of (take end path) path = ap (λ (p : List ℕ). is_directory_of p path) (has.is no_file) in
    cc

-- no path is a directory of itself
not_its_own : (path : List ℕ) → is_directory_of path path ≡ false
not_its_own path = not_true (is_directory_of path path) (λ is.
    let rest : List ℕ = drop (length (path ++ 47 ∷ [])) path in
    let begins : path ≡ (path ++ 47 ∷ []) ++ rest = (starts_is Decides-eqb path (path ++ 47 ∷ []) (is_directory_of path path) refl).0 is in
    let long : length path ≡ length ((path ++ 47 ∷ []) ++ rest) = ap length begins in
    absurd (omega (arith, long, length-append (path ++ 47 ∷ []) rest, length-append path (47 ∷ []))))

abbrev entry_of : FileInfo → List ℕ × Meta
entry_of f = (f.path, f.meta)

-- the path of a listed file
path_at : (files : List FileInfo) (i : ℕ) → i < length files → (get_or (listed files) i (entry_of no_file)).0 ≡ (get_or files i no_file).path
path_at files i within = ap (λ (e : List ℕ × Meta). e.0) (get_or-map entry_of files i no_file (entry_of no_file) within)

listed_before : (files : List FileInfo) → IsListing (listed files) → (i j : ℕ) → i < j → j < length files → IsListedBefore (get_or files i no_file).path (get_or files j no_file).path
listed_before files is i j less within =
    let before : IsListedBefore (get_or (listed files) i (entry_of no_file)).0 (get_or (listed files) j (entry_of no_file)).0 = is.order i j (entry_of no_file) less (omega (arith, within, length-map files entry_of)) in
    subst (λ (p : List ℕ). IsListedBefore (get_or files i no_file).path p) (path_at files j within)
    (subst (λ (p : List ℕ). IsListedBefore p (get_or (listed files) j (entry_of no_file)).0) (path_at files i (omega (arith, less, within))) before)

-- the files of a listing rise, and fit among one another
pub listing_rises : (files : List FileInfo) → IsListing (listed files) → AreInOrder files
listing_rises files is i j d less within =
    subst (λ (f : FileInfo). IsBelow f.path (get_or files j d).path) (sym (get_or_default files i d no_file (omega (arith, less, within))))
    (subst (λ (f : FileInfo). IsBelow (get_or files i no_file).path f.path) (sym (get_or_default files j d no_file within)) (listed_before files is i j less within).less)

pub listing_fits : (files : List FileInfo) → IsListing (listed files) → All (FitsAmong files) files
listing_fits files is k d within = subst (FitsAmong files) (sym (get_or_default files k d no_file within)) (record {
  valid = subst IsValidPath (path_at files k within) (is.valid k (entry_of no_file) (omega (arith, within, length-map files entry_of)));
  apart = λ i other i_in. subst (λ (f : FileInfo). is_directory_of f.path (get_or files k no_file).path ≡ false) (sym (get_or_default files i other no_file i_in)) (elim (eqb_tells i k) [
    | inl same ↦ subst (λ (n : ℕ). is_directory_of (get_or files n no_file).path (get_or files k no_file).path ≡ false) (sym same.1) (not_its_own (get_or files k no_file).path)
    | inr other_place ↦ elim (cases_lt i k) [
      | inl before ↦ (listed_before files is i k (omega arith) within).no_directory
      | inr after ↦ (listed_before files is k i (omega (arith, other_place.1)) i_in).not_inside
    ]
  ]);
})
