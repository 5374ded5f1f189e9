-- A folder as it was listed: where the file of a record stands, and that it may stand there.
use Rattle.std.proofs.Common.{◌≡◌, ◌≢◌, ◌⊎◌, inl, inr, ℕ, List, [], ◌∷◌, length, map, cond, Bool, true, false, not, Option, None, Some, is_some, refl, sym, ap, ap₂, ◌∙◌, subst}
use Rattle.std.specs.Prelude.{bytes_eq, ◌&&◌, ◌||◌}
use Rattle.std.specs.List.{list_any}
use Rattle.std.specs.Option.{option_map}
use Rattle.std.specs.FinMap as finite_map
use Rattle.std.specs.FinMap.{find, get-entries}
use Rattle.std.specs.Ordering.{is_eq}
use Rattle.std.specs.Cmp.Lexicographic.{nat_list_cmp_total}
use Rattle.std.specs.declared.cmp.Ordering.{Ordering}
use Rattle.std.specs.declared.cmp.Ordering.TheVariants.{Less, Equal, Greater}
use Rattle.std.proofs.lemmas.Cmp.{tied_itself}
use Rattle.std.proofs.lemmas.Slice.Eq.{bytes_eq-Decides}
use Rattle.disk_model.specs.Tree.{Tree, File, IsApart, file_of, is_directory_of, listing_of, meta_of, path_of}
use Rattle.disk_model.proofs.TreeLemmas.{own_name}
use Rattle.folder_listing.specs.Kept.{ListedFile}
use Rattle.stripe_reader.specs.declared.starts.Start.{Start}
use Rattle.file_restorer.specs.declared.state.FileState.{FileState}
use Rattle.repair_scope.specs.Listed.{path_cmp}
use Rattle.file_restorer.specs.Mending.{IsFree}
use Rattle.repair_scope.specs.Blocked.{found_in, holds_one, is_blocked, is_inside_one}
use Rattle.stripe_examiner.specs.Place.{start_by, start_of}
use Rattle.file_restorer.specs.State.{HoldsRecord, Write, bytes_or, first_state, place_by}
use Rattle.repair_scope.proofs.LookUpLemmas.{tied_paths}

-- ---- what is found in the listing of a tree is what the tree holds

-- two tests of the same path
same_test : (path key : List ℕ) → bytes_eq key path ≡ is_eq (path_cmp path key)
same_test path key = by (path_cmp path key) refl
  where
    not_same : path_cmp path key ≢ Equal → (b : Bool) → bytes_eq key path ≡ b → bytes_eq key path ≡ false
    not_same apart true is =
        let same : key ≡ path = (bytes_eq-Decides key path).0 is in
        absurd (apart (subst (λ (p : List ℕ). path_cmp path p ≡ Equal) (sym same) (tied_itself nat_list_cmp_total path)))
    not_same apart false is = is

    by : (o : Ordering) → path_cmp path key ≡ o → bytes_eq key path ≡ is_eq o
    by Less at = not_same (λ tied. let clash : Less ≡ Equal = sym at ∙ tied in cc) (bytes_eq key path) refl
    by Equal at = (bytes_eq-Decides key path).1 (sym (tied_paths path key at))
    by Greater at = not_same (λ tied. let clash : Greater ≡ Equal = sym at ∙ tied in cc) (bytes_eq key path) refl

abbrev entry_listed : (List ℕ × File) → ListedFile
entry_listed e = (e.0, meta_of e.1)

found_entries : (es : List (List ℕ × File)) (path : List ℕ) → found_in (map entry_listed es) path ≡ option_map meta_of (find path_cmp path es)
found_entries [] path = refl
found_entries (e ∷ es) path =
    ap (λ (b : Bool). cond b (Some (meta_of e.1)) (found_in (map entry_listed es) path)) (same_test path e.0)
    ∙ by (is_eq (path_cmp path e.0)) (found_entries es path)
  where
    by : (b : Bool) → found_in (map entry_listed es) path ≡ option_map meta_of (find path_cmp path es)
        → cond b (Some (meta_of e.1)) (found_in (map entry_listed es) path) ≡ option_map meta_of (cond b (Some e.1) (find path_cmp path es))
    by true further = refl
    by false further = further

pub found_tree : (tree : Tree) (path : List ℕ) → found_in (listing_of tree) path ≡ option_map meta_of (file_of tree path)
found_tree tree path = found_entries (finite_map.entries tree) path ∙ ap (option_map meta_of) (sym (get-entries tree path))

-- ---- where no file stands in the way

or_true : (b : Bool) → (b || true) ≡ true
or_true true = refl
or_true false = refl

any_found : (p : List ℕ → Bool) (files : List ListedFile) (name : List ℕ) → is_some (found_in files name) ≡ true → p name ≡ true
    → list_any (λ (file : ListedFile). p file.0) files ≡ true
any_found p [] name found is = absurd cc
any_found p (file ∷ files) name found is = by (bytes_eq file.0 name) refl found (λ f. any_found p files name f is)
  where
    by : (t : Bool) → bytes_eq file.0 name ≡ t → is_some (cond t (Some file.1) (found_in files name)) ≡ true
        → (is_some (found_in files name) ≡ true → list_any (λ (f : ListedFile). p f.0) files ≡ true)
        → (p file.0 || list_any (λ (f : ListedFile). p f.0) files) ≡ true
    by true same there further =
        ap (λ (b : Bool). b || list_any (λ (f : ListedFile). p f.0) files) (ap p ((bytes_eq-Decides file.0 name).0 same) ∙ is)
    by false other there further = ap (λ (b : Bool). p file.0 || b) (further there) ∙ or_true (p file.0)

is_file : (o : Option File) → o ≢ None → is_some (option_map meta_of o) ≡ true
is_file None apart = absurd (apart refl)
is_file (Some file) apart = refl

not_true : (b : Bool) → (b ≡ true → ⊥) → b ≡ false
not_true true wrong = absurd (wrong refl)
not_true false wrong = refl

-- where the test of names finds no listed file, no file's name passes it
none_passes : (p : List ℕ → Bool) (tree : Tree) → list_any (λ (file : ListedFile). p file.0) (listing_of tree) ≡ false
    → (name : List ℕ) → file_of tree name ≢ None → p name ≡ false
none_passes p tree none name there = not_true (p name) (λ is.
    let found : is_some (found_in (listing_of tree) name) ≡ true = ap is_some (found_tree tree name) ∙ is_file (file_of tree name) there in
    let clash : true ≡ false = sym (any_found p (listing_of tree) name found is) ∙ none in
    cc)

neither : (a b : Bool) → (a || b) ≡ false → (a ≡ false) × (b ≡ false)
neither true b is = let clash : true ≡ false = is in absurd cc
neither false b is = (refl, is)

pub there_is : (o : Option File) (file : File) → o ≡ Some file → o ≢ None
there_is o file is none = let clash : Some file ≡ None = sym is ∙ none in cc

-- The file of a path that isn't blocked by what a folder lists may stand there.
pub free_of : (tree : Tree) (path : List ℕ) → is_blocked (listing_of tree) path ≡ false → IsFree tree path
free_of tree path free = record {
  plain = by (is_some (found_in (listing_of tree) path)) refl parts.0;
  lost = none_passes (λ name. is_directory_of (path_of path true) name) tree parts.1;
}
  where
    parts : ((not (is_some (found_in (listing_of tree) path)) && (is_inside_one (listing_of tree) path || holds_one (listing_of tree) path)) ≡ false)
        × (holds_one (listing_of tree) (path_of path true) ≡ false)
    parts = neither (not (is_some (found_in (listing_of tree) path)) && (is_inside_one (listing_of tree) path || holds_one (listing_of tree) path)) (holds_one (listing_of tree) (path_of path true)) free

    by : (found : Bool) → is_some (found_in (listing_of tree) path) ≡ found
        → (not found && (is_inside_one (listing_of tree) path || holds_one (listing_of tree) path)) ≡ false
        → (file_of tree path ≢ None) ⊎ IsApart tree path
    by true found way = inl (λ none.
        let lost : is_some (found_in (listing_of tree) path) ≡ false = ap is_some (found_tree tree path) ∙ ap (λ (o : Option File). is_some (option_map meta_of o)) none in
        let clash : true ≡ false = sym found ∙ lost in
        cc)
    by false found way = inr (λ other file there.
        let both = neither (is_inside_one (listing_of tree) path) (holds_one (listing_of tree) path) way in (
          none_passes (λ name. is_directory_of name path) tree both.0 other (there_is (file_of tree other) file there),
          none_passes (λ name. is_directory_of path name) tree both.1 other (there_is (file_of tree other) file there),
        ))

-- ---- where the file of a record stands at first, and that nothing was done to it

start_tree : (tree : Tree) (path : List ℕ) → start_of (listing_of tree) path
    ≡ start_by (option_map meta_of (file_of tree (path_of path false))) (option_map meta_of (file_of tree (path_of path true)))
start_tree tree path =
    ap₂ start_by (found_tree tree path ∙ ap (λ (p : List ℕ). option_map meta_of (file_of tree p)) (sym (own_name path))) (found_tree tree (path_of path true))

place_is : (one two : Option File) → (start_by (option_map meta_of one) (option_map meta_of two)).place ≡ place_by one two
place_is (Some file) two = refl
place_is None (Some file) = refl
place_is None None = refl

size_is : (one two : Option File) → (start_by (option_map meta_of one) (option_map meta_of two)).size ≡ length (bytes_or one (bytes_or two []))
size_is (Some file) two = refl
size_is None (Some file) = refl
size_is None None = refl

untouched_start : (tree : Tree) (path : List ℕ) → HoldsRecord (start_of (listing_of tree) path) (first_state (start_of (listing_of tree) path)) [] path tree tree
untouched_start tree path =
    let plain = file_of tree (path_of path false) in
    let lost = file_of tree (path_of path true) in
    record {
      holds = record { none = refl; place = ap (λ (s : Start). s.place) (start_tree tree path) ∙ place_is plain lost; same = λ lost. refl };
      size = ap (λ (s : Start). s.size) (start_tree tree path) ∙ size_is plain lost;
    }

pub untouched : (tree : Tree) (path : List ℕ) (start : Start) (state : FileState) (writes : List Write) → start ≡ start_of (listing_of tree) path
    → state ≡ first_state (start_of (listing_of tree) path) → writes ≡ [] → HoldsRecord start state writes path tree tree
untouched tree path start state writes start_is state_is none =
    let first = start_of (listing_of tree) path in
    subst (λ (s : Start). HoldsRecord s state writes path tree tree) (sym start_is)
    (subst (λ (s : FileState). HoldsRecord first s writes path tree tree) (sym state_is)
    (subst (λ (ws : List Write). HoldsRecord first (first_state first) ws path tree tree) (sym none) (untouched_start tree path)))
