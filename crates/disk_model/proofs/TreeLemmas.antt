-- What a tree holds after a file was set or taken away, and the names of a lost file.
use Rattle.std.proofs.Common.{◌≡◌, ◌≢◌, ℕ, List, [], ◌++◌, Bool, true, false, cond, None, Some, refl, sym, ◌∙◌, ap}
use Rattle.std.proofs.lemmas.List.{append-nil, append_cancel_left, append_cancel_right}
use Rattle.std.specs.FinMap as map
use Rattle.std.specs.FinMap.{nat_cmp-IsAntisymmetric, slice_cmp-IsAntisymmetric}
use Rattle.std.specs.Cmp.{eq_by_cmp_equiv}
use Rattle.std.specs.Cmp.Lexicographic.{slice_cmp, nat_list_cmp_total}
use Rattle.std.specs.Ordering.{nat_cmp, is_eq, eq_by_cmp}
use Rattle.std.specs.declared.cmp.Ordering.{Ordering}
use Rattle.std.specs.declared.cmp.Ordering.TheVariants.{Less, Equal, Greater}
use Rattle.disk_model.specs.Path.{IsRecordPath, lost_suffix}
use Rattle.disk_model.specs.Tree.{Tree, File, file_of, path_of}
use Rattle.disk_model.proofs.PathLemmas.{not_lost_name}

abbrev tied : List ℕ → List ℕ → Bool
tied one other = eq_by_cmp (slice_cmp nat_cmp) one other

tied_itself : (path : List ℕ) → tied path path ≡ true
tied_itself path = (eq_by_cmp_equiv nat_list_cmp_total).refl path

tied_is : (one other : List ℕ) → tied one other ≡ true → one ≡ other
tied_is one other is = by (slice_cmp nat_cmp one other) refl
  where
    by : (o : Ordering) → slice_cmp nat_cmp one other ≡ o → one ≡ other
    by Less at = absurd (let clash : false ≡ true = sym (ap is_eq at) ∙ is in cc)
    by Equal at = slice_cmp-IsAntisymmetric nat_cmp-IsAntisymmetric one other at
    by Greater at = absurd (let clash : false ≡ true = sym (ap is_eq at) ∙ is in cc)

not_tied : (one other : List ℕ) → one ≢ other → tied one other ≡ false
not_tied one other apart = by (tied one other) refl
  where
    by : (b : Bool) → tied one other ≡ b → tied one other ≡ false
    by true is = absurd (apart (tied_is one other is))
    by false is = is

pub set_here : (tree : Tree) (path : List ℕ) (file : File) → file_of (map.insert tree path file) path ≡ Some file
set_here tree path file = map.get-insert nat_list_cmp_total tree path file path ∙ ap (λ b. cond b (Some file) (file_of tree path)) (tied_itself path)

pub set_other : (tree : Tree) (path : List ℕ) (file : File) (other : List ℕ) → other ≢ path → file_of (map.insert tree path file) other ≡ file_of tree other
set_other tree path file other apart = map.get-insert nat_list_cmp_total tree path file other ∙ ap (λ b. cond b (Some file) (file_of tree other)) (not_tied other path apart)

pub gone_here : (tree : Tree) (path : List ℕ) → file_of (map.remove tree path) path ≡ None
gone_here tree path = map.get-remove nat_list_cmp_total tree path path ∙ ap (λ b. cond b None (file_of tree path)) (tied_itself path)

pub gone_other : (tree : Tree) (path other : List ℕ) → other ≢ path → file_of (map.remove tree path) other ≡ file_of tree other
gone_other tree path other apart = map.get-remove nat_list_cmp_total tree path other ∙ ap (λ b. cond b None (file_of tree other)) (not_tied other path apart)

-- to set a file that is there changes nothing
pub set_same : (tree : Tree) (path : List ℕ) (file : File) → file_of tree path ≡ Some file → map.insert tree path file ≡ tree
set_same tree path file there = map.same_map nat_list_cmp_total (slice_cmp-IsAntisymmetric nat_cmp-IsAntisymmetric) (map.insert tree path file) tree
    (λ other. map.get-insert nat_list_cmp_total tree path file other ∙ by other (tied other path) refl)
  where
    by : (other : List ℕ) (b : Bool) → tied other path ≡ b → cond (tied other path) (Some file) (file_of tree other) ≡ file_of tree other
    by other true is = ap (λ b. cond b (Some file) (file_of tree other)) is ∙ sym there ∙ ap (file_of tree) (sym (tied_is other path is))
    by other false is = ap (λ b. cond b (Some file) (file_of tree other)) is

-- ---- the two names of a path

pub own_name : (path : List ℕ) → path_of path false ≡ path
own_name path = append-nil path

no_more : (path more : List ℕ) → path ++ more ≡ path ++ [] → more ≡ []
no_more path more same = append_cancel_left path more [] same

-- a path and its lost file have two names
pub two_names : (path : List ℕ) (one two : Bool) → path_of path one ≡ path_of path two → one ≡ two
two_names path true true same = refl
two_names path false false same = refl
two_names path true false same = absurd (let none : lost_suffix ≡ [] = no_more path lost_suffix same in cc)
two_names path false true same = absurd (let none : lost_suffix ≡ [] = no_more path lost_suffix (sym same) in cc)

-- two record paths have no name in common
pub names_apart : (path other : List ℕ) → IsRecordPath path → IsRecordPath other → other ≢ path → (one two : Bool) → path_of other one ≢ path_of path two
names_apart path other is too apart true true same = apart (append_cancel_right other path lost_suffix same)
names_apart path other is too apart false false same = apart (sym (append-nil other) ∙ same ∙ append-nil path)
names_apart path other is too apart true false same = not_lost_name path is (other, sym (append-nil path) ∙ sym same)
names_apart path other is too apart false true same = not_lost_name other too (path, sym (append-nil other) ∙ same)
