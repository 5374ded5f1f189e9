-- What is held of a column, once the file of one of its records goes on, and where that file may be put.
use Rattle.std.proofs.Common.{◌≡◌, ◌≢◌, ◌⊎◌, inl, inr, ℕ, ◌<◌, List, [], length, get_or, set, Bool, true, false, Option, None, Some, refl, sym, ◌∙◌, subst, arith}
use Rattle.std.proofs.lemmas.Bool.Decides.{eqb_tells}
use Rattle.std.proofs.lemmas.List.{length-set, get_or-set_same, get_or-set_other}
use Rattle.disk_model.specs.Tree.{Tree, File, file_of, path_of, is_directory_of, IsApart}
use Rattle.disk_model.proofs.TreeLemmas.{own_name}
use Rattle.file_table.specs.Table.{Record}
use Rattle.stripe_reader.specs.Starts.{no_start}
use Rattle.stripe_reader.specs.declared.starts.Start.{Start}
use Rattle.stripe_reader.specs.declared.starts.Place.{Place}
use Rattle.stripe_reader.specs.declared.starts.Place.TheVariants.{Plain, Lost, Nowhere}
use Rattle.file_restorer.specs.declared.state.FileState.{FileState}
use Rattle.file_restorer.specs.Mending.{IsFree}
use Rattle.file_restorer.specs.State.{Write, HoldsBy, HoldsRecord, HoldsColumn, OthersStay, IsNameOf, record_path, no_state, lost_then, place_in}
use Rattle.file_restorer.proofs.RecordPathsLemmas.{ArePaths, names_distinct, nested_is, own_not_nested, own_not_inside}

-- a record of which both names hold what they held
record_stays : (start : Start) (state : FileState) (writes : List Write) (path : List ℕ) (first old new : Tree) → HoldsRecord start state writes path first old
    → ((lost : Bool) → file_of new (path_of path lost) ≡ file_of old (path_of path lost)) → HoldsRecord start state writes path first new
record_stays start state writes path first old new held stay = record { holds = by state.touched held.holds; size = held.size }
  where
    by : (touched : Bool) → HoldsBy touched start state writes path first old → HoldsBy touched start state writes path first new
    by true h = record { place = h.place; file = h.file; there = stay false ∙ h.there; bytes = h.bytes; lost = stay true ∙ h.lost }
    by false h = record { none = h.none; place = h.place; same = λ lost. stay lost ∙ h.same lost }

module _ (records : List Record) (are : ArePaths records) (starts : List Start) (states : List FileState) (writes : List (List Write)) (first old : Tree)
    (held : HoldsColumn records starts states writes first old) (i : ℕ) (within : i < length records) where
  abbrev path : List ℕ
  path = record_path records i

  eq_or_not : (k : ℕ) → (k ≡ i) ⊎ (k ≢ i)
  eq_or_not k = elim (eqb_tells k i) [ inl same ↦ inl same.1 | inr other ↦ inr other.1 ]

  module _ (start : Start) (state : FileState) (more : List Write) (new : Tree) (here : HoldsRecord start state more path first new) (others : OthersStay path old new) where
    abbrev IsHeld : ℕ → Type 0
    IsHeld k = HoldsRecord (get_or (set starts i start) k no_start) (get_or (set states i state) k no_state) (get_or (set writes i more) k []) (record_path records k) first new

    at_record : IsHeld i
    at_record =
        subst (λ (s : Start). HoldsRecord s (get_or (set states i state) i no_state) (get_or (set writes i more) i []) path first new)
        (sym (get_or-set_same starts i start no_start (omega (arith, held.starts_are, within))))
        (subst (λ (s : FileState). HoldsRecord start s (get_or (set writes i more) i []) path first new)
        (sym (get_or-set_same states i state no_state (omega (arith, held.states_are, within))))
        (subst (λ (ws : List Write). HoldsRecord start state ws path first new)
        (sym (get_or-set_same writes i more [] (omega (arith, held.writes_are, within)))) here))

    at_other : (k : ℕ) → k < length records → k ≢ i → IsHeld k
    at_other k also other =
        let stay : HoldsRecord (get_or starts k no_start) (get_or states k no_state) (get_or writes k []) (record_path records k) first new =
        record_stays _ _ _ (record_path records k) first old new (held.each k also)
        (λ lost. others (path_of (record_path records k) lost) (λ l. names_distinct records are i k within also other lost l)) in
        subst (λ (s : Start). HoldsRecord s (get_or (set states i state) k no_state) (get_or (set writes i more) k []) (record_path records k) first new)
        (sym (get_or-set_other starts i k start no_start other))
        (subst (λ (s : FileState). HoldsRecord (get_or starts k no_start) s (get_or (set writes i more) k []) (record_path records k) first new)
        (sym (get_or-set_other states i k state no_state other))
        (subst (λ (ws : List Write). HoldsRecord (get_or starts k no_start) (get_or states k no_state) ws (record_path records k) first new)
        (sym (get_or-set_other writes i k more [] other)) stay))

    -- The file of one record goes on.
    pub column_goes_on : HoldsColumn records (set starts i start) (set states i state) (set writes i more) first new
    column_goes_on = record {
      starts_are = length-set starts i start ∙ held.starts_are;
      states_are = length-set states i state ∙ held.states_are;
      writes_are = length-set writes i more ∙ held.writes_are;
      each = λ k also. elim (eq_or_not k) [ inl same ↦ subst IsHeld (sym same) at_record | inr other ↦ at_other k also other ];
      others = λ name none. others name (λ lost same. none (i, lost, within, same)) ∙ held.others name none;
    }

  -- ---- where the file of a record may be put

  module _ (free : IsFree first path) (absent : file_of first path ≡ None) where
    apart_first : (name : List ℕ) (file : File) → file_of first name ≡ Some file → (is_directory_of name path ≡ false) × (is_directory_of path name ≡ false)
    apart_first = elim free.plain [ inl there ↦ absurd (there absent) | inr apart ↦ apart ]

    abbrev IsNested : List ℕ → Type 0
    IsNested name = (is_directory_of name path ≡ true) ⊎ (is_directory_of path name ≡ true)

    not_both : (b : Bool) → b ≡ false → b ≡ true → ⊥
    not_both b falls is = let clash : true ≡ false = sym is ∙ falls in cc

    first_not_nested : (name : List ℕ) (file : File) → file_of first name ≡ Some file → IsNested name → ⊥
    first_not_nested name file there (inl is) = not_both (is_directory_of name path) (apart_first name file there).0 is
    first_not_nested name file there (inr is) = not_both (is_directory_of path name) (apart_first name file there).1 is

    own_not : (lost : Bool) → IsNested (path_of path lost) → ⊥
    own_not lost (inl is) = own_not_inside path lost is
    own_not lost (inr is) = own_not_nested path lost is

    others_not : (k : ℕ) → k < length records → k ≢ i → IsNested (record_path records k) → ⊥
    others_not k also other (inl is) = are.apart i k within also other (nested_is (record_path records k) path is)
    others_not k also other (inr is) = are.apart k i also within (λ same. other (sym same)) (nested_is path (record_path records k) is)

    -- a lost file of another record stood there at first
    lost_first : (place : Place) (there : Option File) (file : File) → lost_then place there ≡ Some file → there ≡ Some file
    lost_first Plain there file is = is
    lost_first Lost there file is = absurd cc
    lost_first Nowhere there file is = absurd cc

    named_not : (k : ℕ) (lost : Bool) → k < length records → k ≢ i → (file : File) → file_of old (path_of (record_path records k) lost) ≡ Some file → IsNested (path_of (record_path records k) lost) → ⊥
    named_not k false also other file there nested = others_not k also other (subst IsNested (own_name (record_path records k)) nested)
    named_not k true also other file there nested = by (get_or states k no_state).touched (held.each k also).holds
      where
        by : (touched : Bool) → HoldsBy touched (get_or starts k no_start) (get_or states k no_state) (get_or writes k []) (record_path records k) first old → ⊥
        by true h = first_not_nested (path_of (record_path records k) true) file (lost_first (place_in first (record_path records k)) (file_of first (path_of (record_path records k) true)) file (sym h.lost ∙ there)) nested
        by false h = first_not_nested (path_of (record_path records k) true) file (sym (h.same true) ∙ there) nested

    not_nested : (name : List ℕ) (file : File) → file_of old name ≡ Some file → IsNested name → ⊥
    not_nested name file there nested = unnamed named
      where
        named : ¬ (IsNameOf records name)
        named is =
            let k = is.0 in
            let lost = is.1 in
            let found : file_of old (path_of (record_path records k) lost) ≡ Some file = subst (λ (n : List ℕ). file_of old n ≡ Some file) is.3 there in
            let in_it : IsNested (path_of (record_path records k) lost) = subst IsNested is.3 nested in
            elim (eq_or_not k) [
              | inl same ↦ own_not lost (subst (λ (j : ℕ). IsNested (path_of (record_path records j) lost)) same in_it)
              | inr other ↦ named_not k lost is.2 other file found in_it
            ]

        unnamed : ¬ (IsNameOf records name) → ⊥
        unnamed none = first_not_nested name file (sym (held.others name none) ∙ there) nested

    not_true : (b : Bool) → (b ≡ true → ⊥) → b ≡ false
    not_true true wrong = absurd (wrong refl)
    not_true false wrong = refl

    -- no file stands in the way
    pub apart_now : IsApart old path
    apart_now name file there = (
      not_true (is_directory_of name path) (λ is. not_nested name file there (inl is)),
      not_true (is_directory_of path name) (λ is. not_nested name file there (inr is)),
    )
