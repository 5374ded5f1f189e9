-- A file without a lost block stands whole once it is finished, also where nothing was to be done.
use Rattle.std.proofs.Common.{◌≡◌, ℕ, ◌==◌, List, length, Bool, true, false, not, ◌&&◌, ◌||◌, cond, Option, Some, IsTrue, [], ℤ, refl, sym, ◌∙◌, ap, ap₂, subst}
use Rattle.std.proofs.lemmas.Bool.{eqb-true}
use Rattle.std.proofs.lemmas.Bool.Decides.{Decides-int_eq}
use Rattle.std.specs.Ordering.{int_eq}
use Rattle.disk_model.specs.Bytes.{resized}
use Rattle.disk_model.specs.Tree.{Tree, File, file_of, meta_of, path_of}
use Rattle.disk_model.specs.declared.meta.Meta.{Meta}
use Rattle.disk_model.specs.declared.meta.Stamp.{Stamp}
use Rattle.stripe_reader.specs.declared.starts.Start.{Start}
use Rattle.stripe_reader.specs.declared.starts.Place.{Place}
use Rattle.stripe_reader.specs.declared.starts.Place.TheVariants.{Plain, Lost, Nowhere}
use Rattle.file_restorer.specs.declared.finishing.Finish.{Finish}
use Rattle.file_restorer.specs.declared.finishing.Finish.TheVariants.{Kept}
use Rattle.file_restorer.specs.declared.state.FileState.{FileState}
use Rattle.file_restorer.specs.Finishing.{FitsTree, HoldsFinished, SameNames, StandsWhole, bytes_now, finish_of, is_changed, lost_after, lost_finish, same_stamp, stamped_finish, whole_finish}
use Rattle.file_restorer.specs.State.{bytes_or, stands}
use Rattle.file_restorer.proofs.FinishStepsLemmas.{unchanged}
use Rattle.file_restorer.proofs.FinishTreeLemmas.{resized_same, some_file}

both_true : (a b : Bool) → (a && b) ≡ true → (a ≡ true) × (b ≡ true)
both_true true b both = (refl, both)
both_true false b both = absurd (cc)

not_false : (b : Bool) → not b ≡ false → b ≡ true
not_false true is = refl
not_false false is = absurd (cc)

is_plain : (place : Place) (touched : Bool) → touched ≡ false → stands place touched ≡ true → place ≡ Plain
is_plain Plain touched un standing = refl
is_plain Lost touched un standing = absurd (cc)
is_plain Nowhere touched un standing = absurd (let clash : false ≡ true = sym un ∙ standing in cc)

-- a file that was listed with a stamp has it
listed_stamp : (stamp : Stamp) (listed : Option Meta) (file : File) → listed ≡ Some (meta_of file) → same_stamp stamp listed ≡ true → file.stamp ≡ stamp
listed_stamp stamp listed file is same =
    let there : same_stamp stamp (Some (meta_of file)) ≡ true = ap (same_stamp stamp) (sym is) ∙ same in
    let both = both_true (int_eq file.stamp.seconds stamp.seconds) (file.stamp.nanos == stamp.nanos) there in
    ap₂ (λ (seconds : ℤ) (nanos : ℕ). record { seconds = seconds; nanos = nanos }) ((Decides-int_eq file.stamp.seconds stamp.seconds).0 both.0) (eqb-true file.stamp.nanos stamp.nanos both.1)

module _ (path : List ℕ) (listed : Option Meta) (meta : Meta) (start : Start) (state : FileState) (old new : Tree) (fits : FitsTree path listed start state old) where
  -- where nothing was to be changed but the stamp, and that is right, or is not kept
  unchanged_whole : (keeps : Stamp → Bool) → is_changed meta start state ≡ false → (IsTrue (keeps meta.stamp) → same_stamp meta.stamp listed ≡ true) → SameNames path old new
      → StandsWhole keeps meta start.place (bytes_now old path) path old new
  unchanged_whole keeps none right same =
      let is = unchanged state.touched (stands start.place state.touched) (state.size == meta.size) none in
      let plain = is_plain start.place state.touched is.0 is.1 in
      let it = some_file (file_of old (path_of path false)) (fits.plain is.1) in
      let bytes_are : bytes_now old path ≡ it.0.bytes = ap (λ (o : Option File). bytes_or o (bytes_or (file_of old (path_of path true)) [])) it.1 in
      let long : length (bytes_now old path) ≡ meta.size = sym fits.size ∙ eqb-true state.size meta.size is.2 in
      record {
        file = it.0;
        there = same false ∙ it.1;
        bytes_are = sym bytes_are ∙ sym (resized_same (bytes_now old path)) ∙ ap (resized (bytes_now old path)) long;
        stamp = λ kept. listed_stamp meta.stamp listed it.0 (fits.recorded is.0 plain it.0 it.1) (right kept);
        lost = same true ∙ ap (λ (place : Place). lost_after place (file_of old (path_of path true))) (sym plain);
      }

  whole_by : (keeps : Stamp → Bool) (changed unlike is_kept : Bool) → is_changed meta start state ≡ changed → not (same_stamp meta.stamp listed) ≡ unlike → keeps meta.stamp ≡ is_kept
      → HoldsFinished (cond (changed || unlike) (stamped_finish changed is_kept) Kept) keeps meta start state (bytes_now old path) path old new
      → StandsWhole keeps meta start.place (bytes_now old path) path old new
  whole_by keeps true unlike is_kept changed_is unlike_is kept_is holds = holds
  whole_by keeps false true true changed_is unlike_is kept_is holds = holds
  whole_by keeps false true false changed_is unlike_is kept_is holds = unchanged_whole keeps changed_is (λ kept. absurd (let clash : false ≡ true = sym kept_is ∙ kept in cc)) holds
  whole_by keeps false false is_kept changed_is unlike_is kept_is holds = unchanged_whole keeps changed_is (λ kept. not_false (same_stamp meta.stamp listed) unlike_is) holds

  pub stands_whole : (keeps : Stamp → Bool) (finish : Finish) → state.lost ≡ false → finish ≡ finish_of meta listed start state keeps
      → HoldsFinished finish keeps meta start state (bytes_now old path) path old new → StandsWhole keeps meta start.place (bytes_now old path) path old new
  stands_whole keeps finish kept is holds =
      let whole : finish ≡ whole_finish meta listed start state keeps = is ∙ ap (λ (b : Bool). cond b (lost_finish start state) (whole_finish meta listed start state keeps)) kept in
      whole_by keeps (is_changed meta start state) (not (same_stamp meta.stamp listed)) (keeps meta.stamp) refl refl refl
      (subst (λ (f : Finish). HoldsFinished f keeps meta start state (bytes_now old path) path old new) whole holds)
