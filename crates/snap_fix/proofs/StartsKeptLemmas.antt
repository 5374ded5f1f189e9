-- Where files are looked for while a fix goes on: a place stays, or a file that was renamed back is looked for under its own name.
use Rattle.std.proofs.Common.{◌≡◌, ◌≢◌, ◌⊎◌, inl, inr, ℕ, ◌<◌, List, [], ◌∷◌, length, set, true, false, refl, sym, ap, ◌∙◌, subst}
use Rattle.std.specs.List.{Contains}
use Rattle.std.proofs.lemmas.Bool.{cases_eq}
use Rattle.std.proofs.lemmas.List.{get_or-set_same, get_or-set_other}
use Rattle.disk_model.specs.Folder.{FolderCall, FolderDone, FolderView, ListFiles, Look, ReadAt, Make, WriteAt, SetSize, SetStamp, Rename}
use Rattle.stripe_reader.specs.Starts.{StartsValue, no_start, starts_at, start_in}
use Rattle.stripe_reader.specs.declared.starts.Start.{Start}
use Rattle.stripe_reader.specs.declared.starts.Place.{Place}
use Rattle.stripe_reader.specs.declared.starts.Place.TheVariants.{Plain, Lost, Nowhere}
use Rattle.stripe_examiner.specs.Facts.{StripeFacts}
use Rattle.snap_fix.specs.Mended.{Mended, is_gone}
use Rattle.file_restorer.specs.Mending.{with_place}
use Rattle.repair_scope.specs.Plan.{FixPlan}
use Rattle.file_restorer.specs.State.{FolderMakesBy, StaysPlace, KeepsStarts}
use Rattle.snap_fix.specs.Underway.{AreMendCalls, FailsInMend, IsMendCall, SetsUpCell, SetsUpOneOf, repair_calls}
use Rattle.file_restorer.proofs.FolderCallLemmas.{makes_by_wider, step_calls_wider}
use Rattle.file_restorer.proofs.FolderFailsLemmas.{step_fails_wider}

-- ---- places

pub stays_then : (before mid after : Place) → StaysPlace before mid → StaysPlace mid after → StaysPlace before after
stays_then before mid after (inl one) (inl two) = inl (two ∙ one)
stays_then before mid after (inl one) (inr two) = inr (sym one ∙ two.0, two.1)
stays_then before mid after (inr one) (inl two) = inr (one.0, two ∙ one.1)
stays_then before mid after (inr one) (inr two) = absurd (let clash : Plain ≡ Lost = sym one.1 ∙ two.0 in cc)

-- a file that isn't looked for under its own name was not before
pub stood_before : (before after place : Place) → place ≢ Plain → StaysPlace before after → after ≡ place → before ≡ place
stood_before before after place apart (inl same) is = sym same ∙ is
stood_before before after place apart (inr back) is = absurd (apart (sym is ∙ back.1))

-- ---- starts

pub keeps_starts_same : (starts : StartsValue) → KeepsStarts starts starts
keeps_starts_same starts d i = (refl, inl refl)

pub keeps_starts_then : (before mid after : StartsValue) → KeepsStarts before mid → KeepsStarts mid after → KeepsStarts before after
keeps_starts_then before mid after one two d i = ((two d i).0 ∙ (one d i).0, stays_then _ _ _ (one d i).1 (two d i).1)

-- one of them with another place
module _ (starts : StartsValue) (d i : ℕ) (place : Place) (column : d < length starts.columns) (rec : i < length (starts_at starts.columns d))
    (stays : StaysPlace (start_in (starts_at starts.columns d) i).place place) where
  abbrev start : Start
  start = record { place = place; size = (start_in (starts_at starts.columns d) i).size }

  abbrev row : List Start
  row = set (starts_at starts.columns d) i start

  row_here : starts_at (set starts.columns d row) d ≡ row
  row_here = get_or-set_same starts.columns d row [] column

  abbrev Kept : ℕ → ℕ → Start → Type 0
  Kept k j now = (now.size ≡ (start_in (starts_at starts.columns k) j).size) × StaysPlace (start_in (starts_at starts.columns k) j).place now.place

  kept : (k j : ℕ) → (k ≡ d) ⊎ (k ≡ d → ⊥) → (j ≡ i) ⊎ (j ≡ i → ⊥) → Kept k j (start_in (starts_at (set starts.columns d row) k) j)
  kept k j (inl same) (inl one) =
      subst (λ (n : ℕ). Kept n j (start_in (starts_at (set starts.columns d row) n) j)) (sym same)
      (subst (λ (n : ℕ). Kept d n (start_in (starts_at (set starts.columns d row) d) n)) (sym one)
      (subst (Kept d i) (sym (ap (λ (r : List Start). start_in r i) row_here ∙ get_or-set_same (starts_at starts.columns d) i start no_start rec)) (refl, stays)))
  kept k j (inl same) (inr other) =
      subst (λ (n : ℕ). Kept n j (start_in (starts_at (set starts.columns d row) n) j)) (sym same)
      (subst (Kept d j) (sym (ap (λ (r : List Start). start_in r j) row_here ∙ get_or-set_other (starts_at starts.columns d) i j start no_start other)) (refl, inl refl))
  kept k j (inr other) side =
      subst (Kept k j) (sym (ap (λ (r : List Start). start_in r j) (get_or-set_other starts.columns d k row [] other))) (refl, inl refl)

  pub keeps_starts_with : KeepsStarts starts (with_place starts d i place)
  keeps_starts_with k j = kept k j (cases_eq k d) (cases_eq j i)

-- ---- calls by where files stood

sets_up_before : (plan : FixPlan) (before after : StartsValue) (d : ℕ) (facts : StripeFacts) (place : Place) (path : List ℕ)
    → place ≢ Plain → KeepsStarts before after → SetsUpCell plan after d facts place path → SetsUpCell plan before d facts place path
sets_up_before plan before after d facts place path apart stood is = record {
  repaired = is.repaired;
  cell = is.cell;
  cell_is = is.cell_is;
  path_is = is.path_is;
  stood = stood_before _ _ place apart (stood d is.cell.rec).1 is.stood;
}

nowhere_plain : Nowhere ≢ Plain
nowhere_plain is = absurd cc

lost_plain : Lost ≢ Plain
lost_plain is = absurd cc

-- A call by later starts is one by earlier starts, and one for some stripes is one for more.
module _ (plan : FixPlan) (before after : StartsValue) (d : ℕ) (xs ys : List Mended) (stood : KeepsStarts before after)
    (more : (mended : Mended) → Contains xs mended → Contains ys mended) where
  one_before : (place : Place) (path : List ℕ) → place ≢ Plain → SetsUpOneOf plan after d xs place path → SetsUpOneOf plan before d ys place path
  one_before place path apart is = record {
    mended = is.mended;
    is_one = more is.mended is.is_one;
    sets_up = sets_up_before plan before after d is.mended.facts place path apart stood is.sets_up;
  }

  pub mend_call_wider : (call : FolderCall) → IsMendCall plan after d xs call → IsMendCall plan before d ys call
  mend_call_wider ListFiles is = is
  mend_call_wider (Look path lost) is = is
  mend_call_wider (ReadAt path lost at n) is = is
  mend_call_wider (Make path) is = one_before Nowhere path nowhere_plain is
  mend_call_wider (WriteAt path at bytes) is = record { mended = is.mended; is_one = more is.mended is.is_one; writes = is.writes }
  mend_call_wider (SetSize path size) is = is
  mend_call_wider (SetStamp path stamp) is = is
  mend_call_wider (Rename path true) is = is
  mend_call_wider (Rename path false) is = one_before Lost path lost_plain is

module _ (plan : FixPlan) (before after : StartsValue) (d : ℕ) (stripes : List Mended) (stood : KeepsStarts before after) where
  pub mend_call_before : (call : FolderCall) → IsMendCall plan after d stripes call → IsMendCall plan before d stripes call
  mend_call_before = mend_call_wider plan before after d stripes stripes stood (λ mended one. one)

-- the calls for a cell by later starts are those by earlier ones
pub mend_calls_before : (plan : FixPlan) (before after : StartsValue) (d : ℕ) (mended : Mended) → KeepsStarts before after → (done : List FolderDone)
    → AreMendCalls plan after d mended done → AreMendCalls plan before d mended done
mend_calls_before plan before after d mended stood done are = record {
  place = are.place;
  stood = λ is cell cell_is. stays_then _ _ _ (stood d cell.rec).1 (are.stood is cell cell_is);
  touched = are.touched;
  are = step_calls_wider (IsMendCall plan after d (mended ∷ [])) (IsMendCall plan before d (mended ∷ [])) (repair_calls plan d mended.facts are.place are.touched)
      (is_gone plan mended d) (mend_call_before plan before after d (mended ∷ []) stood) done are.are;
}

pub fails_before : (plan : FixPlan) (before after : StartsValue) (d : ℕ) (mended : Mended) → KeepsStarts before after → {old new : FolderView}
    → FailsInMend plan after d mended old new → FailsInMend plan before d mended old new
fails_before plan before after d mended stood one = record {
  place = one.place;
  stood = λ cell cell_is. stays_then _ _ _ (stood d cell.rec).1 (one.stood cell cell_is);
  touched = one.touched;
  fails = step_fails_wider (IsMendCall plan after d (mended ∷ [])) (IsMendCall plan before d (mended ∷ [])) (repair_calls plan d mended.facts one.place one.touched)
      (mend_call_before plan before after d (mended ∷ []) stood) one.fails;
}

pub makes_before : (plan : FixPlan) (before after : StartsValue) (d : ℕ) (mended : Mended) → KeepsStarts before after → {old new : FolderView}
    → FolderMakesBy (AreMendCalls plan after d mended) old new → FolderMakesBy (AreMendCalls plan before d mended) old new
makes_before plan before after d mended stood makes =
    makes_by_wider (AreMendCalls plan after d mended) (AreMendCalls plan before d mended) (mend_calls_before plan before after d mended stood) makes
