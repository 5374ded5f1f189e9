-- What bytes pick of a vault in memory is an image of it.
use Rattle.std.proofs.Common.{◌≡◌, inl, inr, ℕ, ◌+◌, ◌^◌, ◌<◌, ◌≤◌, List, [], length, take, drop, Option, IfSome, Bool, true, not, sym, ◌∙◌, ap, subst, arith}
use Rattle.std.proofs.lemmas.List.{length-map, length-take, take_all, drop_all}
use Rattle.std.proofs.lemmas.List.Elements.{All-take, All-drop}
use Rattle.std.proofs.lemmas.Bool.{cases_lt}
use Rattle.disk_model.specs.Bytes.{AreBytes}
use Rattle.disk_model.specs.Files.{Files, parity_of, content_of}
use Rattle.disk_model.specs.Machine.{Machine, Loose, IsImage, IsSteady, GivesBytes, AllGiveBytes, replay, settled}
use Rattle.disk_model.specs.Unsynced.{synced}
use Rattle.disk_model.specs.Vault.{VaultDone, HasFiles}
use Rattle.disk_model.proofs.ByCallsLemmas.{image_shape}
use Rattle.disk_model.proofs.SteadyLemmas.{levels_stay, copies_stay, steady_replay, opened_copy}
use Rattle.disk_memory.specs.Calls.{vault_calls}
use Rattle.disk_memory.specs.Choice.{number_in, levels_image, after_levels, copies_image, image_of, CanBeCounted}
use Rattle.disk_memory.specs.Goes.{IsOpenedRecord}
use Rattle.disk_calm.specs.Held.{Held, AreFiles}
use Rattle.disk_memory.specs.Recorded.{opened_by, calls_since}
use Rattle.disk_calm.specs.Store.{held, opened_held, SameCounts}
use Rattle.disk_memory.specs.Vault.{VaultValue, value_of, view_of, image_at, opened_anew}
use Rattle.disk_calm.specs.StoreLaws.{parities_long, contents_long, drafts_long}
use Rattle.disk_memory.specs.VaultLaws.{steady_store}
use Rattle.disk_memory.specs.declared.calls.VaultEntry.{VaultEntry}
use Rattle.disk_memory.specs.declared.past.Made.{Made}
use Rattle.disk_memory.specs.declared.recorded.Recorded.{Recorded}
use Rattle.disk_calm.specs.declared.store.Store.{Store}
use Rattle.disk_memory.proofs.ChoiceLemmas.{HasBytes, picked_is_image, picks_files, picks_moment}
use Rattle.disk_memory.proofs.OthersLemmas.{HaveBytes, have_replay, settled_has, AtMost, more_replay}

abbrev pub files_with : List (List ℕ) → List (Option (List ℕ)) → Files
files_with parities contents = record { parities = parities; contents = contents }

module _ (r : Recorded) (number : ℕ) where
  abbrev pub calls_to : List VaultDone
  calls_to = take number (calls_since r.base r.past.made.items)

  abbrev pub machine_at : Machine
  machine_at = replay (opened_by (held r.opened)) calls_to

  gives_to : AllGiveBytes calls_to
  gives_to = All-take (λ (d : VaultDone). GivesBytes d.call) number (calls_since r.base r.past.made.items) r.recorded.gives

  steady_at : IsSteady machine_at
  steady_at = steady_replay (opened_by (held r.opened)) calls_to (steady_store r.opened) gives_to

  have_at : HaveBytes machine_at
  have_at = have_replay (opened_by (held r.opened)) calls_to (steady_store r.opened)
      (λ copy. subst HasBytes (sym (opened_copy (held r.opened).files copy)) (settled_has (content_of (held r.opened).files copy) (r.opened.bytes.contents copy))) gives_to

  levels_at : length machine_at.levels ≡ r.store.levels
  levels_at = levels_stay (opened_by (held r.opened)) calls_to ∙ length-map r.opened.parities.items synced ∙ parities_long r.opened ∙ sym r.same_levels

  copies_at : length machine_at.copies ≡ r.store.copies
  copies_at = copies_stay (opened_by (held r.opened)) calls_to ∙ length-map r.opened.contents.items settled ∙ contents_long r.opened ∙ sym r.same_copies

  pub image_is : (choice : List ℕ) → AreBytes choice → IsImage machine_at (image_of machine_at choice)
  image_is choice are = picked_is_image machine_at choice are steady_at.levels have_at

  pub image_files : (choice : List ℕ) → AreBytes choice → HasFiles r.store.levels r.store.copies (image_of machine_at choice)
  image_files choice are = image_shape machine_at r.store.levels r.store.copies (image_of machine_at choice) levels_at copies_at (image_is choice are)

-- a stop at some moment since it was opened may leave it
pub image_left : (faults : ℕ) (r : Recorded) (choice : List ℕ) → AreBytes choice → (view_of (value_of faults r)).images.since 0 (image_at (value_of faults r) choice)
image_left faults r choice are =
    let number = number_in choice in
    let since = calls_since r.base r.past.made.items in
    let image = image_is r number (drop 8 choice) (All-drop (λ byte. byte < 256) 8 choice are) in
    elim (cases_lt number (length since)) [
      | inl within ↦ (number, omega arith, omega (arith, within), image)
      | inr past ↦ (
        length since,
        omega arith,
        omega arith,
        subst (λ (cs : List VaultDone). IsImage (replay (opened_by (held r.opened)) cs) (image_at (value_of faults r) choice)) (take_all number since past ∙ sym (take_all (length since) since (omega arith))) image,
      )
    ]

-- the files that were picked of a vault by its calls
pub picked_files : (r : Recorded) (choice bytes : List ℕ) (number : ℕ) (m : Machine) (parities : List (List ℕ)) (contents : List (Option (List ℕ)))
    → number ≡ number_in choice → bytes ≡ drop 8 choice → m ≡ machine_at r number → parities ≡ levels_image m.levels bytes → contents ≡ copies_image m.copies (after_levels m.levels bytes)
    → files_with parities contents ≡ image_of (machine_at r (number_in choice)) (drop 8 choice)
picked_files r choice bytes number m parities contents tells left by one two =
    ap (λ (ps : List (List ℕ)). files_with ps contents) one
    ∙ ap (files_with (levels_image m.levels bytes)) two
    ∙ ap (λ (n : Machine). image_of n bytes) (by ∙ ap (machine_at r) tells)
    ∙ ap (image_of (machine_at r (number_in choice))) left

pub picked_shape : (r : Recorded) (choice : List ℕ) → AreBytes choice → HasFiles r.store.levels r.store.copies (image_of (machine_at r (number_in choice)) (drop 8 choice))
picked_shape r choice are = image_files r (number_in choice) (drop 8 choice) (All-drop (λ byte. byte < 256) 8 choice are)

pub are_files : (levels copies : ℕ) (files : Files) (parities : List (List ℕ)) (contents : List (Option (List ℕ))) → HasFiles levels copies files → files_with parities contents ≡ files → AreFiles parities contents
are_files levels copies files parities contents has same = record {
  parities_are = λ level. subst (λ (f : Files). AreBytes (parity_of f level)) (sym same) (has.parity_bytes level);
  contents_are = λ copy. subst (λ (f : Files). IfSome (content_of f copy) AreBytes) (sym same) (has.content_bytes copy);
}

same_value : (a b : VaultValue) → a.faults ≡ b.faults → a.levels ≡ b.levels → a.held_now ≡ b.held_now → a.told ≡ b.told → a.calls ≡ b.calls → a.opened ≡ b.opened → a.since ≡ b.since → a ≡ b
same_value a b one two three four five six seven =
    ap (λ (n : ℕ). let v : VaultValue = record { faults = n; levels = a.levels; held_now = a.held_now; told = a.told; calls = a.calls; opened = a.opened; since = a.since } in v) one
    ∙ ap (λ (n : ℕ). let v : VaultValue = record { faults = b.faults; levels = n; held_now = a.held_now; told = a.told; calls = a.calls; opened = a.opened; since = a.since } in v) two
    ∙ ap (λ (h : Held). let v : VaultValue = record { faults = b.faults; levels = b.levels; held_now = h; told = a.told; calls = a.calls; opened = a.opened; since = a.since } in v) three
    ∙ ap (λ (t : Bool). let v : VaultValue = record { faults = b.faults; levels = b.levels; held_now = b.held_now; told = t; calls = a.calls; opened = a.opened; since = a.since } in v) four
    ∙ ap (λ (cs : List VaultDone). let v : VaultValue = record { faults = b.faults; levels = b.levels; held_now = b.held_now; told = b.told; calls = cs; opened = a.opened; since = a.since } in v) five
    ∙ ap (λ (h : Held). let v : VaultValue = record { faults = b.faults; levels = b.levels; held_now = b.held_now; told = b.told; calls = b.calls; opened = h; since = a.since } in v) six
    ∙ ap (λ (cs : List VaultDone). let v : VaultValue = record { faults = b.faults; levels = b.levels; held_now = b.held_now; told = b.told; calls = b.calls; opened = b.opened; since = cs } in v) seven

-- all that a vault tells that was just opened with this
pub opened_value : (faults levels : ℕ) (h : Held) (store : Store) (r : Recorded) → IsOpenedRecord store r → faults ≡ 0 → store.levels ≡ levels → held store ≡ h
    → value_of faults r ≡ record { faults = 0; levels = levels; held_now = h; told = true; calls = []; opened = h; since = [] }
opened_value faults levels h store r is none long same =
    let no_calls : vault_calls r.past.made.items ≡ [] = ap (λ (es : List (Made VaultEntry)). vault_calls es) is.calls in
    same_value (value_of faults r) _ none (is.same.levels ∙ long) (is.now ∙ same) (ap not is.lost) no_calls (is.opened ∙ same)
    (ap (drop r.base) no_calls ∙ drop_all r.base [] (omega arith))

-- all that an image tells that is opened anew
pub image_value : (faults made_faults : ℕ) (old made : Recorded) (store : Store) (files : Files) → held store ≡ opened_held old.store.copies files → SameCounts old.store store → IsOpenedRecord store made → made_faults ≡ 0
    → value_of made_faults made ≡ opened_anew (value_of faults old) files
image_value faults made_faults old made store files holds same is none =
    opened_value made_faults old.store.levels (opened_held (length old.store.drafts.items) files) store made is none same.levels
    (holds ∙ ap (λ (n : ℕ). opened_held n files) (sym (drafts_long old.store)))

none_left : (h : Held) → AtMost 0 (opened_by h)
none_left h copy = subst (λ (c : Loose). length c.others ≤ 0) (sym (opened_copy h.files copy)) (omega arith)

-- each image of a vault is picked by some bytes
pub each_image_is_picked : (v : VaultValue) (files : Files) → (view_of v).images.since 0 files → length v.since + 1 < 2 ^ 64 → CanBeCounted files → (choice : List ℕ) × AreBytes choice × (image_at v choice ≡ files)
each_image_is_picked v files left fits counted =
    let calls = take left.0 v.since in
    let m = replay (opened_by v.opened) calls in
    let short : length calls ≤ length v.since = omega (arith, length-take left.0 v.since) in
    picks_moment (opened_by v.opened) v.since left.0 files (omega (arith, left.2, fits))
    (picks_files m files left.3 (λ copy. omega (arith, more_replay (opened_by v.opened) calls 0 (none_left v.opened) copy, short, fits)) counted)
