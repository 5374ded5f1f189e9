-- Folders listed side by side.
use Rattle.std.proofs.Common.{◌≡◌, ◌≢◌, below_more, ◌⊎◌, inl, inr, ℕ, ◌+◌, ◌-◌, ◌<◌, ◌≤◌, List, [], ◌++◌, length, map, set, get_or, Option, None, Some, Ok, Err, false, refl, sym, ap, ◌∙◌, subst, arith}
use Rattle.std.proofs.lemmas.Bool.{cases_lt}
use Rattle.std.proofs.lemmas.List.{length-append, length-map, length-set, map-append, map-set, get_or-map, get_or-set_same, get_or-set_other, get_or_append_left, get_or-append_right}
use Rattle.disk_model.specs.Folder.{FolderView, quiet_folder}
use Rattle.disk_model.specs.declared.fault.ListFault.{ListFault}
use Rattle.disk_model.specs.declared.fault.ListFault.TheVariants as lists
use Rattle.folder_listing.specs.declared.listing.Listing.{Listing}
use Rattle.folder_listing.specs.Kept.{ListedFile, files_of, lists_of}
use Rattle.folder_listing.specs.Listings.{folder_at, IsAsked, ListsAll, FailsAt, RunsOut, Gives, HavePlaces, GiveAll, IsFirstFault}

-- the first folders were asked, and what they gave is in their places
pub record GiveSome (count : ℕ) (olds news : List FolderView) (listings : List Listing) (faults : List (Option ListFault)) : Type 0 where
  pub folders : length news ≡ length olds
  pub places : HavePlaces (length olds) listings faults
  pub each : (d : ℕ) → d < count → Gives (folder_at olds d) (folder_at news d) (get_or (lists_of listings) d []) (get_or faults d None)
  pub others : (d : ℕ) → count ≤ d → folder_at news d ≡ folder_at olds d

pub give_none : {F : Type 0} (view : F → FolderView) (folders : List F) (listings : List Listing) (faults : List (Option ListFault)) → HavePlaces (length folders) listings faults
    → GiveSome 0 (map view folders) (map view folders) listings faults
give_none view folders listings faults places = record {
  folders = refl;
  places = record { for_files = places.for_files ∙ sym (length-map folders view); for_faults = places.for_faults ∙ sym (length-map folders view) };
  each = λ d below. absurd (omega (arith, below));
  others = λ d from. refl;
}

-- one more folder, as the code lends it
pub give_more : {F : Type 0} (view : F → FolderView) (i : ℕ) (olds news : List F) (before after : F) (listings : List Listing) (listing : Listing) (faults : List (Option ListFault)) (fault : Option ListFault)
    → i < length olds → GiveSome i (map view olds) (map view news) listings faults → Gives (view (get_or news i before)) (view after) (files_of listing) fault
    → GiveSome (i + 1) (map view olds) (map view (set news i after)) (set listings i listing) (set faults i fault)
give_more view i olds news before after listings listing faults fault lt so_far gives =
    let none = quiet_folder 0 false in
    let many : length (map view olds) ≡ length olds = length-map olds view in
    let there : i < length news = omega (arith, lt, many, so_far.folders, length-map news view) in
    let before_is : view (get_or news i before) ≡ folder_at (map view olds) i = sym (get_or-map view news i before none there) ∙ so_far.others i (omega arith) in
    let news_are : map view (set news i after) ≡ set (map view news) i (view after) = map-set view news i after in
    let lists_are : lists_of (set listings i listing) ≡ set (lists_of listings) i (files_of listing) = map-set files_of listings i listing in
    let in_lists : i < length (lists_of listings) = omega (arith, lt, many, so_far.places.for_files, length-map listings files_of) in
    let in_faults : i < length faults = omega (arith, lt, many, so_far.places.for_faults) in
    let in_views : i < length (map view news) = omega (arith, there, length-map news view) in
    rw news_are (record {
      folders = length-set (map view news) i (view after) ∙ so_far.folders;
      places = record { for_files = length-set listings i listing ∙ so_far.places.for_files; for_faults = length-set faults i fault ∙ so_far.places.for_faults };
      each = below_more (λ (k : ℕ). Gives (folder_at (map view olds) k) (folder_at (set (map view news) i (view after)) k) (get_or (lists_of (set listings i listing)) k []) (get_or (set faults i fault) k None)) i
          (λ k below. let other : k ≢ i = omega (arith, below) in
          rw (lists_are, get_or-set_other (lists_of listings) i k (files_of listing) [] other, get_or-set_other faults i k fault None other, get_or-set_other (map view news) i k (view after) none other)
          (so_far.each k below))
          (rw (lists_are, get_or-set_same (lists_of listings) i (files_of listing) [] in_lists, get_or-set_same faults i fault None in_faults, get_or-set_same (map view news) i (view after) none in_views, sym before_is)
          gives);
      others = λ k above. let other : k ≢ i = omega (arith, above) in get_or-set_other (map view news) i k (view after) none other ∙ so_far.others k (omega (arith, above));
    })

pub give_all : (count : ℕ) (olds news : List FolderView) (listings : List Listing) (faults : List (Option ListFault)) → length olds ≤ count → GiveSome count olds news listings faults → GiveAll olds news listings faults
give_all count olds news listings faults most some = record {
  folders = some.folders;
  places = some.places;
  each = λ d lt. some.each d (omega (arith, lt, most));
}

-- two groups, one behind the other
module _ (olds news far_olds far_news : List FolderView) (listings far_listings : List Listing) (faults far_faults : List (Option ListFault))
    (one : GiveAll olds news listings faults) (two : GiveAll far_olds far_news far_listings far_faults) where
  here : (k : ℕ) → k < length (olds ++ far_olds) → (k < length olds) ⊎ (length olds ≤ k)
      → Gives (folder_at (olds ++ far_olds) k) (folder_at (news ++ far_news) k) (get_or (lists_of (listings ++ far_listings)) k []) (get_or (faults ++ far_faults) k None)
  here k lt (inl near) =
      rw (
        map-append files_of listings far_listings,
        get_or_append_left (lists_of listings) (lists_of far_listings) [] k (omega (arith, near, one.places.for_files, length-map listings files_of)),
        get_or_append_left faults far_faults None k (omega (arith, near, one.places.for_faults)),
        get_or_append_left olds far_olds (quiet_folder 0 false) k near,
        get_or_append_left news far_news (quiet_folder 0 false) k (omega (arith, near, one.folders)),
      )
      (one.each k near)
  here k lt (inr far) =
      rw (
        map-append files_of listings far_listings,
        get_or-append_right (lists_of listings) (lists_of far_listings) (length olds) k [] (length-map listings files_of ∙ one.places.for_files) far,
        get_or-append_right faults far_faults (length olds) k None one.places.for_faults far,
        get_or-append_right olds far_olds (length olds) k (quiet_folder 0 false) refl far,
        get_or-append_right news far_news (length olds) k (quiet_folder 0 false) one.folders far,
      )
      (two.each (k - length olds) (omega (arith, lt, far, length-append olds far_olds)))

  pub both_give : GiveAll (olds ++ far_olds) (news ++ far_news) (listings ++ far_listings) (faults ++ far_faults)
  both_give = record {
    folders = omega (arith, length-append news far_news, length-append olds far_olds, one.folders, two.folders);
    places = record {
      for_files = omega (arith, length-append listings far_listings, length-append olds far_olds, one.places.for_files, two.places.for_files);
      for_faults = omega (arith, length-append faults far_faults, length-append olds far_olds, one.places.for_faults, two.places.for_faults);
    };
    each = λ k lt. here k lt (cases_lt k (length olds));
  }

-- as the code has it: the folders were cut in two
pub both_groups : {F : Type 0} (view : F → FolderView) (all olds news far_olds far_news : List F) (listings far_listings : List Listing) (faults far_faults : List (Option ListFault))
    → all ≡ olds ++ far_olds → GiveAll (map view olds) (map view news) listings faults → GiveAll (map view far_olds) (map view far_news) far_listings far_faults
    → GiveAll (map view all) (map view (news ++ far_news)) (listings ++ far_listings) (faults ++ far_faults)
both_groups view all olds news far_olds far_news listings far_listings faults far_faults all_is one two =
    rw (ap (map view) all_is ∙ map-append view olds far_olds, map-append view news far_news)
    (both_give (map view olds) (map view news) (map view far_olds) (map view far_news) listings far_listings faults far_faults one two)

-- ---- what is told

asked : (old new : FolderView) (files : List ListedFile) (fault : Option ListFault) → Gives old new files fault → IsAsked old new
asked old new files None gives = record { answer = Ok tt; call = gives.call }
asked old new files (Some lists.Failed) gives = record { answer = Err lists.Failed; call = gives }
asked old new files (Some lists.Memory) gives = record { answer = Err lists.Memory; call = gives }

module _ (olds news : List FolderView) (listings : List Listing) (faults : List (Option ListFault)) (all : GiveAll olds news listings faults) where
  gives_as : (d : ℕ) (fault : Option ListFault) → d < length faults → get_or faults d None ≡ fault → Gives (folder_at olds d) (folder_at news d) (get_or (lists_of listings) d []) fault
  gives_as d fault lt is =
      subst (λ (f : Option ListFault). Gives (folder_at olds d) (folder_at news d) (get_or (lists_of listings) d []) f) is (all.each d (omega (arith, lt, all.places.for_faults)))

  pub lists_all : IsFirstFault faults None → ListsAll olds news (lists_of listings)
  lists_all none = record {
    as_many = length-map listings files_of ∙ all.places.for_files;
    each = λ d lt. let within : d < length faults = omega (arith, lt, all.places.for_faults) in gives_as d None within (none d within);
  }

  pub fails_at : (disk : ℕ) → IsFirstFault faults (Some (disk, lists.Failed)) → FailsAt disk olds news
  fails_at disk first = record {
    as_many = all.folders;
    within = omega (arith, first.0, all.places.for_faults);
    failed = gives_as disk (Some lists.Failed) first.0 first.1;
    before = λ d lt. (gives_as d None (omega (arith, lt, first.0)) (first.2 d lt)).call;
    behind = λ d above lt. asked _ _ _ _ (all.each d lt);
  }

  pub runs_out : (disk : ℕ) → IsFirstFault faults (Some (disk, lists.Memory)) → RunsOut olds news
  runs_out disk first = inr (
    disk,
    record {
      as_many = all.folders;
      within = omega (arith, first.0, all.places.for_faults);
      before = λ d lt. (gives_as d None (omega (arith, lt, first.0)) (first.2 d lt)).call;
      ran_out = λ below. gives_as disk (Some lists.Memory) first.0 first.1;
      behind = λ d above lt. asked _ _ _ _ (all.each d lt);
    },
  )

-- as the code has it: the places are the items of a vector
pub first_is : (given faults : List (Option ListFault)) (result first : Option (ℕ × ListFault)) → given ≡ faults → result ≡ first → IsFirstFault given result → IsFirstFault faults first
first_is given faults result first same is told =
    subst (λ (it : Option (ℕ × ListFault)). IsFirstFault faults it) is (subst (λ (places : List (Option ListFault)). IsFirstFault places result) same told)
