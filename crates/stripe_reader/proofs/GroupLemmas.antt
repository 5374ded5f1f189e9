-- Groups of columns side by side.
use Rattle.std.proofs.Common.{◌≡◌, ◌≢◌, below_more, ◌⊎◌, ℕ, ◌+◌, ◌-◌, ◌<◌, ◌≤◌, List, [], ◌++◌, length, take, set, map, get_or, inl, inr, false, refl, sym, ap, ◌∙◌, arith}
use Rattle.std.proofs.lemmas.Bool.{cases_lt}
use Rattle.std.proofs.lemmas.List.{length-append, length-map, length-set, map-append, map-set, get_or-map, get_or-set_same, get_or-set_other, get_or_append_left, get_or-append_right}
use Rattle.std.specs.List.{All}
use Rattle.std.proofs.lemmas.List.Elements.{All-get_or, All-set, All-from_get_or}
use Rattle.disk_model.specs.Folder.{FolderView, quiet_folder}
use Rattle.file_table.specs.Table.{TableValue}
use Rattle.stripe_reader.specs.SlotValue.{SlotValue}
use Rattle.stripe_reader.specs.Column.{ReadsColumn}
use Rattle.stripe_reader.specs.Columns.{ReadsColumns, HasLanes, folder_at}
use Rattle.stripe_reader.specs.Fetched.{IsUnhashedFront, hashed_front}
use Rattle.stripe_reader.specs.Hashing.{IsUnhashed, hashed}
use Rattle.stripe_reader.specs.Reading.{tasks_at}
use Rattle.stripe_reader.specs.Starts.{StartsValue}
use Rattle.stripe_reader.specs.WindowValue.{HasBlocks, IsLane}
use Rattle.stripe_reader.proofs.FrontLemmas.{front_of}

-- a column of the first group, and one of the second
both_read : (table : TableValue) (starts : StartsValue) (first next : ℕ) (stripes : List ℕ) (lanes others : List (List SlotValue)) (olds news far_olds far_news : List FolderView)
    → next ≡ first + length olds → length lanes ≡ length olds
    → ReadsColumns table starts first stripes lanes olds news → ReadsColumns table starts next stripes others far_olds far_news
    → ReadsColumns table starts first stripes (lanes ++ others) (olds ++ far_olds) (news ++ far_news)
both_read table starts first next stripes lanes others olds news far_olds far_news next_is as_many one two = record {
  folders = omega (arith, length-append news far_news, length-append olds far_olds, one.folders, two.folders);
  each = λ k lt. here k lt (cases_lt k (length olds));
}
  where
    here : (k : ℕ) → k < length (olds ++ far_olds) → (k < length olds) ⊎ (length olds ≤ k)
        → ReadsColumn table.shape (tasks_at table starts (first + k) stripes) (take (length stripes) (get_or (lanes ++ others) k [])) (folder_at (olds ++ far_olds) k) (folder_at (news ++ far_news) k)
    here k lt (inl near) =
        rw (get_or_append_left lanes others [] k (omega (arith, near, as_many)), get_or_append_left olds far_olds (quiet_folder 0 false) k near, get_or_append_left news far_news (quiet_folder 0 false) k (omega (arith, near, one.folders))) (one.each k near)
    here k lt (inr far) =
        let place : first + k ≡ next + (k - length olds) = omega (arith, next_is, far) in
        rw (place, get_or-append_right lanes others (length olds) k [] as_many far, get_or-append_right olds far_olds (length olds) k (quiet_folder 0 false) refl far, get_or-append_right news far_news (length olds) k (quiet_folder 0 false) one.folders far)
        (two.each (k - length olds) (omega (arith, lt, far, length-append olds far_olds)))

-- as the code has it: the folders were cut in two, and each part was read
both_groups : {F : Type 0} (view : F → FolderView) (table : TableValue) (starts : StartsValue) (first next : ℕ) (stripes : List ℕ) (lanes others : List (List SlotValue)) (all olds news far_olds far_news : List F)
    → all ≡ olds ++ far_olds → next ≡ first + length olds → length lanes ≡ length olds
    → ReadsColumns table starts first stripes lanes (map view olds) (map view news) → ReadsColumns table starts next stripes others (map view far_olds) (map view far_news)
    → ReadsColumns table starts first stripes (lanes ++ others) (map view all) (map view (news ++ far_news))
both_groups view table starts first next stripes lanes others all olds news far_olds far_news all_is next_is as_many one two =
    rw (ap (map view) all_is ∙ map-append view olds far_olds, map-append view news far_news)
    (both_read table starts first next stripes lanes others (map view olds) (map view news) (map view far_olds) (map view far_news) (omega (arith, next_is, length-map olds view)) (omega (arith, as_many, length-map olds view)) one two)

-- the first of some columns were read, and no folder of another
pub record LanesRead (table : TableValue) (starts : StartsValue) (first : ℕ) (stripes : List ℕ) (room count : ℕ) (lanes : List (List SlotValue)) (olds news : List FolderView) : Type 0 where
  pub have : HasLanes table starts first stripes room (length olds) lanes
  pub folders : length news ≡ length olds
  pub unhashed : (k : ℕ) → k < count → IsUnhashedFront table.shape.block_size (length stripes) (get_or lanes k [])
  pub each : (k : ℕ) → k < count → ReadsColumn table.shape (tasks_at table starts (first + k) stripes) (map (hashed table.shape) (take (length stripes) (get_or lanes k []))) (folder_at olds k) (folder_at news k)
  pub others : (k : ℕ) → count ≤ k → folder_at news k ≡ folder_at olds k

pub one_lane_more : {F : Type 0} (view : F → FolderView) (table : TableValue) (starts : StartsValue) (first i : ℕ) (stripes : List ℕ) (room : ℕ) (lanes : List (List SlotValue)) (lane other : List SlotValue) (olds news : List F) (before after : F)
    → i < length olds → length lane ≡ length (get_or lanes i other)
    → LanesRead table starts first stripes room i lanes (map view olds) (map view news)
    → HasBlocks table.shape.block_size lane
    → All (IsUnhashed table.shape.block_size) (take (length stripes) lane)
    → ReadsColumn table.shape (tasks_at table starts (first + i) stripes) (map (hashed table.shape) (take (length stripes) lane)) (view (get_or news i before)) (view after)
    → LanesRead table starts first stripes room (i + 1) (set lanes i lane) (map view olds) (map view (set news i after))
one_lane_more view table starts first i stripes room lanes lane other olds news before after lt as_long so_far blocks unhashed read =
    let none = quiet_folder 0 false in
    let many : length (map view olds) ≡ length olds = length-map olds view in
    let there : i < length news = omega (arith, lt, many, so_far.folders, length-map news view) in
    let before_is : view (get_or news i before) ≡ folder_at (map view olds) i = sym (get_or-map view news i before none there) ∙ so_far.others i (omega arith) in
    let within : i < length lanes = omega (arith, lt, many, so_far.have.as_many) in
    let had = All-get_or (IsLane table.shape.block_size room) lanes i other within so_far.have.have_slots in
    let has : IsLane table.shape.block_size room lane = record { as_many = omega (arith, had.as_many, as_long); blocks = blocks } in
    let news_are : map view (set news i after) ≡ set (map view news) i (view after) = map-set view news i after in
    let P : List FolderView → ℕ → Type 0 = λ (now : List FolderView) (k : ℕ). ReadsColumn table.shape (tasks_at table starts (first + k) stripes) (map (hashed table.shape) (take (length stripes) (get_or (set lanes i lane) k []))) (folder_at (map view olds) k) (folder_at now k) in
    rw news_are (record {
      have = record {
        as_many = length-set lanes i lane ∙ so_far.have.as_many;
        within = so_far.have.within;
        few = so_far.have.few;
        have_starts = so_far.have.have_starts;
        in_range = so_far.have.in_range;
        enough = so_far.have.enough;
        have_slots = All-set (IsLane table.shape.block_size room) lanes i lane has so_far.have.have_slots;
      };
      folders = length-set (map view news) i (view after) ∙ so_far.folders;
      unhashed = below_more (λ (k : ℕ). IsUnhashedFront table.shape.block_size (length stripes) (get_or (set lanes i lane) k [])) i
          (λ k below. let other : k ≢ i = omega (arith, below) in rw (get_or-set_other lanes i k lane [] other) (so_far.unhashed k below))
          (rw (get_or-set_same lanes i lane [] within) (record { enough = omega (arith, so_far.have.enough, has.as_many); unhashed = unhashed }));
      each = below_more (P (set (map view news) i (view after))) i
          (λ k below. let other : k ≢ i = omega (arith, below) in
          rw (get_or-set_other lanes i k lane [] other, get_or-set_other (map view news) i k (view after) none other) (so_far.each k below))
          (rw (get_or-set_same lanes i lane [] within, get_or-set_same (map view news) i (view after) none (omega (arith, lt, many, so_far.folders)), sym before_is) read);
      others = λ k above. let other : k ≢ i = omega (arith, above) in get_or-set_other (map view news) i k (view after) none other ∙ so_far.others k (omega (arith, above));
    })

-- all of them were read
module _ (table : TableValue) (starts : StartsValue) (first : ℕ) (stripes : List ℕ) (room : ℕ) (lanes : List (List SlotValue)) (olds news : List FolderView) (all : LanesRead table starts first stripes room (length olds) lanes olds news) where
  pub all_unhashed : All (IsUnhashedFront table.shape.block_size (length stripes)) lanes
  all_unhashed = All-from_get_or (IsUnhashedFront table.shape.block_size (length stripes)) lanes [] (λ k lt. all.unhashed k (omega (arith, lt, all.have.as_many)))

  pub all_read : ReadsColumns table starts first stripes (map (hashed_front table.shape (length stripes)) lanes) olds news
  all_read = record {
    folders = all.folders;
    each = λ k lt.
        let within : k < length lanes = omega (arith, lt, all.have.as_many) in
        let front : take (length stripes) (get_or (map (hashed_front table.shape (length stripes)) lanes) k []) ≡ map (hashed table.shape) (take (length stripes) (get_or lanes k [])) =
        ap (take (length stripes)) (get_or-map (hashed_front table.shape (length stripes)) lanes k [] [] within) ∙ front_of table.shape (length stripes) (get_or lanes k []) (all.unhashed k lt).enough in
        rw front (all.each k lt);
  }

-- two parts of the lanes are all of them
pub both_lanes : {F : Type 0} (view : F → FolderView) (table : TableValue) (starts : StartsValue) (first next : ℕ) (stripes : List ℕ) (lanes others : List (List SlotValue)) (all olds news far_olds far_news : List F)
    → all ≡ olds ++ far_olds → next ≡ first + length olds → length lanes ≡ length olds
    → ReadsColumns table starts first stripes (map (hashed_front table.shape (length stripes)) lanes) (map view olds) (map view news)
    → ReadsColumns table starts next stripes (map (hashed_front table.shape (length stripes)) others) (map view far_olds) (map view far_news)
    → ReadsColumns table starts first stripes (map (hashed_front table.shape (length stripes)) (lanes ++ others)) (map view all) (map view (news ++ far_news))
both_lanes view table starts first next stripes lanes others all olds news far_olds far_news all_is next_is as_many one two =
    let f = hashed_front table.shape (length stripes) in
    rw (map-append f lanes others)
    (both_groups view table starts first next stripes (map f lanes) (map f others) all olds news far_olds far_news all_is next_is (length-map lanes f ∙ as_many) one two)
