use Rattle.std.proofs.Common.{All, ap, arith, length, map, refl, subst, sym, ◌+◌, ◌*◌, ◌≡◌, ◌∙◌, ℕ, take, get_or, []}
use Rattle.std.proofs.lemmas.List.{length-map, with_items_is}
use Rattle.stripe_reader.specs.Column.{ReadsColumn}
use Rattle.stripe_reader.specs.Columns.{folder_at}
use Rattle.stripe_reader.specs.Fetched.{IsUnhashedFront, hashed_front}
use Rattle.stripe_reader.specs.Reading.{tasks_at}
use Rattle.stripe_reader.specs.WindowValue.{IsCellLane, IsLane}
use Rattle.stripe_reader.proofs.readers.fetch_window.Goals as goal

pub look_up-requires-clause-room : goal.look_up-requires-clause-room
look_up-requires-clause-room g c =
    let kept = c.window.invariant.window.cells in
    let same = c.as_mut_slice-cells.ensures.value in
    record {
      as_many = ap length same ∙ kept.as_many ∙ ap (λ w. length w.lanes) c.window.view_is ∙ c.requires.fits.lanes;
      each = subst (All (IsCellLane c.window.inside.room)) (sym same) kept.each;
    }

pub invariant_of-window : goal.invariant_of-window
invariant_of-window g c =
    let lanes = c.fetch_group.new.lanes in
    let cells = c.look_up.new.cells in
    let room = c.window.inside.room in
    let long : length lanes ≡ c.window.inside.lanes.len = c.fetch_group.auto.lanes ∙ c.as_mut_slice-lanes.ensures.len in
    let as_long : length cells ≡ c.window.inside.cells.len = c.look_up.auto.cells ∙ c.as_mut_slice-cells.ensures.len in
    let as_many : length lanes ≡ length c.window.inside.lanes.items = c.fetch_group.auto.lanes ∙ ap length c.as_mut_slice-lanes.ensures.value in
    let columns : length lanes ≡ length c.args.table.now.columns = as_many ∙ ap (λ w. length w.lanes) c.window.view_is ∙ c.requires.fits.lanes in
    let size : c.args.table.now.shape.block_size ≡ c.window.inside.block_size = sym (ap (λ w. w.block_size) c.window.view_is ∙ c.requires.fits.block_size) in
    rw (with_items_is c.window.inside.lanes lanes long, with_items_is c.window.inside.cells cells as_long)
    (record {
      window = record {
        within = omega (arith, c.requires.room, ap (λ w. w.room) c.window.view_is);
        lanes = subst (λ (m : ℕ). All (IsLane m room) lanes) size c.fetch_group.ensures.lanes.have_slots;
        cells = record { as_many = c.look_up.ensures.room.as_many ∙ sym columns; each = c.look_up.ensures.room.each };
      };
      digests = c.window.invariant.digests ∙ ap (λ n. n * room) (sym as_many);
    })

pub returns-clause-fetched : goal.returns-clause-fetched
returns-clause-fetched g c =
    let lanes = c.fetch_group.new.lanes in
    let table = c.args.table.now in
    let n = length c.args.stripes.now in
    let front = hashed_front table.shape n in
    let olds = map g.F.Folder.view c.args.folders.now in
    let news = map g.F.Folder.view c.fetch_group.new.folders in
    let cells = c.look_up.new.cells in
    let long : length lanes ≡ c.window.inside.lanes.len = c.fetch_group.auto.lanes ∙ c.as_mut_slice-lanes.ensures.len in
    let as_long : length cells ≡ c.window.inside.cells.len = c.look_up.auto.cells ∙ c.as_mut_slice-cells.ensures.len in
    let size : table.shape.block_size ≡ c.window.inside.block_size = sym (ap (λ w. w.block_size) c.window.view_is ∙ c.requires.fits.block_size) in
    rw (with_items_is c.window.inside.lanes lanes long, with_items_is c.window.inside.cells cells as_long)
    (record {
      cells = c.look_up.ensures.cells.each;
      unhashed = subst (λ (m : ℕ). All (IsUnhashedFront m n) lanes) size c.fetch_group.ensures.unhashed;
      read = record {
        room = ap (λ w. w.room) c.window.view_is;
        block_size = ap (λ w. w.block_size) c.window.view_is;
        lanes = length-map lanes front ∙ c.fetch_group.auto.lanes ∙ ap length c.as_mut_slice-lanes.ensures.value ∙ ap (λ w. length w.lanes) c.window.view_is;
        count = refl;
        folders = c.fetch_group.ensures.read.folders;
        each = λ d lt.
            let place : 0 + d ≡ d = omega arith in
            subst (λ (k : ℕ). ReadsColumn table.shape (tasks_at table c.args.starts.now k c.args.stripes.now) (take n (get_or (map front lanes) d [])) (folder_at olds d) (folder_at news d)) place
            (c.fetch_group.ensures.read.each d lt);
      };
    })
