-- The calls that write the blocks of a column, with one stripe more.
use Rattle.std.proofs.Common.{◌≡◌, ℕ, List, [], ◌∷◌, ◌++◌, Bool, true, false, if◌then◌else◌, Option, Some, append_assoc, refl, sym, ap, ◌∙◌, subst}
use Rattle.std.proofs.lemmas.List.{append-nil}
use Rattle.disk_model.specs.Folder.{FolderView, FolderCall, WriteAt}
use Rattle.disk_model.specs.Tree.{Tree}
use Rattle.file_table.specs.declared.block.Cell.{Cell}
use Rattle.stripe_reader.specs.declared.starts.Place.{Place}
use Rattle.stripe_reader.specs.declared.starts.Place.TheVariants.{Plain, Lost, Nowhere}
use Rattle.stripe_reader.specs.declared.starts.Start.{Start}
use Rattle.file_restorer.specs.declared.state.FileState.{FileState}
use Rattle.snap_fix.specs.Mended.{Mended, is_written, writes_of}
use Rattle.stripe_examiner.specs.Showing.{block_or_none, known_block}
use Rattle.file_restorer.specs.Mending.{block_start, cell_path}
use Rattle.file_restorer.specs.Order.{FolderWrites, block_calls, put_calls, set_up_calls}
use Rattle.repair_scope.specs.Plan.{FixPlan, cell_at}
use Rattle.file_restorer.specs.State.{HoldsBy, HoldsRecord, Write, has_some, place_in, place_then}
use Rattle.snap_fix.specs.StripeOrder.{cell_calls, stripe_writes, writes_after}
use Rattle.file_restorer.proofs.OrderLemmas.{writes_none}

-- a stripe more
pub writes_after-push : (plan : FixPlan) (d : ℕ) (first : Tree) (mended : Mended) (before stripes : List Mended)
    → writes_after plan d first before (stripes ++ mended ∷ []) ≡ writes_after plan d first before stripes ++ stripe_writes plan d first (before ++ stripes) mended
writes_after-push plan d first mended before [] =
    append-nil (stripe_writes plan d first before mended) ∙ ap (λ (them : List Mended). stripe_writes plan d first them mended) (sym (append-nil before))
writes_after-push plan d first mended before (one ∷ stripes) =
    let here : List FolderCall = stripe_writes plan d first before one in
    let later : List FolderCall = writes_after plan d first (before ++ one ∷ []) stripes in
    ap (λ (rest : List FolderCall). here ++ rest) (writes_after-push plan d first mended (before ++ one ∷ []) stripes)
    ∙ sym (append_assoc here later (stripe_writes plan d first ((before ++ one ∷ []) ++ stripes) mended))
    ∙ ap (λ (them : List Mended). (here ++ later) ++ stripe_writes plan d first them mended) (append_assoc before (one ∷ []) stripes)

-- nothing is written in it
pub nothing_written : (plan : FixPlan) (d : ℕ) (first : Tree) (before : List Mended) (mended : Mended) (v : FolderView) → is_written plan mended d ≡ false
    → FolderWrites (stripe_writes plan d first before mended) v v
nothing_written plan d first before mended v none =
    subst (λ (written : Bool). FolderWrites (if written then cell_calls plan d first before mended.facts (cell_at plan mended.facts.stripe d) else []) v v) (sym none) (writes_none v)

-- a file is put under its path by where it stood at first, before something is written to it
put_first : (start : Start) (state : FileState) (writes : List Write) (path : List ℕ) (first later : Tree) (some : Bool) → HoldsRecord start state writes path first later → state.touched ≡ some
    → put_calls start.place state.touched path ≡ (if some then [] else set_up_calls (place_in first path) path)
put_first start state writes path first later some held is = by state.touched some is held.holds
  where
    stood : (place : Place) → put_calls (place_then place) true path ≡ []
    stood Plain = refl
    stood Lost = refl
    stood Nowhere = refl

    still : (place : Place) → put_calls place false path ≡ set_up_calls place path
    still Plain = refl
    still Lost = refl
    still Nowhere = refl

    by : (touched wrote : Bool) → touched ≡ wrote → HoldsBy touched start state writes path first later
        → put_calls start.place touched path ≡ (if wrote then [] else set_up_calls (place_in first path) path)
    by true true same h = ap (λ (place : Place). put_calls place true path) h.place ∙ stood (place_in first path)
    by false false same h = ap (λ (place : Place). put_calls place false path) h.place ∙ still (place_in first path)
    by true false same h = absurd cc
    by false true same h = absurd cc

-- its block is written
pub cell_written : (plan : FixPlan) (d : ℕ) (first : Tree) (before : List Mended) (mended : Mended) (cell : Cell) (old new : FolderView) (start : Start) (state : FileState) (writes : List Write) (later : Tree)
    → is_written plan mended d ≡ true → cell_at plan mended.facts.stripe d ≡ Some cell → HoldsRecord start state writes (cell_path plan.table d cell) first later
    → state.touched ≡ has_some (writes_of plan before d cell.rec)
    → FolderWrites (block_calls start.place state.touched (cell_path plan.table d cell) (block_start plan.table cell) (block_or_none (known_block plan mended.facts d))) old new
    → FolderWrites (stripe_writes plan d first before mended) old new
cell_written plan d first before mended cell old new start state writes later written cell_is held touched wrote =
    let path : List ℕ = cell_path plan.table d cell in
    let write : FolderCall = WriteAt path (block_start plan.table cell) (block_or_none (known_block plan mended.facts d)) in
    subst (λ (yes : Bool). FolderWrites (if yes then cell_calls plan d first before mended.facts (cell_at plan mended.facts.stripe d) else []) old new) (sym written)
    (subst (λ (there : Option Cell). FolderWrites (cell_calls plan d first before mended.facts there) old new) (sym cell_is)
    (subst (λ (calls : List FolderCall). FolderWrites (calls ++ write ∷ []) old new)
    (put_first start state writes path first later (has_some (writes_of plan before d cell.rec)) held touched) wrote))
