-- What a fix finds of the cells of a column, by the files that stand in its folder: so of the next fix after a stop.
use Rattle.std.specs.Prelude.{◌≡◌, ℕ, List, [], ◌++◌, get_or, false, IsTrue, All, Contains}
use Rattle.folder_listing.specs.Kept.{ListedFile}
use Rattle.disk_model.specs.Folder.{FolderView}
use Rattle.disk_model.specs.Tree.{Tree, listing_of}
use Rattle.stripe_examiner.specs.Facts.{StripeFacts, slot_of}
use Rattle.stripe_examiner.specs.Findings.{is_unread}
use Rattle.stripe_examiner.specs.Known.{AreFacts}
use Rattle.stripe_examiner.specs.Looking.{numbers_of}
use Rattle.repair_scope.specs.Plan.{FixPlan, stripes_of}
use Rattle.stripe_examiner.specs.Place.{starts_of}
use Rattle.stripe_examiner.specs.Present.{IsPresent}
use Rattle.stripe_reader.specs.Reading.{task_at}
use Rattle.snap_fix.specs.Fixing.{facts_of}
use Rattle.snap_fix.specs.Stopped.{FixStop}

-- A fix that was stopped looked at this stripe: its stripes are the first ones of its plan, and their facts are known.
pub record IsLookedAt (stop : FixStop) (facts : StripeFacts) : Type 0 where
  pub are : All (AreFacts stop.plan) (facts_of stop.stripes)
  pub behind : List ℕ
  pub numbers : stripes_of stop.plan ≡ numbers_of (facts_of stop.stripes) ++ behind
  pub one : Contains (facts_of stop.stripes) facts

-- What is known of the cell of a column in a stripe was read of these files of its folder, which tells them, where they were listed.
pub record IsFoundIn (plan : FixPlan) (d : ℕ) (tree : Tree) (facts : StripeFacts) : Type 0 where
  pub folder : FolderView
  pub tells : IsTrue folder.tells
  pub holds : folder.tree ≡ tree
  pub lists : List (List ListedFile)
  pub listed : get_or lists d [] ≡ listing_of tree
  pub present : IsPresent plan.table.shape folder (task_at plan.table (starts_of plan.table lists) d facts.stripe) (slot_of facts d)

-- The next fix of the same table looks at the same stripe, with the files that the stop left, and the reading of its cell did not fail.
pub record IsFoundAgain (stop : FixStop) (plan : FixPlan) (facts again : StripeFacts) : Type 0 where
  pub table : plan.table ≡ stop.plan.table
  pub stripe : again.stripe ≡ facts.stripe
  pub found : IsFoundIn plan stop.d stop.left again
  pub came : is_unread (slot_of again stop.d).cell.found ≡ false
