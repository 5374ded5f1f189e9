-- What was read of the levels of stripes of a vault that was left as it was: it was read since before that too.
use Rattle.std.proofs.Common.{ℕ, List, [], subst}
use Rattle.std.proofs.lemmas.List.{append-nil}
use Rattle.disk_model.specs.Files.{Stays}
use Rattle.disk_model.specs.Vault.{VaultView, IsUntouched}
use Rattle.disk_model.proofs.UntouchedLemmas.{same_files, same_tells, goes_on_untouched, changes_untouched, drafts_untouched, rose_untouched}
use Rattle.repair_scope.specs.Plan.{FixPlan}
use Rattle.stripe_examiner.specs.declared.room.StripeRoom.{StripeRoom}
use Rattle.stripe_examiner.specs.Facts.{StripeFacts}
use Rattle.stripe_examiner.specs.Looking.{LevelsAreRead, level_reads, unread_in}
use Rattle.stripe_examiner.specs.MarkedWindow.{ReadsRooms}
use Rattle.stripe_examiner.proofs.LookingLemmas.{levels_before, levels_none, levels_then}

module _ (plan : FixPlan) (old mid new : VaultView) (same : IsUntouched old mid) where
  pub levels_untouched : (stripes : List StripeFacts) → LevelsAreRead plan stripes mid new → LevelsAreRead plan stripes old new
  levels_untouched stripes read =
      let size = plan.table.shape.block_size in
      record {
        readings = read.readings;
        are = levels_before size old mid (same_tells old mid same) (λ told. same_files old mid same) stripes read.readings read.are;
        unread = rose_untouched (unread_in read.readings) old mid new same read.unread;
        goes_on = goes_on_untouched old mid new (level_reads size stripes read.readings) same read.goes_on;
        changes = changes_untouched Stays old mid new same read.changes;
        drafts = drafts_untouched old mid new same read.drafts;
      }

  pub rooms_untouched : (numbers : List ℕ) (rooms : List StripeRoom) → ReadsRooms plan numbers rooms mid new → ReadsRooms plan numbers rooms old new
  rooms_untouched numbers rooms reads = record {
    rooms_are = reads.rooms_are;
    read = record {
      stripes = reads.read.stripes;
      numbers_are = reads.read.numbers_are;
      are = reads.read.are;
      counts = reads.read.counts;
      read = levels_untouched reads.read.stripes reads.read.read;
    };
  }

-- no levels were read of one that was left as it was
pub levels_left : (plan : FixPlan) (old new : VaultView) → IsUntouched old new → LevelsAreRead plan [] old new
levels_left plan old new same = levels_untouched plan old new new same [] (levels_none plan new)

-- and what was read of one that was left as it was before and behind that
pub levels_between : (plan : FixPlan) (stripes : List StripeFacts) (old mid turned new : VaultView) → IsUntouched old mid → IsUntouched turned new → LevelsAreRead plan stripes mid turned → LevelsAreRead plan stripes old new
levels_between plan stripes old mid turned new before behind read =
    levels_untouched plan old mid new before stripes
    (subst (λ (its : List StripeFacts). LevelsAreRead plan its mid new) (append-nil stripes) (levels_then plan stripes [] mid turned new read (levels_left plan turned new behind)))
