-- What loading says of views of a vault, said of its states.
use Rattle.std.proofs.Common.{◌⊎◌, inl, inr, ℕ, ◌+◌, List, Option, None, Some, Result}
use Rattle.content_file.specs.InOrder.{AreReadFor, ReadsInOrder}
use Rattle.content_file.specs.Load.{ReadsBelow, LoadsNot as GivesNoTable, Loads, LoadFails, LoadIsDamaged, ReadsInPieces, HasFailed, NoneFailed, IsDamaged, IsUseless}
use Rattle.content_file.specs.declared.fault.Damage.{Damage}
use Rattle.content_file.specs.declared.loading.LoadFault.{LoadFault}
use Rattle.content_file.specs.declared.loading.LoadFault.TheVariants as loads
use Rattle.disk_model.specs.Vault.{VaultView, copies_of, state_of}
use Rattle.file_table.specs.Table.{TableValue}
use Rattle.snap_top.specs.Run.{LoadsNot}
use Rattle.snap_top.specs.Loading.{LoadsFrom, LoadsInOrder, ReadsCopies}
use Rattle.snap_top.specs.Views.{view_of}
use Rattle.snap_top.proofs.ViewsLemmas.{some_calls_of}

module _ (old new : VaultView) where
  pieces_of : (copies : ℕ) → ReadsInPieces copies old new → ReadsInPieces copies (view_of (state_of old)) (view_of (state_of new))
  pieces_of copies is = record { done = is.done; grown = is.grown; size = is.size; few = is.few; others = is.others }

  failed_of : (copy : ℕ) → HasFailed old new copy → HasFailed (view_of (state_of old)) (view_of (state_of new)) copy
  failed_of copy is = record { within = is.within; rose = is.rose; earlier = is.earlier; call = is.call; later = is.later; read = is.read; made = is.made }

  none_of : NoneFailed old new → NoneFailed (view_of (state_of old)) (view_of (state_of new))
  none_of is = record { done = is.done; grown = is.grown; each = is.each }

  damaged_of : (copy : ℕ) → IsDamaged old copy → IsDamaged (view_of (state_of old)) copy
  damaged_of copy is = record { bytes = is.bytes; held = is.held; damaged = is.damaged }

  useless_of : (copy : ℕ) → IsUseless old copy → IsUseless (view_of (state_of old)) copy
  useless_of copy (inl none) = inl none
  useless_of copy (inr damaged) = inr (damaged_of copy damaged)

  either_of : (copy : ℕ) → IsUseless old copy ⊎ HasFailed old new copy → IsUseless (view_of (state_of old)) copy ⊎ HasFailed (view_of (state_of old)) (view_of (state_of new)) copy
  either_of copy (inl useless) = inl (useless_of copy useless)
  either_of copy (inr failed) = inr (failed_of copy failed)

  pub loads_of : (loaded : Option TableValue) → Loads old new loaded → LoadsFrom (state_of old) (state_of new) loaded
  loads_of None is = record { none = is.none; none_failed = none_of is.none_failed }
  loads_of (Some table) is = record {
    copy = is.copy;
    within = is.within;
    valid = is.valid;
    held = is.held;
    read = record { done = is.read.done; grown = is.read.grown; each = is.read.each };
    pieces = pieces_of (is.copy + 1) is.pieces;
    earlier = λ told k below. either_of k (is.earlier told k below);
  }

  fails_of : LoadFails old new → LoadFails (view_of (state_of old)) (view_of (state_of new))
  fails_of is = record { some = (is.some.0, failed_of is.some.0 is.some.1); useless = λ told k below. either_of k (is.useless told k below) }

  is_damaged_of : (damages : List (ℕ × Damage)) → LoadIsDamaged old new damages → LoadIsDamaged (view_of (state_of old)) (view_of (state_of new)) damages
  is_damaged_of damages is = record {
    some = λ told. let one = is.some told in (one.0, one.1, damaged_of one.0 one.2);
    useless = λ told k below. useless_of k (is.useless told k below);
    none_failed = none_of is.none_failed;
    not_empty = is.not_empty;
    listed = is.listed;
  }

  pub loads_not_of : (fault : LoadFault) → GivesNoTable old new fault → LoadsNot fault (state_of old) (state_of new)
  loads_not_of loads.Failed is = fails_of is
  loads_not_of (loads.Damaged damages) is = is_damaged_of damages is
  loads_not_of loads.Memory is = tt

  pub reads_of : ReadsBelow (copies_of old) old new → ReadsInPieces (copies_of old) old new → ReadsCopies (state_of old) (state_of new)
  reads_of is pieces = record {
    calls = some_calls_of old new is.calls;
    made = record { done = is.made.done; grown = is.made.grown; writes = is.made.writes; each = is.made.each };
    pieces = pieces_of (copies_of old) pieces;
    drafts = record { state = is.drafts.state; bytes = is.drafts.bytes };
    files = is.changes.reads;
  }

  pub order_of : (result : Result (Option TableValue) LoadFault) → ReadsInOrder (AreReadFor (copies_of old) result) old new → LoadsInOrder result (state_of old) (state_of new)
  order_of result is = record { readings = is.readings; done = is.done; grown = is.grown; calls = is.calls; gives = is.gives }
