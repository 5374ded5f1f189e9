-- The drafts of content copies of the system, as a vault tells them.
use Rattle.disk_model.specs.declared.draft.Draft.{Draft}
use Rattle.disk_model.specs.declared.draft.Draft.TheVariants as drafts
use Rattle.disk_host.specs.declared.drafts.Stage.{Stage}
use Rattle.disk_host.specs.declared.drafts.Stage.TheVariants.{Absent, Open, Sealed}

-- how far a draft has come
abbrev pub state_of : {F : Type 0} → Stage F → Draft
state_of Absent = drafts.Absent
state_of (Open file) = drafts.Open
state_of Sealed = drafts.Sealed
