mod FinishPartsLemmas
pub mod ReadLemmas
pub mod CheckLemmas
pub mod CheckWindowLemmas
pub mod RestorableLemmas
pub mod BeginningLemmas
pub mod CourseLemmas
pub mod StartsKeptLemmas
pub mod WritesLemmas
pub mod FixedParityLemmas
pub mod FixedVaultLemmas
pub mod FixedCountLemmas
pub mod FixedStripeLemmas
pub mod MendedCounts
pub mod WrittenLevelLemmas
pub mod MendedLevelLemmas
pub mod MendedFactsLemmas
pub mod RepairLemmas
pub mod RepairMarkLemmas
pub mod RepairCellLemmas
pub mod RepairWrittenLemmas
pub mod RepairWriteLemmas
pub mod FlagLemmas
pub mod RepairFilesLemmas
pub mod EndingSyncLemmas
pub mod EndingFilesLemmas
pub mod EndingTellLemmas
pub mod EndingWantedLemmas
pub mod EndingRecordLemmas
pub mod EndingColumnLemmas
pub mod EndingAllLemmas
pub mod FixCountLemmas
pub mod AskedLemmas
pub mod AuditedLemmas
pub mod KeptStartsLemmas
pub mod MendedVaultLemmas
pub mod WindowsLemmas
pub mod OneCutLemmas
pub mod WindowShownLemmas
pub mod FixAllLemmas
pub mod FixIntoLemmas
pub mod FixWindowLemmas
pub mod FixReadLemmas
pub mod FolderWindowsLemmas
pub mod PlacedLemmas
pub mod PresentCellLemmas
pub mod PresentLemmas
pub mod FixCallLemmas
pub mod StoppedCellLemmas
pub mod StoppedLemmas
pub mod AscendingLemmas
pub mod FixSinceLemmas
pub mod FixStripesLemmas
pub mod AgainLemmas
pub mod AnswerLemmas
mod FixTreeLemmas
mod FixStartLemmas
mod FixEndLemmas
mod FixEventLemmas
mod FixVaultLemmas
mod FixFilesLemmas
mod FixStartedLemmas
mod FixBrokenLemmas
mod FixCourseLemmas
pub mod ExactLemmas
pub mod GenuineCells
pub mod GenuineLemmas
pub mod SoundFixLemmas
pub mod RestoredWrites
pub mod RestoredLemmas
pub mod RestoredEvents
pub mod RestoredRest
pub mod FoundLemmas
pub mod ModeLemmas
mod ByModeLemmas
mod StripeOrderLemmas
mod BreakingLemmas
mod ReadsLemmas
