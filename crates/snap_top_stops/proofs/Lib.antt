mod KeptLemmas
mod SparedLemmas
mod StaysSoundLemmas
mod StoppedLemmas
mod StoppedRunsLemmas
