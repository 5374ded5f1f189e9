mod OpenedLemmas
mod OrderLemmas
mod QuietLemmas
