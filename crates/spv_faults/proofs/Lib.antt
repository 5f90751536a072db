pub mod EarlierLemmas
pub mod Repetition
pub mod PredecessorLabels
pub mod FrontLemmas
pub mod OpenLemmas
pub mod ListedLemmas
