pub mod LatestCounts
pub mod LoadedOutcomes
