pub mod Names
pub mod AnswerLemmas
pub mod RoundTrips
pub mod ReadReports
pub mod UnionStatuses
pub mod RankedOutcomes
pub mod DerivedRuns
