pub mod RowSteps
pub mod LawAnswers
pub mod MakeDeals
