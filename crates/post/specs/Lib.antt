pub mod Mail
pub mod Answers
pub mod Calls
pub mod Made
pub mod Terms
