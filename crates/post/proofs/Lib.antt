pub mod CallRuns
pub mod Mails
pub mod Steps
