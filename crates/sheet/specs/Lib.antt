pub mod Forms
pub mod Verdicts
pub mod Lines
pub mod Answered
pub mod Heads
pub mod Repeated
pub mod Parted
pub mod SheetLaws
