pub mod Rule
pub mod Loaded
pub mod FrontDeals
pub mod Counts
