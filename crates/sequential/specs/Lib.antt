pub mod Iterations
pub mod Run
pub mod Ready
pub mod Refusals
pub mod Laws
pub mod Worked
