pub mod Loops
pub mod SetLists
pub mod RootJoins
pub mod Residuals
pub mod Checking
pub mod Passes
pub mod Contents
pub mod Settling
