pub mod Bools
pub mod Numbers
pub mod Lists
