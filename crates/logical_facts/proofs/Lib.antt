pub mod Overriding
