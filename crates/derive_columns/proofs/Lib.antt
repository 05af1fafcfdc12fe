pub mod ColumnLoops
