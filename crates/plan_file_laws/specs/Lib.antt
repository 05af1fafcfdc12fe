pub mod ByteStrings
pub mod ListItems
pub mod Writing
pub mod PlanRecords
