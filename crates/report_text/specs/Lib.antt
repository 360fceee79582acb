pub mod Runs
pub mod TablesText
pub mod RunText
pub mod RunParts
pub mod InnerAdding
pub mod LoadText
pub mod InnerSizes
