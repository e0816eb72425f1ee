pub mod BackEnd
pub mod StepsAtLeast
pub mod StepsAndMemory
pub mod ModuleSizes
