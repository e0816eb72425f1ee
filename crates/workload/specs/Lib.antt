pub mod WorkloadText
