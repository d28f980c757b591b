pub mod KeyValue
pub mod LogMessage
pub mod Laws
pub mod Samples
