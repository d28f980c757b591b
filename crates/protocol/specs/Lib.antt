pub mod NodeStatus
pub mod Name
pub mod GetNodeInfoRequest
pub mod GetNodeInfoResponse
pub mod Laws
pub mod Samples
