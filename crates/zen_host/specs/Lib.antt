pub mod AskedCalls
pub mod HostCalls
pub mod MemHost
pub mod Views
