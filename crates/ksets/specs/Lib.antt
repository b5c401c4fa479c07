pub mod Sets
pub mod Workers
