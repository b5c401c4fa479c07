pub mod PlaceBytes
pub mod Reader
