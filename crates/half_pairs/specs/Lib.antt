pub mod HalfPairs
