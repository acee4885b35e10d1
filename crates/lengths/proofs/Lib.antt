pub mod Chains
pub mod LowerAround
pub mod LowerMany
pub mod LowerOne
pub mod Lowering
pub mod Moves
pub mod Rows
pub mod Search
