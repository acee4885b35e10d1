pub mod CallLaws
pub mod Cleared
pub mod Computed
pub mod LevelSearch
pub mod ListedRows
pub mod MovesFound
pub mod PairSearch
pub mod Rounds
