pub mod Ranks
pub mod RankOrder
