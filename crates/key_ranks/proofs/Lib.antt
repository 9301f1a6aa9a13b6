pub mod RankLemmas
