pub mod CountLemmas
pub mod DeedLemmas
pub mod FaultLemmas
pub mod LastLemmas
pub mod ParkedLemmas
pub mod SearchLemmas
pub mod ToldLemmas
