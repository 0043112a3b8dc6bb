pub mod RungLemmas
pub mod TickLemmas
pub mod TotalLemmas
