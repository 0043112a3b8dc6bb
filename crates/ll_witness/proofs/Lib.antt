pub mod DiskLemmas
