pub mod LastWord
pub mod RangeLines
