-- Definitions of formats, of words of lines, and of dates and times.
pub mod Calendar
pub mod Dates
pub mod Format
pub mod Times
pub mod Words
