pub mod RangeSet
pub mod Spans
