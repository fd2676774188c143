pub mod AllBits
pub mod HeadLaws
pub mod Numbering
pub mod Passes
pub mod Search
pub mod SeriesLaws
pub mod Spans
pub mod Stated
