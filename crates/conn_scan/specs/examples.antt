pub mod StallInBlocks
pub mod ScanSums
