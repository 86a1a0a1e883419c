mod Joins
mod FrameNumbers
mod Sweep
mod Counting
