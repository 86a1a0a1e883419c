mod Standing
mod Steps
mod Filled
mod Pieces
mod Texts
mod WrittenBytes
