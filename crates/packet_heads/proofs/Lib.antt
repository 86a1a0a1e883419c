mod Bits
mod Headers
mod Rows
mod Table
mod Walking
