pub mod WholeStream
