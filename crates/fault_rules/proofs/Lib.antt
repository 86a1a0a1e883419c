mod ChangeLemmas
mod Plain
mod ShareLemmas
mod Terms
mod Unmoved
