pub mod Entries
pub mod Pages
pub mod Written
pub mod Reach
pub mod Sections
pub mod Told
