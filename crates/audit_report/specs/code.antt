pub mod Contents
pub mod Ends
pub mod Findings
pub mod Heading
pub mod Packets
pub mod Pages
pub mod Roles
pub mod Tally
