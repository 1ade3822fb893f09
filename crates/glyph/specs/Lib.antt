pub mod Answer
pub mod Packets
