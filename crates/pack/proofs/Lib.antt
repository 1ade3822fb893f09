pub mod TestLaws
pub mod PacketLaws
pub mod CallLaws
pub mod Promises
