pub mod Nybble
