pub mod Nybbles
