pub mod Md4
