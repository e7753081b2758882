pub mod Owed
