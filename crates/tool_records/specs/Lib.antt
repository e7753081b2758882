pub mod FoundLine
