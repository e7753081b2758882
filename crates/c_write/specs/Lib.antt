pub mod WritePage
