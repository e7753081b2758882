pub mod Units
pub mod Found
