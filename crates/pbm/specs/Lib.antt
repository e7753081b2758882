pub mod Header
pub mod Read
pub mod Written
pub mod Laws
