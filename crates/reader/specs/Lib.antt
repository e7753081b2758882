pub mod Call
pub mod Laws
