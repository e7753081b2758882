pub mod FieldLength
pub mod Laws
