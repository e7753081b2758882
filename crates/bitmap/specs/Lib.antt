pub mod Form
pub mod Validity
pub mod Laid
pub mod Laws
