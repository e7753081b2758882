pub mod Returns
