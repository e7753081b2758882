pub mod ReadPage
