pub mod ReadRows
pub mod CursorLaws
