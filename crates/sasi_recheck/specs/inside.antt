pub mod EitherLaws
pub mod OptionalLaws
