mod Examples
mod WhereExamples
pub mod WhereLaws
