pub mod RowQueryLaws
