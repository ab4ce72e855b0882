pub mod RowPrints
