pub mod OwnTask
