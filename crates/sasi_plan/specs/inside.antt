pub mod PlanKeeps
