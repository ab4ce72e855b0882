pub mod MapLaws
pub mod AskedPlans
