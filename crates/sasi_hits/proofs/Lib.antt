pub mod PairLaws
mod HitLaws
mod CallLaws
mod KeyLaws
mod Lists
mod WordLaws
mod OtherLaws
mod TurnLaws
mod OpenKeyLaws
mod OpenHitLaws
mod NextLaws
mod StreamLaws
mod MapLaws
pub mod PartHits
