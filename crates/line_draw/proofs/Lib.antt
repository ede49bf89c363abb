pub mod Drawn
pub mod PointLists
pub mod Points
pub mod Signs
