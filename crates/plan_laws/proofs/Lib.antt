mod PathNumbers
mod Sums
mod Params
mod OwnNumbers
mod Places
mod NamedPlaces
mod Aims
mod PlanNumbers
pub mod WholePlans
