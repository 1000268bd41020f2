pub mod Chosen
pub mod Fine
pub mod Formulas
pub mod Laws
pub mod Lists
pub mod Meetings
pub mod Order
pub mod Sums
