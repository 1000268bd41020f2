pub mod Bound
pub mod Passed
pub mod SuitsStack
pub mod Units
