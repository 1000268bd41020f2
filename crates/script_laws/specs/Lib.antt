pub mod Clean
pub mod Examples
pub mod Keeping
pub mod Lines
pub mod OverLines
pub mod Passed
pub mod RoundTrip
pub mod Texts
