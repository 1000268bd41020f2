pub mod Commands
pub mod Headline
pub mod Passed
pub mod ScrubText
pub mod Verdict
pub mod Grammar
