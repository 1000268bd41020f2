pub mod AnyOrder
pub mod CalmRuns
pub mod CalmWays
pub mod EachFrom
mod FaultRows
pub mod InSteps
pub mod Leaves
pub mod MapUnder
pub mod Named
pub mod Passed
pub mod PlainSteps
pub mod ScriptRows
pub mod TagLaws
pub mod TupleFrames
