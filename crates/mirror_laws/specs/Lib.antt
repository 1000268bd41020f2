pub mod Mirror
pub mod Repair
pub mod OneGood
pub mod OnLegs
pub mod LegByLeg
pub mod Stretches
pub mod Sizes
