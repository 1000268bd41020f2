mod FreshLegs
mod GotMirrored
mod Coming
mod Refused
mod Headlined
