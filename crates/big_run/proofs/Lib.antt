mod Fresh
mod Quiet
mod Told
mod Records
