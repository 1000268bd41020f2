mod Judging
mod Joining
