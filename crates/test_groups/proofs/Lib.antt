pub mod Lists
mod SegLists
mod Writes
