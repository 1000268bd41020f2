pub mod TupleLaws
