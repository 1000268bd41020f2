mod Adding
mod Causes
mod Spans
