pub mod Apart
pub mod Blocks
pub mod Information
pub mod Layouts
pub mod Made
pub mod Mapped
pub mod Moved
