mod Rooms
mod Staying
mod WholePages
