pub mod Gathers
pub mod RingSeats
pub mod Rings
