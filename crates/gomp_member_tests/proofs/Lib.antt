pub mod KeepsParts
pub mod OwnSeats
