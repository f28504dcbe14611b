pub mod NewSeats
